use Rattle.std.proofs.Common.{◌≡◌, ℕ, List, [], ◌∷◌, Result, Ok, Err, IfOk, ◌∙◌}
use Rattle.sqlite_value.specs.Order.{Row}
use Rattle.sqlite.specs.Held.{state}
use Rattle.reg_store_tables.specs.Rows.{number}
use Rattle.reg_store_tables.specs.DerivedRows.{with_letter}
use Rattle.reg_store_migration.proofs.LetterCounts.{reading_letter, letters_shown}
use Rattle.reg_store_migration.proofs.status_counts.count_letter.Goals as goal

-- what is read of whatever number there is, in an answer
read_if : {E : Type 0} (U : Type 0) (Holds : ℕ → Type 0) (rows : List Row) (r : Result ℕ E) → U → ((n : ℕ) → rows ≡ (number n ∷ []) ∷ [] → IfOk r (λ count. count ≡ n))
    → ((count : ℕ) → ((n : ℕ) → rows ≡ (number n ∷ []) ∷ [] → count ≡ n) → Holds count) → IfOk r (λ count. U × Holds count)
read_if U Holds rows (Ok count) also read leads = (also, leads count read)
read_if U Holds rows (Err e) also read leads = tt

pub ask-requires : goal.ask-requires
ask-requires g c = reading_letter

pub returns-clause-asked : goal.returns-clause-asked
returns-clause-asked g c clean =
    let db = (state g.S.Store c.args.tx.now.conn.now).now in
    let asked = c.in_ok-found.ensures.asked clean in
    read_if _ _ c.deref.result.now c.count_in.result asked.0 c.count_in.ensures.read (λ count is records columns few both test letter.
    is (with_letter test columns.letters) (c.deref.ensures.value ∙ letters_shown c.args.letter.now test letter db records columns both c.in_ok-found.found.items (asked.1 both.shown.schema) few))
