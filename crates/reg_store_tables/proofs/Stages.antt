-- The schedule and the counts as they are written.
use Rattle.std.proofs.Common.{◌≡◌, ◌<◌, ℕ, zero, suc, List, [], ◌∷◌, ◌++◌, map, take, get_or, length, refl, ap, ◌∙◌, arith, sym, subst}
use Rattle.std.specs.List.{AllByRecursion}
use Rattle.sqlite_value.specs.declared.value.Value.TheVariants.{Null}
use Rattle.sqlite_trees.specs.Tree.{put_row, IsTable}
use Rattle.sqlite_sql.specs.Term.{lit, col, eval_all}
use Rattle.sqlite_rules.specs.declared.error.Rowids.TheVariants.{Chosen}
use Rattle.sqlite_rules.specs.Edit.{with_rowid}
use Rattle.sqlite_rules.specs.Cast.{cast_row}
use Rattle.sqlite.specs.State.{State}
use Rattle.reg_core.specs.Schedule.{Ascends}
use Rattle.reg_store_tables.specs.Schema.{register_schema, longest, kept}
use Rattle.reg_store_tables.specs.Rows.{number, stored_step}
use Rattle.reg_store_tables.specs.Stays.{Ran}
use Rattle.reg_store_tables.specs.Staged.{AddsStep, AreBefore}
use Rattle.reg_store_tables.specs.Steps.{Turns}
use Rattle.reg_store_tables.specs.declared.sql.TheConstants.{PUT_STEP, SET_COUNTS}
use Rattle.reg_store_tables.proofs.Meaning.{put_step_means, set_counts_means}
use Rattle.reg_store_tables.proofs.Placing.{put_behind}
use Rattle.reg_store_tables.proofs.Edits as Edits
use Rattle.reg_store_tables.proofs.Edits.{cast_int, cast_null, made}
use Rattle.reg_store_tables.proofs.Registers.{puts_row, puts_spares, turns_rows, turns_spares}
use Rattle.reg_core.specs.declared.command.Counts.{Counts}
use Rattle.reg_store_tables.specs.DerivedRows.{stored_counts, turned, with_counts}
use Rattle.reg_store_tables.proofs.Queries.{passes}
use Rattle.reg_store_tables.proofs.Updates.{IsKeyed}
use Rattle.reg_store_tables.proofs.Spared.{both_after}

pub puts_step : (from days : ℕ) (old new : State) (count : ℕ) → Ran PUT_STEP.now (number from ∷ number days ∷ []) old new count → AddsStep from days old.now new.now
unfolding register_schema
puts_step from days old new count ran base steps earlier was =
    let params = number from ∷ number days ∷ [] in
    let terms = col 0 0 ∷ lit Null ∷ col 0 1 ∷ [] in
    let step : ℕ × ℕ = (from, days) in
    let puts = puts_row PUT_STEP.now params old new count ran was.schema 10 longest refl terms 3 put_step_means refl refl refl in
    let rows : new.now.trees 17 ≡ map stored_step (steps ++ step ∷ []) =
    puts.rows ∙ ap (λ row. put_row (with_rowid Chosen (old.now.trees 17) row) (old.now.trees 17)) (let made : cast_row longest (eval_all terms (params ∷ [])) ≡ stored_step step = simp (cast_int, cast_null) in made)
    ∙ ap (put_row (stored_step step)) was.rows ∙ put_behind stored_step (λ (s : ℕ × ℕ). s.0) (λ s. refl) step steps earlier in
    let spares = puts_spares longest _ old.now.trees new.now puts in
    record { schema = puts.keeps_schema; others = λ n known apart. spares.same n known apart ∙ was.others n known apart; rows = rows }

-- ---- the steps before a step

after_first : (step : ℕ × ℕ) (rest : List (ℕ × ℕ)) → Ascends (step ∷ rest) → AllByRecursion (λ (later : ℕ × ℕ). step.0 < later.0) rest
after_first step [] up = tt
after_first step (next ∷ rest) up = (up.0, all_above step.0 next.0 up.0 rest (after_first next rest up.1))
  where
    all_above : (low high : ℕ) → low < high → (those : List (ℕ × ℕ)) → AllByRecursion (λ (later : ℕ × ℕ). high < later.0) those → AllByRecursion (λ (later : ℕ × ℕ). low < later.0) those
    all_above low high le [] all = tt
    all_above low high le (x ∷ those) all = (omega arith, all_above low high le those all.1)

rest_ascends : (step : ℕ × ℕ) (rest : List (ℕ × ℕ)) → Ascends (step ∷ rest) → Ascends rest
rest_ascends step [] up = tt
rest_ascends step (next ∷ rest) up = up.1

above_at : (low : ℕ) (steps : List (ℕ × ℕ)) (at : ℕ) (d : ℕ × ℕ) → AllByRecursion (λ (later : ℕ × ℕ). low < later.0) steps → at < length steps → low < (get_or steps at d).0
above_at low [] at d all within = absurd (omega arith)
above_at low (x ∷ steps) zero d all within = all.0
above_at low (x ∷ steps) (suc at) d all within = above_at low steps at d all.1 (omega arith)

pub earlier_steps : (steps : List (ℕ × ℕ)) (at : ℕ) (d : ℕ × ℕ) → Ascends steps → at < length steps → AreBefore (get_or steps at d).0 (take at steps)
earlier_steps [] at d up within = absurd (omega arith)
earlier_steps (x ∷ steps) zero d up within = tt
earlier_steps (x ∷ steps) (suc at) d up within =
    (above_at x.0 steps at d (after_first x steps up) (omega arith), earlier_steps steps at d (rest_ascends x steps up) (omega arith))

-- ---- the counts

pub sets_counts : (old new : State) (counts : Counts) (count : ℕ) → Ran SET_COUNTS.now (number counts.good ∷ number counts.revoked ∷ number counts.expired ∷ []) old new count
    → Turns (λ records. records) (with_counts counts) old.now new.now
unfolding register_schema
sets_counts old new counts count ran records columns both =
    let params = number counts.good ∷ number counts.revoked ∷ number counts.expired ∷ [] in
    let those = lit Null ∷ col 0 0 ∷ col 0 1 ∷ col 0 2 ∷ [] in
    let was = both.kept.counts in
    let turns : Edits.Turns register_schema kept (passes [] params) (made kept those params) old.now.trees new.now count =
    turns_rows SET_COUNTS.now params old new count ran both.shown.schema 8 kept refl [] those set_counts_means refl (subst IsTable (sym was) (tt, tt)) (subst (AllByRecursion IsKeyed) (sym was) (refl, tt)) in
    let rows : new.now.trees 14 ≡ stored_counts counts ∷ [] = turns.rows ∙ ap (map (turned (passes [] params) (made kept those params))) was ∙ simp (cast_int, cast_null) in
    both_after 14 old.now new.now records records columns (with_counts counts columns) both turns.keeps_schema (turns_spares kept _ _ old.now.trees new.now count turns)
    (refl, refl, refl, refl, refl, refl, refl, refl) both.shown.rows.policy (refl, rows, refl, refl)
