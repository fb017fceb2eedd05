-- Rows that are the steps of a schedule.
use Rattle.std.specs.Prelude.{MatchOption, IfSome}
use Rattle.std.proofs.Common.{◌≡◌, Option, None, Some, ◌<◌, ◌≤◌, ◌+◌, ℕ, zero, suc, List, [], ◌∷◌, ◌++◌, take, get_or, length, refl, sym, ap, subst, ◌∙◌, arith, add-one}
use Rattle.sqlite_value.specs.Order.{Row, column}
use Rattle.reg_core.specs.Calendar.{clock_end}
use Rattle.reg_store_tables.specs.Rows.{number}
use Rattle.reg_store_opening.specs.VersionAndOffice.{AreSteps, AreVersionRows, HaveMoments, IsStep}
use Rattle.reg_store_opening.proofs.Registered.{number_one}

-- one row more is one step more
steps_on : (rows : List Row) (k : ℕ) (d : Row) (steps : List (ℕ × ℕ)) (step : ℕ × ℕ) → k < length rows → AreSteps (take k rows) steps → IsStep (get_or rows k d) step → AreSteps (take (suc k) rows) (steps ++ step ∷ [])
steps_on [] k d steps step within are is = absurd (omega arith)
steps_on (row ∷ rows) zero d [] step within are is = (is.0, is.1, tt)
steps_on (row ∷ rows) zero d (x ∷ steps) step within are is = absurd are
steps_on (row ∷ rows) (suc k) d [] step within are is = absurd are
steps_on (row ∷ rows) (suc k) d (x ∷ steps) step within are is = (are.0, are.1, steps_on rows k d steps step (omega arith) are.2 is)

pub steps_pushed : (rows : List Row) (k : ℕ) (d : Row) (steps : List (ℕ × ℕ)) (step : ℕ × ℕ) → k < length rows → AreSteps (take k rows) steps → IsStep (get_or rows k d) step → AreSteps (take (k + 1) rows) (steps ++ step ∷ [])
steps_pushed rows k d steps step within are is = rw add-one (steps_on rows k d steps step within are is)

-- each row is a step
pub steps_at : (rows : List Row) (k : ℕ) (d : Row) (steps : List (ℕ × ℕ)) → k < length rows → HaveMoments steps → AreSteps rows steps → (step : ℕ × ℕ) × IsStep (get_or rows k d) step
steps_at [] k d steps within moments are = absurd (omega arith)
steps_at (row ∷ rows) k d [] within moments are = absurd are
steps_at (row ∷ rows) zero d (x ∷ steps) within moments are = (x, (are.0, are.1, moments.0))
steps_at (row ∷ rows) (suc k) d (x ∷ steps) within moments are = steps_at rows k d steps (omega arith) moments.1 are.2

-- rows are the steps of one schedule alone
pub steps_same : (rows : List Row) (a b : List (ℕ × ℕ)) → AreSteps rows a → AreSteps rows b → a ≡ b
steps_same [] [] [] one two = refl
steps_same [] [] (y ∷ b) one two = absurd two
steps_same [] (x ∷ a) b one two = absurd one
steps_same (row ∷ rows) [] b one two = absurd one
steps_same (row ∷ rows) (x ∷ a) [] one two = absurd two
steps_same (row ∷ rows) (x ∷ a) (y ∷ b) one two =
    let from : x.0 ≡ y.0 = number_one x.0 y.0 (sym one.0 ∙ two.0) in
    let days : x.1 ≡ y.1 = number_one x.1 y.1 (sym one.1 ∙ two.1) in
    let rest : a ≡ b = steps_same rows a b one.2 two.2 in
    λ i. (from i, days i) ∷ rest i

pub is_step : (other row : Row) (step : ℕ × ℕ) → row ≡ other → IsStep row step → IsStep other step
is_step other row step same is = subst (λ r. IsStep r step) same is

-- the one row
pub only_row : (rows : List Row) (a b : Row) → rows ≡ a ∷ [] → rows ≡ b ∷ [] → a ≡ b
only_row rows a b one two = cc

-- and the one version that it says
pub one_version : (rows : List Row) (a b : ℕ) → AreVersionRows a rows → AreVersionRows b rows → a ≡ b
one_version rows a b one two = number_one a b (sym one.2 ∙ ap (λ r. column r 0) (only_row rows one.0 two.0 one.1 two.1) ∙ two.2)

-- a moment that the clock lets pass, judged both ways
pub last_judged : (row : Row) (at : ℕ) (found : Option ℕ) → ((n : ℕ) → column row at ≡ number n → MatchOption found (clock_end ≤ n) (λ read. read ≡ n)) → IfSome found (λ n. column row at ≡ number n) → IfSome found (λ n. n < clock_end)
    → MatchOption found ((last : ℕ) → (last < clock_end) × (column row at ≡ number last) → ⊥) (λ last. (last < clock_end) × (column row at ≡ number last))
last_judged row at None read in_column early = λ last has. absurd (let late : clock_end ≤ last = read last has.1 in omega (arith, late, has.0))
last_judged row at (Some n) read in_column early = (early, in_column)
