-- What the statement on the schedule shows.
use Rattle.std.proofs.Common.{◌≡◌, ◌<◌, ℕ, true, List, [], ◌∷◌, map, codes, refl, ap, subst, ◌∙◌, arith}
use Rattle.std.specs.List.{filter, AllByRecursion}
use Rattle.std.specs.List.Sorted.{IsPermutation}
use Rattle.sqlite_value.specs.Order.{Row}
use Rattle.sqlite_value.specs.declared.keys.Key.{Key}
use Rattle.sqlite_trees.proofs.ListLemmas.{filter_all}
use Rattle.sqlite_sql.specs.Term.{Term, col}
use Rattle.sqlite_sql.specs.Query.{Output}
use Rattle.sqlite.specs.Effect.{Database, Reads}
use Rattle.sqlite.specs.Listing.{understood}
use Rattle.sqlite_resolve.specs.Compile.{first}
use Rattle.sqlite_tied.specs.Compute.{everything}
use Rattle.reg_core.specs.Records.{Records}
use Rattle.reg_core.specs.Schedule.{Ascends}
use Rattle.reg_store_tables.specs.Schema.{register_schema}
use Rattle.reg_store_tables.specs.Rows.{number, stored_step}
use Rattle.reg_store_tables.specs.Shows.{IsShownBy}
use Rattle.reg_store_tables.specs.ReadStatements.{command_of, shown_step}
use Rattle.reg_store_tables.specs.declared.sql.TheConstants.{STEPS}
use Rattle.reg_store_tables.proofs.Queries.{selects, no_limit, Given, keyed_given, all_of}
use Rattle.reg_store_tables.proofs.Selecting.{select_never}
use Rattle.reg_store_tables.proofs.FailingLemmas.{IsSelect, select}
use Rattle.reg_store_tables.proofs.Sorting.{ascending_key, ascends, Rises, sorted_same}

abbrev pub moment_of : ℕ × ℕ → ℕ
moment_of step = step.0

weaken : (low high : ℕ) (xs : List (ℕ × ℕ)) → low < high → AllByRecursion (λ step. high < moment_of step) xs → AllByRecursion (λ step. low < moment_of step) xs
weaken low high [] le all = tt
weaken low high (x ∷ xs) le all = (omega arith, weaken low high xs le all.1)

pub ascends_rises : (xs : List (ℕ × ℕ)) → Ascends xs → Rises moment_of xs
ascends_rises [] up = tt
ascends_rises (x ∷ []) up = (tt, tt)
ascends_rises (x ∷ y ∷ xs) up =
    let rest = ascends_rises (y ∷ xs) up.1 in
    ((up.0, weaken (moment_of x) (moment_of y) xs up.0 rest.0), rest)

abbrev by_moment : List (Term × Key)
by_moment = (col 1 0, ascending_key) ∷ []

pub steps_text : IsSelect STEPS.now (selects 17 [] (col 1 0 ∷ col 1 2 ∷ []) by_moment no_limit) (codes "from_at" ∷ codes "days" ∷ []) (λ (_ : Unit {0}). [])
unfolding understood everything register_schema first
steps_text =
    select STEPS.now 17 [] (col 1 0 ∷ col 1 2 ∷ []) by_moment no_limit (codes "from_at" ∷ codes "days" ∷ []) (λ (_ : Unit {0}). []) refl (refl, refl) refl (select_never STEPS.now _ _ refl refl refl) (λ it. (omega arith, refl)) (λ it. refl)

abbrev out : ℕ × ℕ → Output
out step = (number (moment_of step) ∷ [], shown_step step)

module _ (db : Database) (records : Records) (shown : IsShownBy db records) (rows : List Row) (reads : Reads (command_of (understood register_schema STEPS.now)) db [] rows) where
  steps_given : Given (λ _. true) out records.policy.schedule (selects 17 [] (col 1 0 ∷ col 1 2 ∷ []) by_moment no_limit) [] rows
  steps_given =
      keyed_given (λ _. Unit {0}) stored_step (λ _. true) out records.policy.schedule (all_of (λ _. Unit {0}) (λ _. tt) records.policy.schedule) 17 [] (col 1 0 ∷ col 1 2 ∷ []) by_moment no_limit [] STEPS.now (codes "from_at" ∷ codes "days" ∷ []) steps_text.means db
      refl rows reads shown.rows.schedule (λ step any. refl) (λ step. refl)

  pub steps_are : rows ≡ map shown_step records.policy.schedule
  steps_are =
      let all : filter (λ (step : ℕ × ℕ). true) records.policy.schedule ≡ records.policy.schedule = filter_all (λ _. true) records.policy.schedule (all_of (λ _. true ≡ true) (λ _. refl) records.policy.schedule) in
      let same : IsPermutation records.policy.schedule steps_given.to = subst (λ l. IsPermutation l steps_given.to) all steps_given.same in
      let to : steps_given.to ≡ records.policy.schedule =
      sorted_same moment_of records.policy.schedule steps_given.to (ascends_rises records.policy.schedule shown.rows.policy.schedule.ascending) same (ascends moment_of steps_given.to steps_given.sorted) in
      steps_given.shown ∙ ap (map shown_step) to
