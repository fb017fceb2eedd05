-- The laws of look-ups, for proofs above: look-ups one after another.
pub use Rattle.reg_store_tables.proofs.AscendLemmas.{ascending_same, ascending_sorted, ascends_tested, serial_of}
pub use Rattle.reg_store_tables.proofs.CertificateLemmas.{by_serial_row, by_serial_text}
pub use Rattle.reg_store_tables.proofs.Committing.{changes, clean_before, commits, keeps, keeps_days, led, left, looked_changes, looked_fails, turns}
pub use Rattle.reg_store_tables.proofs.Compares.{and_true, as_numbers, compares, eq_number, eq_serial, eq_text, lt_number}
pub use Rattle.reg_store_tables.proofs.CountLemmas.{counts_of, is_g, letters_counted}
pub use Rattle.reg_store_tables.proofs.Days.{stays_days}
pub use Rattle.reg_store_tables.proofs.Edits.{Empties, Puts, Turns, cast_int, cast_null, does_empty, made, same_value, uncounted_is, went}
pub use Rattle.reg_store_tables.proofs.EntryLemmas.{and_false, is_le, not_le}
pub use Rattle.reg_store_tables.proofs.Few.{mapped}
pub use Rattle.reg_store_tables.proofs.Greatest.{numbered_rises}
pub use Rattle.reg_store_tables.proofs.Keeping.{deletes_keep, deletes_rows, inserts_rows, updates_rows, writes_on}
pub use Rattle.reg_store_tables.proofs.Letters.{counts_stand, found_each, map_same, same_counts}
pub use Rattle.reg_store_tables.proofs.LookingUp.{on_err}
pub use Rattle.reg_store_tables.proofs.Meaning.{IsWriting, deletes, inserts, put_step_means, set_counts_means, updates}
pub use Rattle.reg_store_tables.proofs.Stages.{earlier_steps, puts_step, sets_counts}
pub use Rattle.reg_store_tables.proofs.Moving.{asked_moves, moves_in_place, leading, may_move, moves, moves_as, moves_on, ok_if, stays_here, stepped_clean, then_moves, unchanged_before, under_way, was_clean as moving-was_clean}
pub use Rattle.reg_store_tables.proofs.OverdueLemmas.{not_good}
pub use Rattle.reg_store_tables.proofs.PageLemmas.{crl_out}
pub use Rattle.reg_store_tables.proofs.Params.{moment_is, number_is, ok_then as params-ok_then}
pub use Rattle.reg_store_tables.proofs.Placing.{counted_put, mapped_push, pushed, stored_put}
pub use Rattle.reg_store_tables.proofs.Queries.{Given, all_kept, all_of, as_command, given, kept_behind, keyed_given, no_limit, passes, picked, selects, shows, unmapped}
pub use Rattle.reg_store_tables.proofs.Registers.{at_known, empties_rows, empties_spares, none_acts, puts_row, puts_spares, spares, turns_rows, turns_spares, unequal_trees}
pub use Rattle.reg_store_tables.proofs.StopsAfterTransactions.{at_rest, leaves_first, leaves_less, resting, rests_sound}
pub use Rattle.reg_store_tables.proofs.Rowids.{behind, rowids_are, rowids_numbered, with_rowids}
pub use Rattle.reg_store_tables.proofs.ScheduleLemmas.{ascends_rises, moment_of, steps_are}
pub use Rattle.reg_store_tables.proofs.Selecting.{select_never, select_planned, selected}
pub use Rattle.reg_store_tables.proofs.Sorting.{Rises, ascending_key, ascends, sorted_same}
pub use Rattle.reg_store_tables.proofs.Spared.{Counted, Numbered, both_after, derived_after, rows_after}
pub use Rattle.reg_store_tables.proofs.Staying.{Remains, not_run_remains, ran_remains, remains_committed, remains_open}
pub use Rattle.reg_store_tables.proofs.Staying.{both_shows, both_then, fails_remains, fails_stays, looked_both, reads_nothing, remains_opens, rows_same, shown_opens, shown_answers, stays_by, shown_stays, shows_register, some_then, stays_both, stays_holds, stays_kept, stays_register, stays_shows, stays_then, stepped_then, under_before}
pub use Rattle.reg_store_tables.proofs.Updates.{IsKeyed, behind_keyed, behind_passing, behind_table, behind_turned, stored_keyed, stored_table, stored_turned}
pub use Rattle.reg_store_tables.proofs.Written.{received_early, revocations_have, updated_early}
use Rattle.std.specs.Prelude.{IsErr}
use Rattle.std.proofs.Common.{◌≤◌, Result, IfOk}
use Rattle.sqlite_trees.specs.View.{doubt}
use Rattle.sqlite_trees.specs.declared.store.Store.{Ghosts}
use Rattle.sqlite.specs.Held.{Held, state}
use Rattle.reg_core.specs.Records.{Records}
use Rattle.reg_core.specs.Sound.{SoundRows}
use Rattle.reg_store_tables.specs.Kept.{ShowsKept, ShowsKeptNow}
use Rattle.reg_store_tables.specs.LookUps.{FindsIf, LooksUp}
use Rattle.reg_store_tables.specs.Shows.{Shows}
use Rattle.reg_store_tables.specs.Stays.{IsRegister, Looked, Stays}
use Rattle.reg_store_tables.specs.declared.fault.DatabaseFault.{DatabaseFault}
use Rattle.reg_store_tables.proofs.LookingUp.{gives_none, was_clean}
use Rattle.reg_store_tables.proofs.Staying.{kept_first, kept_second, kept_shows, kept_shows_until, looked_then, ok_then, shows_register, stays_kept, stays_shows}
pub use Rattle.reg_store_tables.proofs.LookingUp.{gives_none, looked_none, was_clean}
pub use Rattle.reg_store_tables.proofs.Staying.{fails_within, kept_shows, kept_until, looked_shows, shows_until, shown_within, looked_then, ok_then}

-- ---- what stays shown

-- what was shown stays so over a call that leaves a register's tables as they are
pub after_look :
    {C : Type 0} (g : Ghosts C) (old new : Held C) (records : Records)
    → doubt (state g old).is_clean ≤ doubt (state g new).is_clean
    → (IsRegister (state g old) → Stays (state g old) (state g new))
    → ShowsKept g old records → ShowsKept g new records
after_look g old new records forgets same kept =
    stays_kept g old new records forgets (same (shows_register g old records (kept_shows g old records kept))) kept

-- the same over a look-up
pub after_looked : {C : Type 0} {g : Ghosts C} {old new : Held C} → Looked g old new → (records : Records) → ShowsKept g old records → ShowsKept g new records
after_looked {g = g} {old = old} {new = new} looked records = after_look g old new records looked.survives.clean looked.same

-- the same of the records alone
pub shown_on :
    {C : Type 0} (g : Ghosts C) (old new : Held C) (records : Records)
    → doubt (state g old).is_clean ≤ doubt (state g new).is_clean
    → (IsRegister (state g old) → Stays (state g old) (state g new))
    → Shows g old records → Shows g new records
shown_on g old new records forgets same shown =
    stays_shows g old new records forgets (same (shows_register g old records shown)) shown

-- ---- what look-ups tell

module _ {C : Type 0} {g : Ghosts C} {a b : Held C} where
  -- what a look-up finds
  pub by_finding : {T : Type 0} {May : Records → Type 0} {result : Result T DatabaseFault} {IsSo : Records → T → Type 0} → FindsIf May g a b result IsSo → LooksUp g a b (λ records. IfOk result (IsSo records))
  by_finding finds = record { looked = finds.looked; found = λ records kept sound clean. finds.found records (kept_shows_until g a b records kept) clean }

  -- and one over what is kept beside the records
  pub by_finding_kept : {T : Type 0} {May : Records → Type 0} {result : Result T DatabaseFault} {IsSo : Records → T → Type 0} → FindsIf May g a b result (λ records found. ShowsKeptNow (state g a) records → IsSo records found)
      → LooksUp g a b (λ records. IfOk result (IsSo records))
  by_finding_kept {result = result} finds = record { looked = finds.looked; found = λ records kept sound clean. ok_then result (finds.found records (kept_shows_until g a b records kept) clean) (λ found so. so (kept.0, kept.1.tables, kept.2)) }

  -- and one over sound records
  pub by_finding_sound : {T : Type 0} {May : Records → Type 0} {result : Result T DatabaseFault} {IsSo : Records → T → Type 0} → FindsIf May g a b result (λ records found. SoundRows records → IsSo records found)
      → LooksUp g a b (λ records. IfOk result (IsSo records))
  by_finding_sound {result = result} finds = record { looked = finds.looked; found = λ records kept sound clean. ok_then result (finds.found records (kept_shows_until g a b records kept) clean) (λ found so. so sound) }

  -- what holds anyway
  pub by_none : {IsSo : Records → Type 0} → Looked g a b → ((records : Records) → IsSo records) → LooksUp g a b IsSo
  by_none looked holds = record { looked = looked; found = λ records kept sound clean. holds records }

  -- what follows from what was told
  pub so : {IsSo More : Records → Type 0} → LooksUp g a b IsSo → ((records : Records) → SoundRows records → IsSo records → More records) → LooksUp g a b More
  so looks more = record { looked = looks.looked; found = λ records kept sound clean. more records sound (looks.found records kept sound clean) }

  -- one look-up after another
  pub and_so : {c : Held C} {First Second : Records → Type 0} → LooksUp g a b First → LooksUp g b c Second → LooksUp g a c (λ records. First records × Second records)
  and_so {c = c} first second = record {
    looked = looked_then first.looked second.looked;
    found = λ records kept sound clean. (
      first.found records (kept_first first.looked second.looked records kept) sound (was_clean (state g b) (state g c) second.looked.survives.clean clean),
      second.found records (kept_second first.looked second.looked records kept) sound clean,
    );
  }

  -- a look-up that fails tells nothing of the records
  pub not_found : {T E : Type 0} (P : Records → T → Type 0) (outcome : Result T E) → IsErr outcome → Looked g a b → LooksUp g a b (λ records. IfOk outcome (P records))
  not_found P outcome failed looked = by_none looked (λ records. gives_none (P records) outcome failed)
