-- Steps of a transaction on a connection that look-ups use as well.
use Rattle.std.proofs.Common.{◌≡◌, ◌≤◌, ◌⊎◌, inl, inr, ℕ, Bool, true, false, List, if◌then◌else◌, None, Ok, Err, IsTrue, refl, sym, ap, subst, ◌∙◌, arith, Result, Option}
use Rattle.std.specs.Prelude.{not}
use Rattle.std.proofs.lemmas.Bool.{cases_Bool, false≢true}
use Rattle.sqlite_value.specs.Order.{Row}
use Rattle.sqlite_trees.specs.Tree.{Trees}
use Rattle.sqlite_trees.specs.View.{doubt}
use Rattle.sqlite_trees.specs.declared.store.Store.{Ghosts}
use Rattle.sqlite_schema.specs.declared.command.Command.{Command}
use Rattle.sqlite_schema.specs.declared.command.Command.TheVariants.{Insert, Update, Delete, Commit, Release}
use Rattle.sqlite_schema.specs.declared.command.Returning.{Returning}
use Rattle.sqlite.specs.declared.error.Error.{Error}
use Rattle.sqlite.specs.Effect.{Database}
use Rattle.sqlite.specs.Given.{IsPlain}
use Rattle.sqlite.specs.Held.{Held, state}
use Rattle.sqlite.specs.Listing.{understood}
use Rattle.sqlite.specs.State.{State, HasCleanDisk, KeepsCommit, Survives, Executes, ExecutesIn, CommitsBy, MayCommit, Runs, IsUnchanged, IsRolledBack, shows_rows}
use Rattle.sqlite.proofs.Callers.{runs_as, statement_of}
use Rattle.sqlite.proofs.StateLemmas.{survives_then, survives_weaker}
use Rattle.reg_store_tables.specs.ReadStatements.{command_of}
use Rattle.reg_store_tables.specs.Schema.{register_schema}
use Rattle.reg_store_tables.specs.Stays.{Looked, Moves, Ran}
use Rattle.reg_core.specs.Records.{Records}
use Rattle.reg_store_tables.specs.DerivedRows.{DerivedRows}
use Rattle.reg_store_tables.specs.Shows.{AreRecordsAndDerived, ShowsUntil}
use Rattle.reg_store_tables.specs.Steps.{WritesRows}
use Rattle.reg_store_tables.proofs.PublicLaws.{Remains, deletes_rows, inserts_rows, not_run_remains, ran_remains, remains_committed, remains_open, remains_opens, stays_by, stays_register, under_before, updates_rows, IsWriting}
use Rattle.reg_store_changes.specs.WithinTransactions.{IsInTransaction, IsWritingText, StepsWithin, writes_rows}

-- a connection that doesn't commit each statement by itself is in a transaction
pub is_under_way : (b : Bool) → not b ≡ false → b ≡ true
is_under_way true is = refl
is_under_way false is = absurd (false≢true (sym is))

pub is_idle : (b : Bool) → not b ≡ true → b ≡ false
is_idle true is = absurd (false≢true is)
is_idle false is = refl

-- a text of which is known what it writes
pub writing : {text : List ℕ} {command : Command} → IsWriting text command → writes_rows command ≡ true → IsWritingText text
writing it writes = record { plain = it.plain; writes = ap writes_rows it.is ∙ writes }

-- ---- what a write does to a transaction that is under way

shown_in : (old new : State) (command : Command) (text : List ℕ) (params : Row) (count : ℕ) → writes_rows command ≡ true → old.in_transaction ≡ true → Runs old new None command text params count
    → IsTrue old.is_open × IsTrue new.is_open × (new.committed ≡ old.committed) × (new.in_transaction ≡ true)
shown_in old new (Insert at from) text params count writes under w =
    (w.shown.was_open, w.shown.is_open, subst (λ b. new.committed ≡ (if b then old.committed else new.now)) under w.shown.committed_is, w.shown.mode ∙ under)
shown_in old new (Update at q) text params count writes under w =
    (w.shown.was_open, w.shown.is_open, subst (λ b. new.committed ≡ (if b then old.committed else new.now)) under w.shown.committed_is, w.shown.mode ∙ under)
shown_in old new (Delete at q) text params count writes under w =
    (w.shown.was_open, w.shown.is_open, subst (λ b. new.committed ≡ (if b then old.committed else new.now)) under w.shown.committed_is, w.shown.mode ∙ under)
shown_in old new command text params count writes under w = absurd (false≢true writes)

pub ran_within : (old new : State) (sql : List ℕ) (params : Row) (count : ℕ) → IsWritingText sql → old.now.schema ≡ register_schema → old.in_transaction ≡ true → Executes sql params old new (Ok count)
    → Ran sql params old new count
ran_within old new sql params count is schema under ran =
    let runs : Runs old new None (command_of (understood register_schema sql)) (statement_of sql (understood register_schema sql)) params count =
    runs_as sql params old new register_schema schema (command_of (understood register_schema sql)) refl is.plain count ran in
    let shown = shown_in old new (command_of (understood register_schema sql)) (statement_of sql (understood register_schema sql)) params count is.writes under runs in
    record { was_open = shown.0; is_open = shown.1; committed = shown.2; under_way = shown.3; ran = ran }

-- the schema stays
rows_written : {sql : List ℕ} {params : Row} {old new : State} {count : ℕ} (command : Command) → Ran sql params old new count → IsPlain (understood register_schema sql) → writes_rows command ≡ true
    → command_of (understood register_schema sql) ≡ command → WritesRows old.now new.now
rows_written (Insert at from) ran plain writes is = inserts_rows ran plain is
rows_written (Update at q) ran plain writes is = updates_rows ran plain is
rows_written (Delete at q) ran plain writes is = deletes_rows ran plain is
rows_written command ran plain writes is = absurd (false≢true writes)

-- a write that fails changes nothing, or its transaction is rolled back
pub failed_remains : (old new : State) (sql : List ℕ) (params : Row) (e : Error) → Executes sql params old new (Err e) → Remains old new
unfolding ExecutesIn
failed_remains old new sql params e (inl h) = not_run_remains old new sql params e h
failed_remains old new sql params e (inr h) = elim (cases_Bool (shows_rows false h.0)) [
  | inl shows ↦ inl (rw shows at h.2).1
  | inr runs ↦ ran_remains old new sql h.0 _ e (rw runs at h.2)
]

-- ---- a write inside a transaction commits nothing

may_commit : (s : State) (returning : Option Returning) (command : Command) (text : List ℕ) (params : Row) (db : Trees) → writes_rows command ≡ true → s.in_transaction ≡ true → MayCommit s returning command text params db → ⊥
may_commit s returning command text params db writes under (inl (inl is, same)) = false≢true (subst (λ k. writes_rows k ≡ true) is writes)
may_commit s returning command text params db writes under (inl (inr it, same)) = false≢true (subst (λ k. writes_rows k ≡ true) it.2 writes)
may_commit s returning command text params db writes under (inr may) = false≢true (sym may.0 ∙ under)

pub never_commits : (sql : List ℕ) (params : Row) (s : State) (db : Trees) → IsWritingText sql → s.now.schema ≡ register_schema → s.in_transaction ≡ true → CommitsBy sql params s db → ⊥
unfolding CommitsBy
never_commits sql params s db is schema under h =
    let known = sym h.1.is ∙ ap (λ those. understood those sql) schema in
    may_commit s _ h.0.command _ _ db (ap (λ r. writes_rows (command_of r)) known ∙ is.writes) under h.2

-- ---- a write is a step

-- while a transaction is under way
pub within_open : {s : State} → IsInTransaction s → HasCleanDisk s → s.in_transaction ≡ true → IsTrue s.is_open × (s.now.schema ≡ register_schema)
within_open within clean under = let up = within.live clean under in (up, within.register.now clean up)

pub was_clean : (old new : State) → doubt old.is_clean ≤ doubt new.is_clean → HasCleanDisk new → HasCleanDisk old
was_clean old new forgets clean = omega arith

module _ (old new : State) (sql : List ℕ) (params : Row) (is : IsWritingText sql) (under : old.in_transaction ≡ true) (survives : Survives old new (CommitsBy sql params old)) where
  pub leaves_nothing : Survives old new (λ _. ¬ IsInTransaction old)
  leaves_nothing =
      survives_weaker old new (CommitsBy sql params old) (λ _. ¬ IsInTransaction old)
      (λ clean db commits within. never_commits sql params old db is (within_open within (was_clean old new survives.clean clean) under).1 under commits) survives

remains_within : (old new : State) → doubt old.is_clean ≤ doubt new.is_clean → (HasCleanDisk new → Remains old new) → IsInTransaction old → IsInTransaction new
remains_within old new forgets remains within = record {
  register = stays_register old new forgets (stays_by old new remains) within.register;
  live = λ clean under. remains_opens old new (remains clean) under;
}

remains_kept : (old new : State) → Remains old new → KeepsCommit old new
remains_kept old new remains = record { was_open = λ up. remains_open old new remains up; committed = λ up. remains_committed old new remains up }

pub failed_step : {S : Type 0} {g : Ghosts S} (old new : Held S) (sql : List ℕ) (params : Row) (e : Error) → IsWritingText sql → (state g old).in_transaction ≡ true
    → Survives (state g old) (state g new) (CommitsBy sql params (state g old)) → (HasCleanDisk (state g new) → Executes sql params (state g old) (state g new) (Err e)) → StepsWithin g old new
failed_step {g = g} old new sql params e is under survives fails =
    let remains : HasCleanDisk (state g new) → Remains (state g old) (state g new) = λ clean. failed_remains (state g old) (state g new) sql params e (fails clean) in
    record {
      within = remains_within (state g old) (state g new) survives.clean remains;
      kept = λ within clean. remains_kept (state g old) (state g new) (remains clean);
      survives = leaves_nothing (state g old) (state g new) sql params is under survives;
      idle = λ was. absurd (false≢true (sym was ∙ under));
    }

pub written_step : {S : Type 0} {g : Ghosts S} (old new : Held S) (sql : List ℕ) (params : Row) (count : ℕ) → IsWritingText sql → (state g old).in_transaction ≡ true
    → Survives (state g old) (state g new) (CommitsBy sql params (state g old)) → (HasCleanDisk (state g new) → Executes sql params (state g old) (state g new) (Ok count)) → StepsWithin g old new
written_step {g = g} old new sql params count is under survives runs =
    let ran : IsInTransaction (state g old) → HasCleanDisk (state g new) → Ran sql params (state g old) (state g new) count =
    λ within clean. ran_within (state g old) (state g new) sql params count is (within_open within (was_clean (state g old) (state g new) survives.clean clean) under).1 under (runs clean) in
    record {
      within = λ within. record {
        register = record {
          now = λ clean up.
              let it = ran within clean in
              let schema = (within_open within (was_clean (state g old) (state g new) survives.clean clean) under).1 in
              (rows_written (command_of (understood register_schema sql)) it is.plain is.writes refl).schema schema;
          committed = λ clean up.
              let it = ran within clean in
              ap (λ (db : Database). db.schema) it.committed ∙ within.register.committed (was_clean (state g old) (state g new) survives.clean clean) it.was_open;
        };
        live = λ clean still. (ran within clean).is_open;
      };
      kept = λ within clean. let it = ran within clean in record { was_open = λ up. it.was_open; committed = λ up. it.committed };
      survives = leaves_nothing (state g old) (state g new) sql params is under survives;
      idle = λ was. absurd (false≢true (sym was ∙ under));
    }

-- nothing is done
pub no_step : {S : Type 0} {g : Ghosts S} {a : Held S} → StepsWithin g a a
no_step = record {
  within = λ within. within;
  kept = λ within clean. record { was_open = λ up. up; committed = λ up. refl };
  survives = record { clean = omega arith; shield = λ shielded. shielded; counts = omega arith; limit = refl; closes = λ clean up. inl up; crash = λ clean trees may. inl may };
  idle = λ was. was;
}

pub steps_clean : {S : Type 0} {g : Ghosts S} {a b : Held S} → StepsWithin g a b → HasCleanDisk (state g b) → HasCleanDisk (state g a)
steps_clean {g = g} {a = a} {b = b} steps = was_clean (state g a) (state g b) steps.survives.clean

-- one step after another
pub steps_then : {S : Type 0} {g : Ghosts S} {a b c : Held S} → StepsWithin g a b → StepsWithin g b c → StepsWithin g a c
steps_then {g = g} {a = a} {b = b} {c = c} first second = record {
  within = λ within. second.within (first.within within);
  kept = λ within clean.
      let was = steps_clean {g = g} {a = b} {b = c} second clean in
      let later = second.kept (first.within within) clean in
      record {
        was_open = λ up. (first.kept within was).was_open (later.was_open up);
        committed = λ up. later.committed up ∙ (first.kept within was).committed (later.was_open up);
      };
  survives = survives_then (state g a) (state g b) (state g c) (λ _. ¬ IsInTransaction (state g a)) (λ _. ¬ IsInTransaction (state g b)) (λ _. ¬ IsInTransaction (state g a)) (λ clean db none. none) (λ clean db none within. none (first.within within)) first.survives second.survives;
  idle = λ was. second.idle (first.idle was);
}

-- a look-up is a step, too
pub looked_step : {S : Type 0} {g : Ghosts S} {a b : Held S} → Looked g a b → StepsWithin g a b
looked_step {g = g} {a = a} {b = b} looked = record {
  within = λ within. record {
    register = stays_register (state g a) (state g b) looked.survives.clean (looked.same within.register) within.register;
    live = λ clean under. looked.live clean under (within.live (was_clean (state g a) (state g b) looked.survives.clean clean) (under_before looked under));
  };
  kept = λ within clean. let stays = looked.same within.register in record { was_open = λ up. stays.was_open clean up; committed = λ up. stays.committed clean up };
  survives = survives_weaker (state g a) (state g b) (λ _. ⊥) (λ _. ¬ IsInTransaction (state g a)) (λ clean db none. absurd none) looked.survives;
  idle = looked.idle;
}

-- what the tables show in a transaction that is still under way after a look-up, they show until its end
pub shows_within : {S : Type 0} (g : Ghosts S) (old new : Held S) (records : Records) (columns : DerivedRows) → new.in_transaction ≡ true → AreRecordsAndDerived (state g old).now records columns → ShowsUntil g old new records
shows_within g old new records columns under both = record { saved = λ idle. absurd (false≢true (sym idle ∙ under)); tables = λ clean up. both.shown }

-- a step after a look-up that left the transaction under way is one from before it
pub after_look : {S : Type 0} (g : Ghosts S) (old mid : Held S) (new : State) (P : Database → Database → Type 0) → Looked g old mid → IsInTransaction (state g old) → HasCleanDisk (state g mid) → mid.in_transaction ≡ true → Moves (state g mid) new (P (state g mid).now)
    → Moves (state g old) new (P (state g old).now)
after_look g old mid new P looked within clean under moved =
    let was = was_clean (state g old) (state g mid) looked.survives.clean clean in
    let same = looked.within (λ clean up. within.register.now clean up) clean moved.was_open under in
    record {
      was_open = same.was_open;
      is_open = moved.is_open;
      committed = moved.committed ∙ same.committed;
      under_way = moved.under_way;
      tables = subst (λ db. P db new.now) same.now moved.tables;
    }
