-- The records of an office that is opened again after a stop.
use Rattle.std.specs.Prelude.{◌≡◌, ◌⊎◌, ℕ, List, Option, IsSomeAnd, Result, Ok, IsTrue}
use Rattle.sqlite_trees.specs.declared.store.Store.{Ghosts}
use Rattle.sqlite.specs.Held.{Held, state}
use Rattle.sqlite.specs.State.{IsLive, Survives}
use Rattle.reg_core.specs.Changes.{with_schedule}
use Rattle.reg_core.specs.Records.{Records}
use Rattle.reg_core.specs.declared.command.Command.{Command}
use Rattle.reg_core.specs.declared.command.Reply.{Reply}
use Rattle.reg_core.specs.declared.refusal.Fault.{Fault}
use Rattle.reg_core_lists.specs.declared.positions.Positions.{Positions}
use Rattle.reg_crl.specs.Signing.{Identity}
use Rattle.reg_office_api.specs.Follows.{FollowsPages}
use Rattle.reg_office_api.specs.Signers.{Signs}
use Rattle.reg_der.specs.Issuers.{with_key_identifier}
use Rattle.reg_store.specs.OpenedAgain.{IsOpenedAgain}
use Rattle.reg_store_tables.specs.Kept.{ShowsKept}
use Rattle.reg_store_tables.specs.Schema.{register_schema}
use Rattle.reg_office.specs.AfterStoppedCommand.{AreRunByOne, ChangingCall, Does, PartlyRun, batch_call, command_call, follow_call, schedule_call, identifier_call}
use Rattle.reg_office.specs.Stands.{Stands, HasOutcome, HasRun}

-- the command was accepted over the records, and the store shows the records after it
pub record ShowsAccepted {C : Type 0} (g : Ghosts C) (signs : Signs) (held : Held C) (identity : Identity)
    (records : Records) (now : ℕ) (command : Command) : Type 0 where
  pub answer : Reply
  pub came : HasOutcome g signs held identity records now command (Ok answer)

-- if the machine stops after a command, or in the middle of it, and the register is opened again, it shows the records before the command, or
-- those after its acceptance, with derived tables that match them; the disk may lose writes that were not synced
abbrev pub OpensBeforeOrAfter : {C : Type 0} → Ghosts C → Signs → Type 0
OpensBeforeOrAfter {C = C} g signs =
    (old new again : Held C) (identity : Identity) (records : Records) (now : ℕ) (command : Command)
    → Stands g signs old identity records → IsTrue (state g old).is_open → IsLive (state g old)
    → Survives (state g old) (state g new) (Does g signs old identity now command) → IsOpenedAgain g new again
    → ∥ Stands g signs again identity records ⊎ ShowsAccepted g signs again identity records now command ∥₁

-- ---- over a run

-- the store shows the records after a prefix of the commands, with derived tables that match them
abbrev pub StandsPartlyRun : {C : Type 0} → Ghosts C → Signs → Held C → Identity → Records
    → List (ℕ × Command) → List (Result Reply Fault) → Type 0
StandsPartlyRun g signs held identity records commands outcomes =
    PartlyRun signs identity (Stands g signs held identity) (ShowsAccepted g signs held identity)
    records commands outcomes

-- if the machine stops after such a run, or in the middle of it, and the register is opened again, it shows the records after a prefix of the
-- commands, which includes each command that was reported as accepted; the disk may lose writes that were not synced
abbrev pub OpensAfterAPrefix : {C : Type 0} → Ghosts C → Signs → Type 0
OpensAfterAPrefix {C = C} g signs =
    (old new again : Held C) (identity : Identity) (records : Records) (commands : List (ℕ × Command))
    (outcomes : List (Result Reply Fault))
    → Stands g signs old identity records → IsTrue (state g old).is_open → IsLive (state g old)
    → AreRunByOne g signs identity old commands outcomes new → IsOpenedAgain g new again
    → ∥ StandsPartlyRun g signs again identity records commands outcomes ∥₁

-- ---- over any calls

-- the store shows the records after the call: after an accepted command, a batch or pages, or with this schedule or this key identifier
abbrev pub ShowsCallDone : {C : Type 0} → Ghosts C → Signs → Held C → Identity → Records → ChangingCall → Type 0
ShowsCallDone g signs held identity records (command_call now command) =
    ShowsAccepted g signs held identity records now command
ShowsCallDone g signs held identity records (batch_call commands) =
    (outcomes : List (Result Reply Fault)) × HasRun g signs held identity records commands outcomes
ShowsCallDone g signs held identity records (follow_call pages) =
    (reached : Positions) × (after : Records) × FollowsPages pages reached records after
    × Stands g signs held identity after
ShowsCallDone g signs held identity records (schedule_call steps) =
    ShowsKept g held (with_schedule records steps)
ShowsCallDone g signs held identity records (identifier_call octets) =
    ShowsKept g held (with_key_identifier records octets)

-- if the machine stops, and the rows that the disk kept are opened again, with a register's schema, the store shows these records, or those after
-- the interrupted call
abbrev pub OpensReported
    : {C : Type 0} → Ghosts C → Signs → Held C → Identity → Records → Option ChangingCall → Type 0
OpensReported {C = C} g signs held identity records interrupted =
    (again : Held C) → IsOpenedAgain g held again → (state g again).committed.schema ≡ register_schema
    → ∥ Stands g signs again identity records
    ⊎ IsSomeAnd interrupted (λ call. ShowsCallDone g signs again identity records call) ∥₁
