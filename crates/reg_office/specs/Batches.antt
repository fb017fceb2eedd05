-- Commands that run in one transaction.
use Rattle.std.specs.Prelude.{◌≡◌, ℕ, List, Result, Ok, Err}
use Rattle.sqlite_trees.specs.declared.store.Store.{Ghosts}
use Rattle.sqlite.specs.Held.{Held, state}
use Rattle.sqlite.specs.State.{State, HasCleanDisk}
use Rattle.reg_core.specs.Records.{Records}
use Rattle.reg_core.specs.declared.command.Command.{Command}
use Rattle.reg_core.specs.declared.command.Reply.{Reply}
use Rattle.reg_core.specs.declared.refusal.Fault.{Fault}
use Rattle.reg_core.specs.declared.refusal.Fault.TheVariants.{Refused, Memory, Store, Signer, Read, Write}
use Rattle.reg_core_laws.specs.Run.{Happens, Run}
use Rattle.reg_crl.specs.Signing.{Identity, signed_by}
use Rattle.reg_office_api.specs.Signers.{Signs}
use Rattle.reg_store_changes.specs.WithinTransactions.{IsInTransaction}
use Rattle.reg_store_tables.specs.DerivedRows.{DerivedRows}
use Rattle.reg_store_tables.specs.Kept.{Kept}
use Rattle.reg_store_tables.specs.Shows.{AreRecordsAndDerived}
use Rattle.reg_store_tables.specs.Steps.{IsUnderWay}
use Rattle.reg_office.specs.Stands.{SoundFor}

-- a transaction is under way over an open connection; in it the tables show the records, which are sound for the office's signer, and the derived
-- tables match them
pub record StandsWithin (signs : Signs) (identity : Identity) (s : State) (records : Records) : Type 0 where
  pub under_way : IsUnderWay s
  pub columns : DerivedRows
  pub both : AreRecordsAndDerived s.now records columns
  pub kept : Kept columns records
  pub sound : SoundFor signs identity records

-- A command that runs inside a transaction, if the disk returned what was written: its outcome, by the rules (`Happens`).
abbrev pub HappensWithin
    : {C : Type 0} → Ghosts C → Signs → Identity → Held C → Held C → ℕ → Command → Result Reply Fault → Type 0
HappensWithin g signs identity old new now command outcome =
    IsInTransaction (state g old) → HasCleanDisk (state g new)
    → (records : Records) → StandsWithin signs identity (state g old) records
    → (after : Records) × Happens (signed_by signs identity) records now command outcome after
    × StandsWithin signs identity (state g new) after

-- Commands that run inside a transaction, each at its moment: their outcomes, by the rules and in their order (`Run`).
abbrev pub RunsWithin
    : {C : Type 0} → Ghosts C → Signs → Identity → Held C → Held C → List (ℕ × Command)
    → List (Result Reply Fault) → Type 0
RunsWithin g signs identity old new commands outcomes =
    IsInTransaction (state g old) → HasCleanDisk (state g new)
    → (records : Records) → StandsWithin signs identity (state g old) records
    → (after : Records) × Run (signed_by signs identity) records commands outcomes after
    × StandsWithin signs identity (state g new) after

-- what stops a batch: out of memory, a failure of the store, or a command that issues a CRL
abbrev pub StopsBatch : Fault → Type 0
StopsBatch Memory = Unit {0}
StopsBatch Store = Unit {0}
StopsBatch Signer = Unit {0}
StopsBatch (Refused why) = ⊥
StopsBatch Read = ⊥
StopsBatch Write = ⊥
