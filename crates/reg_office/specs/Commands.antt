-- One run of a command in an office, over its store and its signer.
use Rattle.std.specs.Prelude.{◌≡◌, ℕ, ◌<◌, List, Result, IsErrOf, IfErr}
use Rattle.sqlite_trees.specs.declared.store.Store.{Ghosts}
use Rattle.sqlite.specs.Held.{Held, state}
use Rattle.sqlite.specs.State.{HasCleanDisk}
use Rattle.reg_core.specs.Records.{Records}
use Rattle.reg_core.specs.declared.command.Command.{Command}
use Rattle.reg_core.specs.declared.command.Command.TheVariants.{Crl as IssueCrl}
use Rattle.reg_core.specs.declared.command.Reply.{Reply}
use Rattle.reg_core.specs.declared.refusal.Fault.{Fault}
use Rattle.reg_core.specs.declared.refusal.Fault.TheVariants.{Signer as SignerFailed}
use Rattle.reg_crl.specs.Signing.{Identity}
use Rattle.reg_crl.specs.declared.signer.Signer.{Ghosts as Signer}
use Rattle.reg_office_api.specs.Signers.{Signs}
use Rattle.reg_store_changes.specs.WithinTransactions.{StaysIdle}
use Rattle.reg_store_tables.specs.Stays.{Changed}
use Rattle.reg_office.specs.AfterStoppedCommand.{Does}
use Rattle.reg_office_reads.specs.Faults.{IsOfficeFault}
use Rattle.reg_office.specs.Stands.{Stands, HasOutcome}

-- The command had this outcome over the store's records, and the store shows the records after it. A stop leaves the records before the
-- command or after it, and no transaction stays open. The signer has the same identity. `Signer` is the outcome only of a CRL for which the
-- signer counted a failure.
pub record IsCommandRun {C S : Type 0} (g : Ghosts C) (signs : Signs) (identity : S → Identity)
    (failures : S → ℕ) (old new : Held C) (signer left : S) (now : ℕ) (command : Command)
    (outcome : Result Reply Fault) : Type 0 where
  pub step : (records : Records) → Stands g signs old (identity signer) records → HasCleanDisk (state g new)
      → HasOutcome g signs new (identity left) records now command outcome
  pub changed : Changed g old new (Does g signs old (identity signer) now command) outcome
  pub idle : StaysIdle g old new
  pub same_identity : identity left ≡ identity signer
  pub device : IsErrOf outcome SignerFailed → (command ≡ IssueCrl) × (failures signer < failures left)
  pub faults : IfErr outcome IsOfficeFault

-- `IsCommandRun`, for this signer
abbrev pub RunsCommand : {C S : Type 0} → Ghosts C → Signer S → Held C → Held C → S → S → ℕ → Command
    → Result Reply Fault → Type 0
RunsCommand g signer old new own left now command outcome =
    IsCommandRun g signer.signs signer.identity signer.failure_count old new own left now command outcome
