-- The calls of an office over a store, as steps of its records.
use Rattle.std.specs.Prelude.{◌≡◌, ◌⊎◌, ℕ, Option, None, Some, Result, Ok, Err, IsErr}
use Rattle.sqlite.specs.Held.{Held, state}
use Rattle.sqlite.specs.State.{HasCleanDisk}
use Rattle.sqlite_trees.specs.declared.store.Store.{Ghosts}
use Rattle.reg_office_api.specs.Leads.{Leads}
use Rattle.reg_office_api.specs.Signers.{OfficeSigners}
use Rattle.reg_office_api.specs.CallSteps.{Signs}
use Rattle.reg_office_api.specs.declared.follow.FollowFault.{FollowFault}
use Rattle.reg_core.specs.Records.{Records}
use Rattle.reg_core.specs.declared.command.Command.{Command}
use Rattle.reg_core.specs.declared.command.Reply.{Reply}
use Rattle.reg_core.specs.declared.refusal.Fault.{Fault}
use Rattle.reg_core.specs.declared.refusal.Fault.TheVariants.{Refused, Store}
use Rattle.reg_core_lists.specs.declared.positions.Positions.{Positions}
use Rattle.reg_crl.specs.declared.signer.Signer.{Ghosts as Signer}
use Rattle.reg_store_tables.specs.Stays.{Looked}
use Rattle.reg_office.specs.AfterStoppedCommand.{ChangingCall, LeavesReported}
use Rattle.reg_office_reads.specs.Answering.{failures_of, signers_of}
use Rattle.reg_office.specs.Commands.{RunsCommand}
use Rattle.reg_office.specs.Stands.{Stands}
use Rattle.reg_office.specs.declared.office.Office.{Office}

-- the office has these signers, and its store shows the records, which are sound for the signer of CRLs; a stop leaves these records, or those
-- after the interrupted call
abbrev pub StandsWith
    : {C : Type 0} → Ghosts C → Signs → Held C × OfficeSigners → OfficeSigners → Records → Option ChangingCall → Type 0
StandsWith g signs office signers records interrupted =
    (office.1 ≡ signers) × Stands g signs office.0 signers.crls records
    × LeavesReported g signs office.0 signers.crls records interrupted

-- the same, whichever call was interrupted, or none
abbrev pub StandsFor : {C : Type 0} → Ghosts C → Signs → Held C × OfficeSigners → OfficeSigners → Records → Type 0
StandsFor g signs office signers records =
    (interrupted : Option ChangingCall) × StandsWith g signs office signers records interrupted

-- a call of an office, given by its store and its signers before and after, is this step of the records
abbrev pub LeadsOver : {C : Type 0} → Ghosts C → Signs → (OfficeSigners → Records → Records → Type 0)
    → Held C × OfficeSigners → Held C × OfficeSigners → Type 0
LeadsOver {C = C} g signs step =
    Leads (λ (office : Held C × OfficeSigners). HasCleanDisk (state g office.0))
    (λ signers office records. StandsFor g signs office signers records) step

-- an office in the form that these relations take: its store, and the identities of its signers
abbrev pub seen : {C S : Type 0} → Signer S → Office C S → Held C × OfficeSigners
seen signer office =
    (office.store, signers_of signer.identity (signer.identity office.signer) office.responder)

-- a call of an office is this step of its records
abbrev pub OfficeLeads : {C S : Type 0} → Ghosts C → Signer S → (OfficeSigners → Records → Records → Type 0)
    → Office C S → Office C S → Type 0
OfficeLeads g signer step old new = LeadsOver g signer.signs step (seen signer old) (seen signer new)

-- a call of an office that does not change the records, and for whose result `IsSo` holds of them
abbrev pub OfficeReports
    : {C S : Type 0} → Ghosts C → Signer S → (Records → Type 0) → Office C S → Office C S → Type 0
OfficeReports g signer IsSo old new =
    OfficeLeads g signer (λ signers before after. IsSo before × (after ≡ before)) old new

-- A call `it` has this result. `first` and `last` are the interrupted call, if any, as it was before and after `it`. After an interrupted call, `it`
-- fails, and `last` stays `first`. Otherwise `last` is none after a success or a refusal, and none or `it` after a fault.
abbrev pub MayInterrupt
    : {T : Type 0} → Option ChangingCall → ChangingCall → Result T Fault → Option ChangingCall → Type 0
MayInterrupt (Some first) it result last = IsErr result × (last ≡ Some first)
MayInterrupt None it (Ok done) last = last ≡ None
MayInterrupt None it (Err (Refused why)) last = last ≡ None
MayInterrupt None it (Err fault) last = (last ≡ None) ⊎ (last ≡ Some it)

-- whether pages were entered, as the result of another call: any fault counts as a failure of the store
abbrev pub store_result : Result Positions FollowFault → Result Positions Fault
store_result (Ok reached) = Ok reached
store_result (Err fault) = Err Store

-- A call `it` as a step of the records, as in `Leads`, with the interrupted call before and after it. By `StandsWith`, a stop in the call leaves the
-- records after it, or those after the interrupted call.
abbrev pub StopsOver
    : {C T : Type 0} → Ghosts C → Signs → ChangingCall → Result T Fault
    → (OfficeSigners → Records → Records → Type 0) → Held C × OfficeSigners → Held C × OfficeSigners → Type 0
StopsOver g signs it result step old new =
    (HasCleanDisk (state g new.0) → HasCleanDisk (state g old.0))
    × ((signers : OfficeSigners) (before : Records) (first : Option ChangingCall)
    → StandsWith g signs old signers before first → HasCleanDisk (state g new.0)
    → (after : Records) × (last : Option ChangingCall) × step signers before after
    × StandsWith g signs new signers after last × MayInterrupt first it result last)

-- `StopsOver`, of an office
abbrev pub OfficeStops
    : {C S T : Type 0} → Ghosts C → Signer S → ChangingCall → Result T Fault
    → (OfficeSigners → Records → Records → Type 0) → Office C S → Office C S → Type 0
OfficeStops g signer it result step old new =
    StopsOver g signer.signs it result step (seen signer old) (seen signer new)

-- an office's store shows the records, which are sound for the signer of its CRLs
abbrev pub StandsIn : {C S : Type 0} → Ghosts C → Signer S → Office C S → Records → Type 0
StandsIn g signer office records = Stands g signer.signs office.store (signer.identity office.signer) records

-- a command was run in an office, with this outcome (`RunsCommand`)
abbrev pub RanIn : {C S : Type 0} → Ghosts C → Signer S → ℕ → Command → Result Reply Fault → Office C S
    → Office C S → Type 0
RanIn g signer now command outcome old new =
    RunsCommand g signer old.store new.store old.signer new.signer now command outcome

-- a call requested no signature: the signers are unchanged
abbrev pub SignsNothing : {C S : Type 0} → Office C S → Office C S → Type 0
SignsNothing old new = (new.signer ≡ old.signer) × (new.responder ≡ old.responder)

-- how many failures the signer of an office's OCSP answers has counted
abbrev pub answer_failures_in : {C S : Type 0} → Signer S → Office C S → ℕ
answer_failures_in signer office =
    failures_of signer.failure_count (signer.failure_count office.signer) office.responder

-- A look-up of an office: no table changes, the signers have the same identities, and `Holds` holds of the office's records, if the disk is clean.
pub record OfficeLooks {C S : Type 0} (g : Ghosts C) (signer : Signer S) (Holds : Records → Type 0)
    (old new : Office C S) : Type 0 where
  pub looked : Looked g old.store new.store
  pub same : (seen signer new).1 ≡ (seen signer old).1
  pub found : (records : Records) → StandsIn g signer old records
      → HasCleanDisk (state g new.store) → Holds records
