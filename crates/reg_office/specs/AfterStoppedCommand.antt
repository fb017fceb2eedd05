-- The rows that a stop (a crash or a power failure) may leave during a command. The derived tables (`standing`, `kept`, `listed`) hold
-- statuses, their counts and CRL entries, which follow from the records.
use Rattle.std.specs.Prelude.{◌≡◌, ◌⊎◌, ℕ, List, [], ◌∷◌, ◌++◌, Option, IfSome, IsSomeAnd, Result, Ok, Err, OnOk, IsFalse, IsTrue}
use Rattle.sqlite_trees.specs.Tree.{Trees}
use Rattle.sqlite_trees.specs.declared.store.Store.{Ghosts}
use Rattle.sqlite.specs.Held.{Held, state}
use Rattle.sqlite.specs.State.{HasCleanDisk, Survives}
use Rattle.reg_core.specs.Changes.{with_schedule}
use Rattle.reg_core.specs.Records.{Records}
use Rattle.reg_core.specs.declared.command.Command.{Command}
use Rattle.reg_core.specs.declared.command.Reply.{Reply}
use Rattle.reg_core.specs.declared.refusal.Fault.{Fault}
use Rattle.reg_core_lists.specs.declared.feed_reader.ReceivedPage.{ReceivedPage}
use Rattle.reg_core_lists.specs.declared.positions.Positions.{Positions}
use Rattle.reg_crl.specs.Signing.{Identity, signed_by}
use Rattle.reg_office_api.specs.Follows.{FollowsPages}
use Rattle.reg_office_api.specs.Signers.{Signs}
use Rattle.reg_der.specs.Issuers.{with_key_identifier}
use Rattle.reg_store_tables.specs.Kept.{ShowsKept}
use Rattle.reg_store_tables.specs.Shows.{Shows}
use Rattle.reg_store_tables.specs.AfterStop.{HaveRegisterSchema, ShowsDerivedAfterStop}
use Rattle.reg_core_laws.specs.Run.{Happens, Run}
use Rattle.reg_office.specs.Stands.{SoundFor, Stands, HasOutcome}

-- the command was accepted over `records`, and the rows show the records after it, which are sound for the office's signer; the derived tables
-- match them
pub record IsDone (signs : Signs) (identity : Identity) (records : Records) (now : ℕ) (command : Command)
    (trees : Trees) : Type 0 where
  pub answer : Reply
  pub after : Records
  pub happens : Happens (signed_by signs identity) records now command (Ok answer) after
  pub rests : ShowsDerivedAfterStop after trees
  pub sound : SoundFor signs identity after

-- the rows after a command that an office accepted over the records before it
abbrev pub Does : {C : Type 0} → Ghosts C → Signs → Held C → Identity → ℕ → Command → Trees → Type 0
Does g signs old identity now command trees =
    (records : Records) → Stands g signs old identity records
    → IsDone signs identity records now command trees

-- the commands, each at its moment, had some outcomes over `records`, and the rows, if they are those of a register's tables, show the records after
-- them, which are sound for the office's signer
pub record IsBatchDone (signs : Signs) (identity : Identity) (records : Records) (commands : List (ℕ × Command))
    (trees : Trees) : Type 0 where
  pub outcomes : List (Result Reply Fault)
  pub after : Records
  pub run : Run (signed_by signs identity) records commands outcomes after
  pub sound : SoundFor signs identity after
  pub rests : HaveRegisterSchema trees → ShowsDerivedAfterStop after trees

-- the pages were entered over `records`, and the rows, if they are those of a register's tables, show the records after them, which are sound for the
-- office's signer
pub record IsFollowDone (signs : Signs) (identity : Identity) (records : Records) (pages : List ReceivedPage)
    (trees : Trees) : Type 0 where
  pub reached : Positions
  pub after : Records
  pub follows : FollowsPages pages reached records after
  pub sound : SoundFor signs identity after
  pub rests : HaveRegisterSchema trees → ShowsDerivedAfterStop after trees

-- the rows after the issuer was given a key identifier of its own, which CRLs have from the next one on
abbrev pub IsIdentified : {C : Type 0} → Ghosts C → Held C → List ℕ → Trees → Type 0
IsIdentified g old octets trees =
    (records : Records) → ShowsKept g old records
    → ShowsDerivedAfterStop (with_key_identifier records octets) trees

-- ---- over a run

-- each of these outcomes is a refusal or a fault
abbrev pub HaveNoReply : List (Result Reply Fault) → Type 0
HaveNoReply [] = Unit {0}
HaveNoReply (Ok reply ∷ outcomes) = ⊥
HaveNoReply (Err fault ∷ outcomes) = HaveNoReply outcomes

-- `Done` holds of the records and the first of these commands
abbrev pub IsNext : (Records → ℕ → Command → Type 0) → Records → List (ℕ × Command) → Type 0
IsNext Done records [] = ⊥
IsNext Done records (timed ∷ commands) = Done records timed.0 timed.1

-- After a stop in a run, a prefix of the commands is done: `Rests` holds of the records after `done`, whose outcomes are `came`; or `Done` holds of
-- these records and the next command. The outcomes of the commands after `done` are refusals or faults.
pub record PartlyRun (signs : Signs) (identity : Identity) (Rests : Records → Type 0)
    (Done : Records → ℕ → Command → Type 0)
    (records : Records) (commands : List (ℕ × Command)) (outcomes : List (Result Reply Fault)) : Type 0 where
  pub done : List (ℕ × Command)
  pub left : List (ℕ × Command)
  pub commands_are : commands ≡ done ++ left
  pub came : List (Result Reply Fault)
  pub others : List (Result Reply Fault)
  pub outcomes_are : outcomes ≡ came ++ others
  pub no_reply : HaveNoReply others
  pub after : Records
  pub run : Run (signed_by signs identity) records done came after
  pub sound : SoundFor signs identity after
  pub rests : Rests after ⊎ IsNext Done after left

-- the rows show the records after a prefix of the commands, and the derived tables match them
abbrev pub ShowsPrefix : Signs → Identity → Records → List (ℕ × Command)
    → List (Result Reply Fault) → Trees → Type 0
ShowsPrefix signs identity records commands outcomes trees =
    PartlyRun signs identity (λ after. ShowsDerivedAfterStop after trees)
    (λ after now command. IsDone signs identity after now command trees) records commands outcomes

-- the clauses of `run_one` for one command, from one state of an office's tables to the next
pub record IsRunOne {C : Type 0} (g : Ghosts C) (signs : Signs) (identity : Identity) (old new : Held C)
    (now : ℕ) (command : Command) (outcome : Result Reply Fault) : Type 0 where
  pub step : (records : Records) → Stands g signs old identity records → HasCleanDisk (state g new)
      → HasOutcome g signs new identity records now command outcome
  pub live : HasCleanDisk (state g new) → OnOk outcome (IsTrue (state g new).is_open)
  pub survives : Survives (state g old) (state g new) (Does g signs old identity now command)

-- commands that calls of `run_one` ran one after another, with an outcome for each
abbrev pub AreRunByOne : {C : Type 0} → Ghosts C → Signs → Identity → Held C → List (ℕ × Command)
    → List (Result Reply Fault) → Held C → Type 0
AreRunByOne g signs identity old [] [] new = new ≡ old
AreRunByOne g signs identity old [] (outcome ∷ outcomes) new = ⊥
AreRunByOne g signs identity old (timed ∷ commands) [] new = ⊥
AreRunByOne {C = C} g signs identity old (timed ∷ commands) (outcome ∷ outcomes) new =
    (next : Held C) × IsRunOne g signs identity old next timed.0 timed.1 outcome
    × AreRunByOne g signs identity next commands outcomes new

-- ---- over any calls

-- a stop after a call, or in the middle of it, leaves rows that show these records, with derived tables that match them
abbrev pub LeavesThese : {C : Type 0} → Ghosts C → Held C → Records → Type 0
LeavesThese g held records =
    HasCleanDisk (state g held) → (trees : Trees) → (state g held).may_leave trees
    → ShowsDerivedAfterStop records trees

-- a call that may change the records: a command at a moment, commands or pages of another register's feed in one transaction, or the setting of a
-- schedule or of a key identifier
pub data ChangingCall : Type 0 where
  command_call : ℕ → Command → ChangingCall
  batch_call : List (ℕ × Command) → ChangingCall
  follow_call : List ReceivedPage → ChangingCall
  schedule_call : List (ℕ × ℕ) → ChangingCall
  identifier_call : List ℕ → ChangingCall

-- the rows show the records after the call: after an accepted command, a batch or pages, or with this schedule or this key identifier
abbrev pub IsCallDone : Signs → Identity → Records → ChangingCall → Trees → Type 0
IsCallDone signs identity records (command_call now command) trees =
    IsDone signs identity records now command trees
IsCallDone signs identity records (batch_call commands) trees =
    IsBatchDone signs identity records commands trees
IsCallDone signs identity records (follow_call pages) trees =
    IsFollowDone signs identity records pages trees
IsCallDone signs identity records (schedule_call steps) trees =
    ShowsDerivedAfterStop (with_schedule records steps) trees
IsCallDone signs identity records (identifier_call octets) trees =
    ShowsDerivedAfterStop (with_key_identifier records octets) trees

-- If a stop after a call, or in the middle of it, leaves a register's tables, they show `records`, or those after the interrupted call. If a call
-- was interrupted, the connection is closed: a disk failure during the call closed it.
pub record LeavesReported {C : Type 0} (g : Ghosts C) (signs : Signs) (held : Held C) (identity : Identity)
    (records : Records) (interrupted : Option ChangingCall) : Type 0 where
  pub closed : HasCleanDisk (state g held) → IfSome interrupted (λ call. IsFalse (state g held).is_open)
  pub leaves : HasCleanDisk (state g held) → (trees : Trees) → (state g held).may_leave trees
      → HaveRegisterSchema trees
      → ShowsDerivedAfterStop records trees
      ⊎ IsSomeAnd interrupted (λ call. IsCallDone signs identity records call trees)

-- this holds of the records that the tables showed before look-ups, if the disk returned what was written
abbrev pub HoldsOfShown : {C : Type 0} → Ghosts C → Held C → Held C → (Records → Type 0) → Type 0
HoldsOfShown g old new IsSo =
    (records : Records) → Shows g old records → HasCleanDisk (state g new) → IsSo records
