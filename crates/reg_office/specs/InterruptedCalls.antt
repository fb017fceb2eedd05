-- The calls that an office gets one after another, and the call that was interrupted (`LeavesReported`), if any.
use Rattle.std.specs.Prelude.{◌≡◌, ◌⊎◌, ℕ, List, [], ◌∷◌, Option, None, Some, IfSome, IsTrue, Result, IsErr, Vec}
use Rattle.std.specs.Global.{Global}
use Rattle.std.specs.List.{AllByRecursion}
use Rattle.sqlite.specs.Held.{Held, state}
use Rattle.sqlite.specs.State.{HasCleanDisk}
use Rattle.sqlite_trees.specs.declared.store.Store.{Ghosts}
use Rattle.reg_core.specs.Records.{Records}
use Rattle.reg_core.specs.declared.command.Command.{Command}
use Rattle.reg_core.specs.declared.command.Reply.{Reply}
use Rattle.reg_core.specs.declared.refusal.Fault.{Fault}
use Rattle.reg_core_lists.specs.declared.feed_reader.ReceivedPage.{ReceivedPage}
use Rattle.reg_core_lists.specs.declared.positions.Positions.{Positions}
use Rattle.reg_office_api.specs.CallSteps.{BatchStep, CommandStep, Signs}
use Rattle.reg_office_api.specs.Follows.{FollowStep}
use Rattle.reg_office_api.specs.Settings.{ReplacesSchedule, SetsKeyIdentifier}
use Rattle.reg_office_api.specs.Signers.{OfficeSigners}
use Rattle.reg_office_api.specs.declared.follow.FollowFault.{FollowFault}
use Rattle.reg_store_tables.specs.Stays.{Looked}
use Rattle.reg_office.specs.AfterStoppedCommand.{ChangingCall, batch_call, command_call, follow_call, identifier_call, schedule_call}
use Rattle.reg_office.specs.Calls.{StandsWith, StopsOver, store_result}

-- a call of an office and its result: a command, commands in one transaction, pages of another register's feed that are entered from these positions
-- on, a schedule or a key identifier that is set, or a look-up
pub data OfficeCall : Type 0 where
  command_ran : ℕ → Command → Result Reply Fault → OfficeCall
  batch_ran : List (ℕ × Command) → Result (Vec (Result Reply Fault) Global) Fault → OfficeCall
  follow_ran : Positions → List ReceivedPage → Result Positions FollowFault → OfficeCall
  schedule_set : List (ℕ × ℕ) → Result (Unit {0}) Fault → OfficeCall
  identifier_set : List ℕ → Result (Unit {0}) Fault → OfficeCall
  looked_up : OfficeCall

-- the call as a step of the records
abbrev pub CallStep : Signs → OfficeCall → OfficeSigners → Records → Records → Type 0
CallStep signs (command_ran now command outcome) = CommandStep signs now command outcome
CallStep signs (batch_ran commands result) = BatchStep signs commands result
CallStep signs (follow_ran own pages result) = λ signers. FollowStep own pages result
CallStep signs (schedule_set steps result) = λ signers. ReplacesSchedule steps result
CallStep signs (identifier_set octets result) = λ signers. SetsKeyIdentifier octets result
CallStep signs looked_up = λ signers before after. after ≡ before

-- the clauses of the call, over the office before and after it (its store, and its signers)
abbrev pub IsCall : {C : Type 0} → Ghosts C → Signs → Held C × OfficeSigners → OfficeCall → Held C × OfficeSigners → Type 0
IsCall g signs old (command_ran now command outcome) new =
    StopsOver g signs (command_call now command) outcome (CommandStep signs now command outcome) old new
IsCall g signs old (batch_ran commands result) new =
    StopsOver g signs (batch_call commands) result (BatchStep signs commands result) old new
IsCall g signs old (follow_ran own pages result) new =
    StopsOver g signs (follow_call pages) (store_result result) (λ signers. FollowStep own pages result)
    old new
IsCall g signs old (schedule_set steps result) new =
    StopsOver g signs (schedule_call steps) result (λ signers. ReplacesSchedule steps result) old new
IsCall g signs old (identifier_set octets result) new =
    StopsOver g signs (identifier_call octets) result (λ signers. SetsKeyIdentifier octets result) old new
IsCall g signs old looked_up new = Looked g old.0 new.0 × (new.1 ≡ old.1)

-- calls one after another
abbrev pub AreCalls
    : {C : Type 0} → Ghosts C → Signs → Held C × OfficeSigners → List OfficeCall → Held C × OfficeSigners → Type 0
AreCalls g signs first [] last = last ≡ first
AreCalls {C = C} g signs first (call ∷ calls) last =
    (next : Held C × OfficeSigners) × IsCall g signs first call next × AreCalls g signs next calls last

-- calls one after another, as steps of the records
abbrev pub AreCallSteps : Signs → OfficeSigners → Records → List OfficeCall → Records → Type 0
AreCallSteps signs signers before [] after = after ≡ before
AreCallSteps signs signers before (call ∷ calls) after =
    (middle : Records) × CallStep signs call signers before middle × AreCallSteps signs signers middle calls after

-- the call, if it may change the records
abbrev pub changing : OfficeCall → Option ChangingCall
changing (command_ran now command outcome) = Some (command_call now command)
changing (batch_ran commands result) = Some (batch_call commands)
changing (follow_ran own pages result) = Some (follow_call pages)
changing (schedule_set steps result) = Some (schedule_call steps)
changing (identifier_set octets result) = Some (identifier_call octets)
changing looked_up = None

-- the call failed, or is a look-up
abbrev pub HasNotChanged : OfficeCall → Type 0
HasNotChanged (command_ran now command outcome) = IsErr outcome
HasNotChanged (batch_ran commands result) = IsErr result
HasNotChanged (follow_ran own pages result) = IsErr result
HasNotChanged (schedule_set steps result) = IsErr result
HasNotChanged (identifier_set octets result) = IsErr result
HasNotChanged looked_up = Unit {0}

-- one of the calls is `it`, which failed, and so did each later one that may change the records
abbrev pub FailsFrom : ChangingCall → List OfficeCall → Type 0
FailsFrom it [] = ⊥
FailsFrom it (call ∷ calls) =
    ((changing call ≡ Some it) × AllByRecursion HasNotChanged (call ∷ calls)) ⊎ FailsFrom it calls

-- An office gets a call over an open connection, and the machine may stop in it, or after it. The call leads to the records `after`. A stop leaves
-- these; or, if the call failed, those that it would have led to.
abbrev pub InterruptsOnlyItself : {C : Type 0} → Ghosts C → Signs → Type 0
InterruptsOnlyItself {C = C} g signs =
    (old new : Held C × OfficeSigners) (signers : OfficeSigners) (before : Records) (first : Option ChangingCall)
    (call : OfficeCall)
    → StandsWith g signs old signers before first → IsTrue (state g old.0).is_open
    → IsCall g signs old call new → HasCleanDisk (state g new.0)
    → (after : Records) × (last : Option ChangingCall) × CallStep signs call signers before after
    × StandsWith g signs new signers after last
    × IfSome last (λ it. (changing call ≡ Some it) × HasNotChanged call)

-- An office gets these calls, before which none was interrupted; the machine may stop in the last of them, or after it. The calls lead to the
-- records `after`. A stop leaves these, or those after the interrupted call. That is one of the calls, and failed; no later one changed records.
abbrev pub InterruptsOneOfThem : {C : Type 0} → Ghosts C → Signs → Type 0
InterruptsOneOfThem {C = C} g signs =
    (first last : Held C × OfficeSigners) (signers : OfficeSigners) (before : Records) (calls : List OfficeCall)
    → StandsWith g signs first signers before None → AreCalls g signs first calls last
    → HasCleanDisk (state g last.0)
    → (after : Records) × (interrupted : Option ChangingCall) × AreCallSteps signs signers before calls after
    × StandsWith g signs last signers after interrupted
    × IfSome interrupted (λ it. FailsFrom it calls)
