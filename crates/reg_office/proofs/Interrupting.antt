-- The calls of an office one after another, and which of them is interrupted.
use Rattle.std.specs.Prelude.{IfSome, IsErr, IsFalse, IsTrue}
use Rattle.std.specs.List.{AllByRecursion}
use Rattle.std.proofs.Common.{◌≡◌, ◌⊎◌, inl, inr, List, [], ◌∷◌, Option, Some, None, Result, Ok, Err, refl, sym, subst}
use Rattle.sqlite.specs.Held.{Held, state}
use Rattle.sqlite.specs.State.{HasCleanDisk}
use Rattle.sqlite_trees.specs.declared.store.Store.{Ghosts}
use Rattle.reg_core.specs.Records.{Records}
use Rattle.reg_core.specs.declared.refusal.Fault.{Fault}
use Rattle.reg_core.specs.declared.refusal.Fault.TheVariants.{Refused, Memory, Store, Signer, Read, Write}
use Rattle.reg_core_lists.specs.declared.positions.Positions.{Positions}
use Rattle.reg_office_api.specs.CallSteps.{Signs}
use Rattle.reg_office_api.specs.Signers.{OfficeSigners}
use Rattle.reg_office_api.specs.declared.follow.FollowFault.{FollowFault}
use Rattle.reg_store_tables.proofs.PublicLaws.{was_clean}
use Rattle.reg_office.specs.AfterStoppedCommand.{ChangingCall, command_call, follow_call, identifier_call, schedule_call, batch_call}
use Rattle.reg_office.specs.Calls.{MayInterrupt, StandsWith, store_result}
use Rattle.reg_office.specs.InterruptedCalls.{AreCalls, AreCallSteps, CallStep, FailsFrom, HasNotChanged, InterruptsOneOfThem, InterruptsOnlyItself, IsCall, OfficeCall, changing, command_ran, follow_ran, identifier_set, looked_up, schedule_set, batch_ran}
use Rattle.reg_office.proofs.Leading.{looked_stands}
use Rattle.reg_office.proofs.Leaving.{not_closed}

-- the interrupted call, before a call and after it
abbrev Moves : Option ChangingCall → OfficeCall → Option ChangingCall → Type 0
Moves first (command_ran now command outcome) last = MayInterrupt first (command_call now command) outcome last
Moves first (batch_ran commands result) last = MayInterrupt first (batch_call commands) result last
Moves first (follow_ran own pages result) last = MayInterrupt first (follow_call pages) (store_result result) last
Moves first (schedule_set steps result) last = MayInterrupt first (schedule_call steps) result last
Moves first (identifier_set octets result) last = MayInterrupt first (identifier_call octets) result last
Moves first looked_up last = last ≡ first

-- pages were not entered
not_entered : (result : Result Positions FollowFault) → IsErr (store_result result) → IsErr result
not_entered (Ok reached) error = error
not_entered (Err fault) error = refl

-- if one was interrupted, the call changes nothing, and the first stays
moves_on : (first : ChangingCall) (call : OfficeCall) (last : Option ChangingCall) → Moves (Some first) call last
    → HasNotChanged call × (last ≡ Some first)
moves_on first (command_ran now command outcome) last moves = moves
moves_on first (batch_ran commands result) last moves = moves
moves_on first (follow_ran own pages result) last moves = (not_entered result moves.0, moves.1)
moves_on first (schedule_set steps result) last moves = moves
moves_on first (identifier_set octets result) last moves = moves
moves_on first looked_up last moves = (tt, moves)

-- or else none is, or the call, which failed
fails : (T : Type 0) (it : ChangingCall) (fault : Fault) (last : Option ChangingCall) → (last ≡ None) ⊎ (last ≡ Some it)
    → (last ≡ None) ⊎ ((last ≡ Some it) × IsErr {T = T} (Err fault))
fails T it fault last (inl nothing) = inl nothing
fails T it fault last (inr itself) = inr (itself, refl)

by_result : {T : Type 0} (it : ChangingCall) (result : Result T Fault) (last : Option ChangingCall) → MayInterrupt None it result last
    → (last ≡ None) ⊎ ((last ≡ Some it) × IsErr result)
by_result it (Ok done) last moves = inl moves
by_result it (Err (Refused why)) last moves = inl moves
by_result {T = T} it (Err Memory) last moves = fails T it Memory last moves
by_result {T = T} it (Err Store) last moves = fails T it Store last moves
by_result {T = T} it (Err Signer) last moves = fails T it Signer last moves
by_result {T = T} it (Err Read) last moves = fails T it Read last moves
by_result {T = T} it (Err Write) last moves = fails T it Write last moves

pages_result : (it : ChangingCall) (result : Result Positions FollowFault) (last : Option ChangingCall) → MayInterrupt None it (store_result result) last
    → (last ≡ None) ⊎ ((last ≡ Some it) × IsErr result)
pages_result it (Ok reached) last moves = inl moves
pages_result it (Err fault) last (inl nothing) = inl nothing
pages_result it (Err fault) last (inr itself) = inr (itself, refl)

-- the call is the interrupted one
abbrev Interrupted : OfficeCall → Option ChangingCall → Type 0
Interrupted call last = (it : ChangingCall) × (last ≡ Some it) × (changing call ≡ Some it) × HasNotChanged call

interrupts : (it : ChangingCall) (call : OfficeCall) (last : Option ChangingCall) → changing call ≡ Some it
    → (last ≡ None) ⊎ ((last ≡ Some it) × HasNotChanged call) → (last ≡ None) ⊎ Interrupted call last
interrupts it call last is (inl nothing) = inl nothing
interrupts it call last is (inr (itself, failed)) = inr (it, itself, is, failed)

moves_first : (call : OfficeCall) (last : Option ChangingCall) → Moves None call last → (last ≡ None) ⊎ Interrupted call last
moves_first (command_ran now command outcome) last moves =
    let it = command_call now command in
    interrupts it (command_ran now command outcome) last refl (by_result it outcome last moves)
moves_first (batch_ran commands result) last moves =
    let it = batch_call commands in
    interrupts it (batch_ran commands result) last refl (by_result it result last moves)
moves_first (follow_ran own pages result) last moves =
    let it = follow_call pages in
    interrupts it (follow_ran own pages result) last refl (pages_result it result last moves)
moves_first (schedule_set steps result) last moves =
    let it = schedule_call steps in
    interrupts it (schedule_set steps result) last refl (by_result it result last moves)
moves_first (identifier_set octets result) last moves =
    let it = identifier_call octets in
    interrupts it (identifier_set octets result) last refl (by_result it result last moves)
moves_first looked_up last moves = inl moves

itself : (call : OfficeCall) (last : Option ChangingCall) → (last ≡ None) ⊎ Interrupted call last
    → IfSome last (λ it. (changing call ≡ Some it) × HasNotChanged call)
itself call last (inl nothing) = subst (λ (v : Option ChangingCall). IfSome v (λ it. (changing call ≡ Some it) × HasNotChanged call)) (sym nothing) tt
itself call last (inr (it, same, is, failed)) =
    subst (λ (v : Option ChangingCall). IfSome v (λ it. (changing call ≡ Some it) × HasNotChanged call)) (sym same) (is, failed)

if_later : (interrupted : Option ChangingCall) (call : OfficeCall) (calls : List OfficeCall) → IfSome interrupted (λ it. FailsFrom it calls)
    → IfSome interrupted (λ it. FailsFrom it (call ∷ calls))
if_later None call calls later = tt
if_later (Some it) call calls later = inr later

module _ {C : Type 0} (g : Ghosts C) (signs : Signs) where
  -- the disk was clean before the calls
  call_clean : (s : Held C × OfficeSigners) (call : OfficeCall) (t : Held C × OfficeSigners) → IsCall g signs s call t
      → HasCleanDisk (state g t.0) → HasCleanDisk (state g s.0)
  call_clean s (command_ran now command outcome) t called = called.0
  call_clean s (batch_ran commands result) t called = called.0
  call_clean s (follow_ran own pages result) t called = called.0
  call_clean s (schedule_set steps result) t called = called.0
  call_clean s (identifier_set octets result) t called = called.0
  call_clean s looked_up t called = was_clean (state g s.0) (state g t.0) called.0.survives.clean

  calls_clean : (s : Held C × OfficeSigners) (calls : List OfficeCall) (t : Held C × OfficeSigners) → AreCalls g signs s calls t
      → HasCleanDisk (state g t.0) → HasCleanDisk (state g s.0)
  calls_clean s [] t same clean = subst (λ (v : Held C × OfficeSigners). HasCleanDisk (state g v.0)) same clean
  calls_clean s (call ∷ calls) t (next, called, rest) clean = call_clean s call next called (calls_clean next calls t rest clean)

  -- one call
  one_call : (s : Held C × OfficeSigners) (call : OfficeCall) (t : Held C × OfficeSigners) (signers : OfficeSigners) (before : Records) (first : Option ChangingCall)
      → StandsWith g signs s signers before first → IsCall g signs s call t → HasCleanDisk (state g t.0)
      → (after : Records) × (last : Option ChangingCall) × CallStep signs call signers before after
      × StandsWith g signs t signers after last × Moves first call last
  one_call s (command_ran now command outcome) t signers before first stands called clean = called.1 signers before first stands clean
  one_call s (batch_ran commands result) t signers before first stands called clean = called.1 signers before first stands clean
  one_call s (follow_ran own pages result) t signers before first stands called clean = called.1 signers before first stands clean
  one_call s (schedule_set steps result) t signers before first stands called clean = called.1 signers before first stands clean
  one_call s (identifier_set octets result) t signers before first stands called clean = called.1 signers before first stands clean
  one_call s looked_up t signers before first stands (looked, same) clean =
      (before, first, refl, looked_stands g signs s t signers before first looked same stands, refl)

  -- a call over an open connection, where none was interrupted
  none_yet : (held : Held C) (first : Option ChangingCall) → IsTrue (state g held).is_open → IfSome first (λ call. IsFalse (state g held).is_open) → first ≡ None
  none_yet held None up closed = refl
  none_yet held (Some call) up closed = absurd (not_closed g held up closed)

  pub only_itself : InterruptsOnlyItself g signs
  only_itself s t signers before first call stands up called clean =
      let closed = stands.2.closed (call_clean s call t called clean) in
      let still = subst (λ (v : Option ChangingCall). StandsWith g signs s signers before v) (none_yet s.0 first up closed) stands in
      let (after, last, step, stands_now, moves) = one_call s call t signers before None still called clean in
      (after, last, step, stands_now, itself call last (moves_first call last moves))

  -- the calls after the interrupted one
  calls_after : (s : Held C × OfficeSigners) (calls : List OfficeCall) (t : Held C × OfficeSigners) (signers : OfficeSigners) (before : Records) (it : ChangingCall)
      → StandsWith g signs s signers before (Some it) → AreCalls g signs s calls t → HasCleanDisk (state g t.0)
      → (after : Records) × AreCallSteps signs signers before calls after × StandsWith g signs t signers after (Some it) × AllByRecursion HasNotChanged calls
  calls_after s [] t signers before it stands same clean =
      (before, refl, subst (λ (v : Held C × OfficeSigners). StandsWith g signs v signers before (Some it)) (sym same) stands, tt)
  calls_after s (call ∷ calls) t signers before it stands (next, called, rest) clean =
      let (middle, last, step, stands_next, moves) = one_call s call next signers before (Some it) stands called (calls_clean next calls t rest clean) in
      let (unchanged, same) = moves_on it call last moves in
      let still = subst (λ (v : Option ChangingCall). StandsWith g signs next signers middle v) same stands_next in
      let (after, steps, stands_now, all) = calls_after next calls t signers middle it still rest clean in
      (after, (middle, step, steps), stands_now, (unchanged, all))

  pub one_of_them : InterruptsOneOfThem g signs
  one_of_them s t signers before [] stands same clean =
      (before, None, refl, subst (λ (v : Held C × OfficeSigners). StandsWith g signs v signers before None) (sym same) stands, tt)
  one_of_them s t signers before (call ∷ calls) stands (next, called, rest) clean =
      let (middle, last, step, stands_next, moves) = one_call s call next signers before None stands called (calls_clean next calls t rest clean) in
      elim (moves_first call last moves) [
        | inl nothing ↦
            let still = subst (λ (v : Option ChangingCall). StandsWith g signs next signers middle v) nothing stands_next in
            let (after, interrupted, steps, stands_now, later) = one_of_them next t signers middle calls still rest clean in
            (after, interrupted, (middle, step, steps), stands_now, if_later interrupted call calls later)
        | inr (it, itself, is, failed) ↦
            let still = subst (λ (v : Option ChangingCall). StandsWith g signs next signers middle v) itself stands_next in
            let (after, steps, stands_now, all) = calls_after next calls t signers middle it still rest clean in
            (after, Some it, (middle, step, steps), stands_now, inl (is, (failed, all)))
      ]
