-- What a stop leaves of a follower: the leader's records before the interrupted call, or after it.
use Rattle.std.specs.Prelude.{IsErr, IsSomeAnd}
use Rattle.std.proofs.Common.{◌≡◌, ◌⊎◌, ◌≤◌, ℕ, inl, inr, List, [], ◌∷◌, Option, None, Some, Result, Ok, Err, refl, sym, subst, le_refl, arith}
use Rattle.std.proofs.Math.Logic.{∥∥₁_map}
use Rattle.sqlite.specs.Held.{Held, state}
use Rattle.sqlite.specs.State.{HasCleanDisk}
use Rattle.sqlite_trees.specs.declared.store.Store.{Ghosts}
use Rattle.reg_core.specs.Records.{Records}
use Rattle.reg_core_lists.specs.declared.feed_reader.ReceivedPage.{ReceivedPage}
use Rattle.reg_core_lists.specs.declared.positions.Declines.{Declines}
use Rattle.reg_core_lists.specs.declared.positions.Positions.{Positions}
use Rattle.reg_core_lists.specs.declared.positions.RowCounts.{RowCounts}
use Rattle.reg_office_api.specs.FollowedLeaders.{AreFeedPages, FollowCall, FollowsLeader, HasLeaders, IsLeader, own_after}
use Rattle.reg_office_api.specs.Follows.{ArePositionsOf, FollowStep}
use Rattle.reg_office_api.specs.Signers.{OfficeSigners, Signs}
use Rattle.reg_office_api.specs.declared.follow.FollowFault.{FollowFault}
use Rattle.reg_store.specs.OpenedAgain.{IsOpenedAgain}
use Rattle.reg_store_tables.specs.Schema.{register_schema}
use Rattle.reg_office.specs.AfterStoppedCommand.{ChangingCall, follow_call}
use Rattle.reg_office.specs.Calls.{MayInterrupt, StandsWith, store_result}
use Rattle.reg_office.specs.OpenedAgain.{ShowsCallDone}
use Rattle.reg_office.specs.Stands.{Stands}
use Rattle.reg_office.specs.StoppedFollowers.{AreFollowerCalls, StopsKeepFollowing}
use Rattle.reg_office.proofs.OpenedAgain.{opens_again}

-- pages that were not entered change nothing
not_entered : (own : Positions) (pages : List ReceivedPage) (result : Result Positions FollowFault) (before after : Records) → IsErr (store_result result)
    → FollowStep own pages result before after → after ≡ before
not_entered own pages (Ok reached) before after error step = absurd (let bad : ⊥ = cc in bad)
not_entered own pages (Err fault) before after error (inl same) = same
not_entered own pages (Err fault) before after error (inr stays) = stays.stays

module _ (leader : ℕ → Records) where
  -- the last page was made in no state before `since`
  feed_order : (pages : List ReceivedPage) (since at : ℕ) (counts : RowCounts) (declines : Declines) → AreFeedPages leader since counts declines pages at → since ≤ at
  feed_order [] since at counts declines are = absurd are
  feed_order (page ∷ []) since at counts declines are = are.0
  feed_order (page ∷ next ∷ pages) since at counts declines (state, later, is_page, others) =
      let rest = feed_order (next ∷ pages) state at page.positions.counts page.positions.declines others in omega (arith, later, rest)

  -- a call that interrupts nothing leads to records of the leader; or it interrupts itself, and the records stay
  by_itself : (it : ChangingCall) (had at : ℕ) (own : Positions) (result : Result Positions FollowFault) (after : Records) (last : Option ChangingCall) → had ≤ at → ArePositionsOf (leader had) own
      → MayInterrupt None it (store_result result) last → HasLeaders leader had at result after
      → ((last ≡ None) × (reached : ℕ) × (had ≤ reached) × (reached ≤ at) × (after ≡ leader reached) × ArePositionsOf (leader reached) (own_after own result))
      ⊎ ((last ≡ Some it) × (after ≡ leader had))
  by_itself it had at own (Ok reached) after last order own_is may (is, positions) =
      inl (may, at, order, le_refl at, is, subst (λ (r : Records). ArePositionsOf r reached) is positions)
  by_itself it had at own (Err fault) after last order own_is (inl nothing) is = inl (nothing, had, le_refl had, order, is, own_is)
  by_itself it had at own (Err fault) after last order own_is (inr itself) is = inr (itself, is)

module _ {C : Type 0} (g : Ghosts C) (signs : Signs) (leader : ℕ → Records) where
  -- what stands for some signers stands for those of the office
  by_its_signers : (office : Held C × OfficeSigners) (signers : OfficeSigners) (records : Records) (interrupted : Option ChangingCall)
      → StandsWith g signs office signers records interrupted → StandsWith g signs office office.1 records interrupted
  by_its_signers office signers records interrupted stands =
      subst (λ (v : OfficeSigners). StandsWith g signs office v records interrupted) (sym stands.0) stands

  -- the disk was clean before the calls
  calls_clean : (calls : List (Option FollowCall)) (since until : ℕ) (own : Positions) (first last : Held C × OfficeSigners) → AreFollowerCalls g signs leader since until own first calls last
      → HasCleanDisk (state g last.0) → HasCleanDisk (state g first.0)
  calls_clean [] since until own first last same clean = subst (λ (v : Held C × OfficeSigners). HasCleanDisk (state g v.0)) same.0 clean
  calls_clean (None ∷ calls) since until own first last (next, looks, rest) clean = looks.0 (calls_clean calls since until own next last rest clean)
  calls_clean (Some call ∷ calls) since until own first last (next, are, stops, rest) clean =
      stops.0 (calls_clean calls call.at until (own_after own call.result) next last rest clean)

  -- the last page was made in no state before `since`
  calls_order : (calls : List (Option FollowCall)) (since until : ℕ) (own : Positions) (first last : Held C × OfficeSigners) → AreFollowerCalls g signs leader since until own first calls last
      → since ≤ until
  calls_order [] since until own first last same = subst (λ n. since ≤ n) (sym same.1) (le_refl since)
  calls_order (None ∷ calls) since until own first last (next, looks, rest) = calls_order calls since until own next last rest
  calls_order (Some call ∷ calls) since until own first last (next, are, stops, rest) =
      let here = feed_order leader call.pages since call.at own.counts own.declines are in
      let later = calls_order calls call.at until (own_after own call.result) next last rest in
      omega (arith, here, later)

  -- after the interrupted call no other one changes the records
  interrupted_stays : (calls : List (Option FollowCall)) (since until : ℕ) (own : Positions) (first last : Held C × OfficeSigners) (before : Records) (it : ChangingCall)
      → StandsWith g signs first first.1 before (Some it) → AreFollowerCalls g signs leader since until own first calls last → HasCleanDisk (state g last.0)
      → StandsWith g signs last last.1 before (Some it)
  interrupted_stays [] since until own first last before it stands same clean = subst (λ (v : Held C × OfficeSigners). StandsWith g signs v v.1 before (Some it)) (sym same.0) stands
  interrupted_stays (None ∷ calls) since until own first last before it stands (next, looks, rest) clean =
      interrupted_stays calls since until own next last before it
      (by_its_signers next _ before (Some it) (looks.1 first.1 before (Some it) stands (calls_clean calls since until own next last rest clean))) rest clean
  interrupted_stays (Some call ∷ calls) since until own first last before it stands (next, are, stops, rest) clean =
      let reached = own_after own call.result in
      let (after, which, step, stands_next, may) = stops.1 first.1 before (Some it) stands (calls_clean calls call.at until reached next last rest clean) in
      let unchanged = not_entered own call.pages call.result before after may.0 step in
      interrupted_stays calls call.at until reached next last before it
      (by_its_signers next first.1 before (Some it)
      (subst (λ (r : Records). StandsWith g signs next first.1 r (Some it)) unchanged (subst (λ (w : Option ChangingCall). StandsWith g signs next first.1 after w) may.1 stands_next)))
      rest clean

  module _ (is : IsLeader leader) (follow : FollowsLeader) (until : ℕ) (last : Held C × OfficeSigners) (again : Held C) (opened : IsOpenedAgain g last.0 again)
      (schema : (state g again).committed.schema ≡ register_schema) where
    -- the records that are opened
    abbrev Led : ℕ → Type 0
    Led had = (at : ℕ) × (had ≤ at) × (at ≤ until) × Stands g signs again last.1.crls (leader at)

    abbrev Opened : ℕ → Option ChangingCall → Type 0
    Opened had interrupted = Stands g signs again last.1.crls (leader had) ⊎ IsSomeAnd interrupted (λ it. ShowsCallDone g signs again last.1.crls (leader had) it)

    what_stands : (had : ℕ) (interrupted : Option ChangingCall) → StandsWith g signs last last.1 (leader had) interrupted → ∥ Opened had interrupted ∥₁
    what_stands had interrupted (same, stands, left) = opens_again g signs last.0 last.1.crls (leader had) interrupted stands.sound left again opened schema

    those_before : (had : ℕ) → had ≤ until → Opened had None → Led had
    those_before had order (inl stands) = (had, le_refl had, order, stands)
    those_before had order (inr none) = absurd none

    -- those before the interrupted call, or after it
    or_after : (call : FollowCall) (had since : ℕ) (own : Positions) → had ≤ since → ArePositionsOf (leader had) own → AreFeedPages leader since own.counts own.declines call.pages call.at
        → call.at ≤ until → Opened had (Some (follow_call call.pages)) → Led had
    or_after call had since own order own_is are later (inl stands) =
        let here = feed_order leader call.pages since call.at own.counts own.declines are in
        (had, le_refl had, omega (arith, order, here, later), stands)
    or_after call had since own order own_is are later (inr (reached, after, follows, stands)) =
        let here = feed_order leader call.pages since call.at own.counts own.declines are in
        let is_at = (follow leader had since call.at own call.pages (Ok reached) (leader had) after is refl order own_is are (inl follows)).0 in
        (call.at, omega (arith, order, here), later, subst (λ (r : Records). Stands g signs again last.1.crls r) is_at stands)

    later_still : (had reached : ℕ) → had ≤ reached → Led reached → Led had
    later_still had reached order (at, later, most, stands) = (at, omega (arith, order, later), most, stands)

    pub led : (calls : List (Option FollowCall)) (had since : ℕ) (own : Positions) (first : Held C × OfficeSigners) → had ≤ since → ArePositionsOf (leader had) own
        → StandsWith g signs first first.1 (leader had) None → AreFollowerCalls g signs leader since until own first calls last → ∥ Led had ∥₁
    led [] had since own first order own_is stands (same, ends) =
        let there = subst (λ (v : Held C × OfficeSigners). StandsWith g signs v v.1 (leader had) None) (sym same) stands in
        ∥∥₁_map (what_stands had None there) (those_before had (subst (λ n. had ≤ n) (sym ends) order))
    led (None ∷ calls) had since own first order own_is stands (next, looks, rest) =
        led calls had since own next order own_is
        (by_its_signers next _ (leader had) None (looks.1 first.1 (leader had) None stands (calls_clean calls since until own next last rest opened.honest))) rest
    led (Some call ∷ calls) had since own first order own_is stands (next, are, stops, rest) =
        let it = follow_call call.pages in
        let own' = own_after own call.result in
        let here = feed_order leader call.pages since call.at own.counts own.declines are in
        let (after, which, step, stands_next, may) = stops.1 first.1 (leader had) None stands (calls_clean calls call.at until own' next last rest opened.honest) in
        let has = follow leader had since call.at own call.pages call.result (leader had) after is refl order own_is are step in
        elim (by_itself leader it had call.at own call.result after which (omega (arith, order, here)) own_is may has) [
          | inl (nothing, reached, no_less, no_more, is_reached, positions) ↦
              let still = by_its_signers next first.1 (leader reached) None
              (subst (λ (r : Records). StandsWith g signs next first.1 r None) is_reached (subst (λ (w : Option ChangingCall). StandsWith g signs next first.1 after w) nothing stands_next)) in
              ∥∥₁_map (led calls reached call.at own' next no_more positions still rest) (later_still had reached no_less)
          | inr (itself, stays) ↦
              let still = by_its_signers next first.1 (leader had) (Some it)
              (subst (λ (r : Records). StandsWith g signs next first.1 r (Some it)) stays (subst (λ (w : Option ChangingCall). StandsWith g signs next first.1 after w) itself stands_next)) in
              let there = interrupted_stays calls call.at until own' next last (leader had) it still rest opened.honest in
              ∥∥₁_map (what_stands had (Some it) there) (or_after call had since own order own_is are (calls_order calls call.at until own' next last rest))
        ]

pub stops_keep_following : {C : Type 0} (g : Ghosts C) (signs : Signs) → FollowsLeader → StopsKeepFollowing g signs
stops_keep_following g signs follow leader had since until own calls first last again is order own_is stands called opened schema =
    led g signs leader is follow until last again opened schema calls had since own first order own_is stands called
