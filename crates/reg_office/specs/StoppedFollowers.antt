-- What a stop at any moment leaves of a follower: records that its leader had.
use Rattle.std.specs.Prelude.{◌≡◌, ◌≤◌, ℕ, List, [], ◌∷◌, Option, None, Some}
use Rattle.sqlite.specs.Held.{Held, state}
use Rattle.sqlite.specs.State.{HasCleanDisk}
use Rattle.sqlite_trees.specs.declared.store.Store.{Ghosts}
use Rattle.reg_core.specs.Records.{Records}
use Rattle.reg_core_lists.specs.declared.positions.Positions.{Positions}
use Rattle.reg_office_api.specs.FollowedLeaders.{AreFeedPages, FollowCall, IsLeader, own_after}
use Rattle.reg_office_api.specs.Follows.{ArePositionsOf, FollowStep}
use Rattle.reg_office_api.specs.Signers.{OfficeSigners, Signs}
use Rattle.reg_store.specs.OpenedAgain.{IsOpenedAgain}
use Rattle.reg_store_tables.specs.Schema.{register_schema}
use Rattle.reg_office.specs.AfterStoppedCommand.{ChangingCall, follow_call}
use Rattle.reg_office.specs.Calls.{StandsWith, StopsOver, store_result}
use Rattle.reg_office.specs.Stands.{Stands}

-- Look-ups, after which the signer of CRLs may be another one: what stood stands, and a stop leaves what it would have left before.
abbrev pub LooksWithCrls
    : {C : Type 0} → Ghosts C → Signs → Held C × OfficeSigners → Held C × OfficeSigners → Type 0
LooksWithCrls g signs old new =
    (HasCleanDisk (state g new.0) → HasCleanDisk (state g old.0))
    × ((signers : OfficeSigners) (records : Records) (interrupted : Option ChangingCall)
    → StandsWith g signs old signers records interrupted → HasCleanDisk (state g new.0)
    → StandsWith g signs new (record { crls = new.1.crls; answers = signers.answers }) records interrupted)

-- Calls of a follower's office, which has these positions: look-ups (`None`), and pages that it enters. These are pages of its leader's feed: each
-- time those after the positions that it reached last. The leader made none in a state before `since`, nor before the pages of an earlier call.
-- `until` is the state of the last page, or `since` if there is none.
abbrev pub AreFollowerCalls
    : {C : Type 0} → Ghosts C → Signs → (ℕ → Records) → ℕ → ℕ → Positions → Held C × OfficeSigners
    → List (Option FollowCall) → Held C × OfficeSigners → Type 0
AreFollowerCalls g signs leader since until own first [] last = (last ≡ first) × (until ≡ since)
AreFollowerCalls {C = C} g signs leader since until own first (None ∷ calls) last =
    (next : Held C × OfficeSigners) × LooksWithCrls g signs first next
    × AreFollowerCalls g signs leader since until own next calls last
AreFollowerCalls {C = C} g signs leader since until own first (Some call ∷ calls) last =
    (next : Held C × OfficeSigners) × AreFeedPages leader since own.counts own.declines call.pages call.at
    × StopsOver g signs (follow_call call.pages) (store_result call.result)
    (λ signers. FollowStep own call.pages call.result) first next
    × AreFollowerCalls g signs leader call.at until (own_after own call.result) next calls last

-- A follower's office has the records that its leader had in the state `had`, and gets calls. The machine stops in the last of them, or after it. If
-- the rows that the disk kept are opened again, with a register's schema, these are records that the leader had in that state or a later one, up to
-- `until`.
abbrev pub StopsKeepFollowing : {C : Type 0} → Ghosts C → Signs → Type 0
StopsKeepFollowing {C = C} g signs =
    (leader : ℕ → Records)
    (had since until : ℕ)
    (own : Positions)
    (calls : List (Option FollowCall))
    (first last : Held C × OfficeSigners)
    (again : Held C)
    → IsLeader leader
    → had ≤ since
    → ArePositionsOf (leader had) own
    → StandsWith g signs first first.1 (leader had) None
    → AreFollowerCalls g signs leader since until own first calls last
    → IsOpenedAgain g last.0 again
    → (state g again).committed.schema ≡ register_schema
    → ∥ ((at : ℕ) × (had ≤ at) × (at ≤ until) × Stands g signs again last.1.crls (leader at)) ∥₁
