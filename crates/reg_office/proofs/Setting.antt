-- A schedule or a key identifier that is set, as a step of the records.
use Rattle.std.proofs.Common.{◌≡◌, ◌⊎◌, ◌∙◌, Option, None, Some, Result, Ok, Err, OnOk, refl, sym, subst}
use Rattle.std.specs.Prelude.{IfErr}
use Rattle.sqlite.specs.Held.{Held, state}
use Rattle.sqlite.specs.State.{HasCleanDisk}
use Rattle.sqlite_trees.specs.Tree.{Trees}
use Rattle.sqlite_trees.specs.declared.store.Store.{Ghosts}
use Rattle.reg_store_tables.proofs.PublicLaws.{was_clean}
use Rattle.reg_core.specs.Records.{Records}
use Rattle.reg_crl.specs.Signing.{Identity}
use Rattle.reg_office_api.specs.LookUps.{IsOfStore}
use Rattle.reg_office_api.specs.Signers.{OfficeSigners}
use Rattle.reg_office_api.specs.CallSteps.{Signs}
use Rattle.reg_office.proofs.Leaving.{leaves_failed, leaves_kept, leaves_settled, not_closed, not_left, not_open, stands_closed, unshown}
use Rattle.reg_office.proofs.RegisterSummary.{stands_on}
use Rattle.reg_office.proofs.Stopping.{Settles}
use Rattle.reg_office.specs.AfterStoppedCommand.{ChangingCall, IsCallDone}
use Rattle.reg_office.specs.Calls.{MayInterrupt, StandsWith, StopsOver}
use Rattle.reg_office.specs.Stands.{Stands}
use Rattle.reg_store_tables.specs.AfterStop.{ShowsDerivedAfterStop}
use Rattle.reg_store_tables.specs.Stays.{Changed}
use Rattle.reg_core.specs.declared.refusal.Fault.{Fault}
use Rattle.reg_core.specs.declared.refusal.Fault.TheVariants.{Refused, Memory, Store, Signer, Read, Write}

-- Who signs before a call and after it, and the tables before it and after it; what the call sets in the records, where the policy keeps its cap, and
-- how that is a step of them, set or not.
module _ {C : Type 0} (g : Ghosts C) (signs : Signs) (signers signatory' : OfficeSigners) (old new : Held C) (it : ChangingCall) (change : Records → Records)
    (Sets : Result (Unit {0}) Fault → Records → Records → Type 0)
    (set : (done : Unit {0}) (records : Records) → Sets (Ok done) records (change records))
    (unset : (why : Fault) (records : Records) → Sets (Err why) records records)
    (same_cap : (records : Records) → (change records).policy.cap ≡ records.policy.cap)
    (done_by : (identity : Identity) (records : Records) (trees : Trees) → ShowsDerivedAfterStop (change records) trees → IsCallDone signs identity records it trees)
    (Made : Trees → Type 0) (settles : Settles g) (same : signatory' ≡ signers)
    (makes : (records : Records) → Stands g signs old signers.crls records → (trees : Trees) → Made trees → ShowsDerivedAfterStop (change records) trees) where
  -- what was set, and what a stop leaves
  abbrev SetsTo : OfficeSigners → Records → Option ChangingCall → Result (Unit {0}) Fault → Type 0
  SetsTo those before first result =
      (after : Records) × (last : Option ChangingCall) × Sets result before after × StandsWith g signs (new, signatory') those after last
      × MayInterrupt first it result last

  abbrev Stops : Result (Unit {0}) Fault → Type 0
  Stops result = StopsOver g signs it result (λ those. Sets result) (old, signers) (new, signatory')

  -- it is set
  was_set : (done : Unit {0}) → Changed {T = Unit {0}} {E = Fault} g old new Made (Ok done)
      → ((records : Records) → Stands g signs old signers.crls records → HasCleanDisk (state g new) → Stands g signs new signatory'.crls (change records))
      → (those : OfficeSigners) (before : Records) (first : Option ChangingCall) → StandsWith g signs (old, signers) those before first → HasCleanDisk (state g new)
      → SetsTo those before first (Ok done)
  was_set done changed ok those before None (is, stands, left) clean =
      let are : signatory' ≡ those = same ∙ is in
      let P : OfficeSigners → Type 0 = λ v. Stands g signs old v.crls before in
      let Q : OfficeSigners → Type 0 = λ v. Stands g signs new v.crls (change before) in
      let now = subst Q are (ok before (subst P (sym is) stands) clean) in
      (change before, None, set done before, (are, now, leaves_settled g signs those.crls new (change before) settles changed.live now.shown), refl)
  was_set done changed ok those before (Some call) (is, stands, left) clean =
      let closed = left.closed (was_clean (state g old) (state g new) changed.survives.clean clean) in
      let shown = (ok (unshown before.issuer) (stands_closed g signs signers.crls old before.issuer closed) clean).shown in
      absurd (not_closed g new (changed.live clean) (not_open g new (change (unshown before.issuer)) (same_cap (unshown before.issuer)) shown clean))

  -- a fault
  was_unset : (why : Fault) → ((last : Option ChangingCall) → (last ≡ None) ⊎ (last ≡ Some it) → MayInterrupt {T = Unit {0}} None it (Err why) last)
      → Changed {T = Unit {0}} {E = Fault} g old new Made (Err why)
      → (those : OfficeSigners) (before : Records) (first : Option ChangingCall) → StandsWith g signs (old, signers) those before first → HasCleanDisk (state g new)
      → SetsTo those before first (Err why)
  was_unset why meets changed those before None (is, stands, left) clean =
      let P : OfficeSigners → Type 0 = λ v. Stands g signs old v.crls before in
      let still = stands_on g signs old new those.crls before changed.survives.clean changed.err stands in
      let (last, leaves, which) = leaves_failed g signs those.crls it old new before Made settles changed.survives
      (λ trees made. done_by those.crls before trees (makes before (subst P (sym is) stands) trees made)) still.shown left in
      (before, last, unset why before, (same ∙ is, still, leaves), meets last which)
  was_unset why meets changed those before (Some call) (is, stands, left) clean =
      let closed = left.closed (was_clean (state g old) (state g new) changed.survives.clean clean) in
      let issuer = before.issuer in
      let leaves = leaves_kept g signs those.crls old new before (Some call) Made changed.survives
      (λ whole trees made.
      not_left trees (change (unshown issuer)) (same_cap (unshown issuer)) (makes (unshown issuer) (stands_closed g signs signers.crls old issuer closed) trees made))
      changed.err left in
      (before, Some call, unset why before, (same ∙ is, stands_on g signs old new those.crls before changed.survives.clean changed.err stands, leaves), (refl, refl))

  pub set_stops : (result : Result (Unit {0}) Fault) → Changed g old new Made result → IfErr result IsOfStore
      → ((records : Records) → Stands g signs old signers.crls records → HasCleanDisk (state g new) → OnOk result (Stands g signs new signatory'.crls (change records)))
      → Stops result
  set_stops (Ok done) changed of_store ok = (was_clean (state g old) (state g new) changed.survives.clean, was_set done changed ok)
  set_stops (Err Memory) changed of_store ok =
      (was_clean (state g old) (state g new) changed.survives.clean, was_unset Memory (λ last which. which) changed)
  set_stops (Err Store) changed of_store ok =
      (was_clean (state g old) (state g new) changed.survives.clean, was_unset Store (λ last which. which) changed)
  set_stops (Err (Refused why)) changed of_store ok = absurd of_store
  set_stops (Err Signer) changed of_store ok = absurd of_store
  set_stops (Err Read) changed of_store ok = absurd of_store
  set_stops (Err Write) changed of_store ok = absurd of_store

-- what is set is a change, whatever the kind of fault
pub set_change : {C T E F : Type 0} {g : Ghosts C} {old new : Held C} {Made : Trees → Type 0} (done : T)
    → Changed {T = T} {E = E} g old new Made (Ok done) → Changed {T = T} {E = F} g old new Made (Ok done)
set_change done changed = record { live = changed.live; err = λ register. tt; survives = changed.survives }

pub unset_change : {C T E F : Type 0} {g : Ghosts C} {old new : Held C} {Made : Trees → Type 0} (why : E) (other : F)
    → Changed {T = T} {E = E} g old new Made (Err why) → Changed {T = T} {E = F} g old new Made (Err other)
unset_change why other changed = record { live = λ clean. tt; err = changed.err; survives = changed.survives }
