-- Pages that are entered in one transaction, as a step of an office's records, and what a stop leaves.
use Rattle.std.specs.Prelude.{OnErr}
use Rattle.std.proofs.Common.{◌≡◌, List, Option, None, Some, Result, Ok, Err, IsTrue, true, refl, subst}
use Rattle.sqlite_trees.specs.Tree.{Trees}
use Rattle.sqlite_trees.specs.declared.store.Store.{Ghosts}
use Rattle.sqlite.specs.Effect.{Database}
use Rattle.sqlite.specs.Held.{Held, state}
use Rattle.sqlite.specs.State.{HasCleanDisk, Survives}
use Rattle.sqlite.proofs.StateLemmas.{survives_weaker}
use Rattle.reg_core.specs.Records.{Records}
use Rattle.reg_core_lists.specs.declared.feed_reader.ReceivedPage.{ReceivedPage}
use Rattle.reg_core_lists.specs.declared.positions.Positions.{Positions}
use Rattle.reg_office_api.specs.CallSteps.{Signs}
use Rattle.reg_office_api.specs.Follows.{EntersPages, FollowsPages}
use Rattle.reg_office_api.specs.Signers.{OfficeSigners}
use Rattle.reg_office_api.specs.declared.follow.FollowFault.{FollowFault}
use Rattle.reg_store_changes.specs.WithinTransactions.{BeginsTransaction, CommitsWithin, EndsTransaction, IsInTransaction, StepsWithin}
use Rattle.reg_store_changes.proofs.PublicLaws.{LeadOver, commits_all, steps_clean, stops}
use Rattle.reg_store_tables.specs.Commits.{AreLed, IsMade}
use Rattle.reg_store_tables.specs.DerivedRows.{DerivedRows}
use Rattle.reg_store_tables.specs.Kept.{Kept, ShowsKept}
use Rattle.reg_store_tables.specs.Shows.{AreRecordsAndDerived}
use Rattle.reg_store_tables.specs.Stays.{IsRegister, Stays}
use Rattle.reg_store_tables.specs.declared.fault.DatabaseFault.{DatabaseFault}
use Rattle.reg_store_tables.proofs.PublicLaws.{kept_shows, resting, shows_register, was_clean}
use Rattle.reg_office.specs.AfterStoppedCommand.{ChangingCall, IsFollowDone, LeavesReported, follow_call}
use Rattle.reg_office.specs.Calls.{MayInterrupt, StandsWith, StopsOver, store_result}
use Rattle.reg_office.specs.Replays.{LeadsWithin}
use Rattle.reg_office.specs.Stands.{SoundFor, Stands}
use Rattle.reg_office.proofs.Leaving.{leaves_failed, leaves_kept, leaves_settled, not_closed}
use Rattle.reg_office.proofs.RegisterSummary.{stands_on}
use Rattle.reg_office.proofs.Stopping.{Settles}

module _ {C : Type 0} (g : Ghosts C) (signs : Signs) (signers : OfficeSigners) (pages : List ReceivedPage) where
  -- what pages do to the database
  abbrev pub LeadsPages : Positions → Database → Database → Type 0
  LeadsPages reached before after =
      (records : Records) (columns : DerivedRows) → AreRecordsAndDerived before records columns → Kept columns records → SoundFor signs signers.crls records
      → (later : Records) × FollowsPages pages reached records later
      × ((derived : DerivedRows) × AreRecordsAndDerived after later derived × Kept derived later) × SoundFor signs signers.crls later

  -- what pages are to an office
  abbrev pub StopsPages : Result Positions FollowFault → Held C × OfficeSigners → Held C × OfficeSigners → Type 0
  StopsPages result = StopsOver g signs (follow_call pages) (store_result result) (λ those. EntersPages pages result)

  -- the steps of a transaction that has begun lead to it
  pub pages_lead : (mid entered : Held C) (reached : Positions) → (HasCleanDisk (state g mid) → IsTrue (state g mid).is_open × (mid.in_transaction ≡ true)) → (HasCleanDisk (state g entered) → HasCleanDisk (state g mid))
      → LeadsWithin g signs signers.crls mid entered (FollowsPages pages reached) → IsInTransaction (state g mid) → HasCleanDisk (state g entered) → LeadsPages reached (state g mid).now (state g entered).now
  pages_lead mid entered reached under was leads within clean records columns both kept sound =
      let (later, follows, standing) = leads within clean records (record { under_way = under (was clean); columns = columns; both = both; kept = kept; sound = sound }) in
      (later, follows, (standing.columns, standing.both, standing.kept), standing.sound)

  module _ (old new : Held C) (signatory' : OfficeSigners) (same : signatory' ≡ signers) (settles : Settles g) where
    abbrev It : ChangingCall
    It = follow_call pages

    abbrev pub MadePages : Positions → Trees → Type 0
    MadePages reached trees = IsRegister (state g old) → AreLed (state g old) (LeadsPages reached) trees

    known : (before : Records) → Stands g signs old signers.crls before → IsRegister (state g old)
    known before stands = shows_register g old before (kept_shows g old before stands.shown)

    -- rows that a stop may leave
    done_pages : (reached : Positions) (before : Records) → Stands g signs old signers.crls before → HasCleanDisk (state g old) → (trees : Trees) → MadePages reached trees
        → IsFollowDone signs signers.crls before pages trees
    done_pages reached before stands clean trees made =
        let (up, db, is, leads) = made (known before stands) in
        let led = leads before stands.shown.0 (stands.shown.1.tables clean up) stands.shown.2 stands.sound in
        record {
          reached = reached;
          after = led.0;
          follows = led.1;
          sound = led.3;
          rests = λ schema. (led.2.0, resting db trees led.0 led.2.0 is led.2.1, led.2.2, schema);
        }

    -- from what stood
    abbrev Goes : (result : Result Positions FollowFault) → OfficeSigners → Records → Option ChangingCall → Type 0
    Goes result those before first =
        (after : Records) × (last : Option ChangingCall) × EntersPages pages result before after
        × StandsWith g signs (new, signatory') those after last × MayInterrupt first It (store_result result) last

    over : (result : Result Positions FollowFault) → (HasCleanDisk (state g new) → HasCleanDisk (state g old))
        → ((before : Records) (first : Option ChangingCall) → Stands g signs old signers.crls before → LeavesReported g signs old signers.crls before first → HasCleanDisk (state g new)
        → Goes result signers before first)
        → StopsPages result (old, signers) (new, signatory')
    over result was go = (
      was,
      (λ those before first stood clean.
          let (is, stands, left) = stood in
          let Goal : OfficeSigners → Type 0 = λ v. Stands g signs old v.crls before → LeavesReported g signs old v.crls before first → Goes result v before first in
          subst Goal is (λ standing leaving. go before first standing leaving clean) stands left),
    )

    pub pages_entered : (reached : Positions) → (HasCleanDisk (state g new) → HasCleanDisk (state g old)) → (HasCleanDisk (state g new) → IsTrue (state g old).is_open)
        → (IsRegister (state g old) → HasCleanDisk (state g new) → IsMade (state g old) (state g new) (LeadsPages reached))
        → StopsPages (Ok reached) (old, signers) (new, signatory')
    pages_entered reached was up made = over (Ok reached) was go
      where
        go : (before : Records) (first : Option ChangingCall) → Stands g signs old signers.crls before → LeavesReported g signs old signers.crls before first → HasCleanDisk (state g new)
            → Goes (Ok reached) signers before first
        go before None stands left clean =
            let m = made (known before stands) clean in
            let led = m.led before stands.shown.0 (stands.shown.1.tables (was clean) m.was_open) stands.shown.2 stands.sound in
            let shown : ShowsKept g new led.0 = (led.2.0, record { saved = λ whole open_now. m.saved; tables = λ whole open_now. led.2.1 }, led.2.2) in
            (led.0, None, led.1, (same, record { shown = shown; sound = led.3 }, leaves_settled g signs signers.crls new led.0 settles (λ whole. m.is_open) shown), refl)
        go before (Some call) stands left clean = absurd (not_closed g old (up clean) (left.closed (was clean)))

    pub pages_failed : (fault : FollowFault) (reached : Positions) → (IsRegister (state g old) → Stays (state g old) (state g new)) → Survives (state g old) (state g new) (MadePages reached)
        → StopsPages (Err fault) (old, signers) (new, signatory')
    pages_failed fault reached stays survives = over (Err fault) was go
      where
        was : HasCleanDisk (state g new) → HasCleanDisk (state g old)
        was = was_clean (state g old) (state g new) survives.clean

        go : (before : Records) (first : Option ChangingCall) → Stands g signs old signers.crls before → LeavesReported g signs old signers.crls before first → HasCleanDisk (state g new)
            → Goes (Err fault) signers before first
        go before None stands left clean =
            let still = stands_on g signs old new signers.crls before survives.clean stays stands in
            let (last, leaves, which) = leaves_failed g signs signers.crls It old new before (MadePages reached) settles survives (done_pages reached before stands (was clean)) still.shown left in
            (before, last, refl, (same, still, leaves), which)
        go before (Some call) stands left clean =
            let closed = left.closed (was clean) in
            let any : IsRegister (state g old) = known before stands in
            let leaves = leaves_kept g signs signers.crls old new before (Some call) (MadePages reached) survives (λ whole trees made. not_closed g old (made any).0 closed) stays left in
            (before, Some call, refl, (same, stands_on g signs old new signers.crls before survives.clean stays stands, leaves), (refl, refl))

-- ---- from the beginning of the transaction to its end

-- an error's clause
on_err_is : {T E X : Type 0} {e : E} (r : Result T E) → r ≡ Err e → OnErr r X → X
on_err_is {X = X} r same holds = subst (λ r. OnErr r X) same holds

module _ {C : Type 0} (g : Ghosts C) (signs : Signs) (signers signatory' : OfficeSigners) (same : signatory' ≡ signers) (settles : Settles g) (pages : List ReceivedPage) (reached : Positions)
    (old mid entered new : Held C) (begins : BeginsTransaction {T = Unit {0}} {E = DatabaseFault} g old mid (Ok tt)) (steps : StepsWithin g mid entered) where
  abbrev Leads : Database → Database → Type 0
  Leads = LeadsPages g signs signers pages reached

  clean_mid : HasCleanDisk (state g entered) → HasCleanDisk (state g mid)
  clean_mid = steps_clean steps

  led_to : LeadsWithin g signs signers.crls mid entered (FollowsPages pages reached) → LeadOver g old mid entered new begins steps Leads (Ok tt)
  led_to leads = pages_lead g signs signers pages mid entered reached (λ clean. let begun = begins.ok clean in (begun.is_open, begun.under_way)) clean_mid leads

  -- it is committed
  pub pages_committed : LeadsWithin g signs signers.crls mid entered (FollowsPages pages reached) → CommitsWithin {T = Unit {0}} {E = DatabaseFault} g entered new (Ok tt)
      → StopsPages g signs signers pages (Ok reached) (old, signers) (new, signatory')
  pages_committed leads ends =
      let led = led_to leads in
      let survives = stops g old mid entered new begins steps Leads (Ok tt) (Ok tt) led ends in
      pages_entered g signs signers pages old new signatory' same settles reached (was_clean (state g old) (state g new) survives.clean)
      (λ clean. (begins.ok (clean_mid (was_clean (state g entered) (state g new) ends.survives.clean clean))).was_open)
      (λ register clean. (commits_all g old mid entered new begins steps Leads (Ok tt) (Ok tt) led ends register).made clean)

  -- or the commit fails
  pub pages_uncommitted : (why : DatabaseFault) (fault : FollowFault) → LeadsWithin g signs signers.crls mid entered (FollowsPages pages reached)
      → CommitsWithin {T = Unit {0}} {E = DatabaseFault} g entered new (Err why) → StopsPages g signs signers pages (Err fault) (old, signers) (new, signatory')
  pages_uncommitted why fault leads ends =
      let led = led_to leads in
      pages_failed g signs signers pages old new signatory' same settles fault reached
      (λ register. (commits_all g old mid entered new begins steps Leads (Err why) (Ok tt) led ends register).stays)
      (stops g old mid entered new begins steps Leads (Err why) (Ok tt) led ends)

  -- or a rule is broken, or the database fails
  pub pages_stopped : (why : DatabaseFault) (result : Result (Unit {0}) DatabaseFault) (fault : FollowFault) → EndsTransaction g entered new (Err why) result
      → StopsPages g signs signers pages (Err fault) (old, signers) (new, signatory')
  pages_stopped why result fault ends =
      pages_failed g signs signers pages old new signatory' same settles fault reached
      (λ register. on_err_is result ends.0 (commits_all g old mid entered new begins steps Leads result (Err why) tt ends register).stays)
      (stops g old mid entered new begins steps Leads result (Err why) tt ends)

-- no transaction begins
pub pages_unbegun : {C : Type 0} (g : Ghosts C) (signs : Signs) (signers : OfficeSigners) (settles : Settles g) (pages : List ReceivedPage) (reached : Positions) (old new : Held C)
    (why : DatabaseFault) (fault : FollowFault) → BeginsTransaction {T = Unit {0}} {E = DatabaseFault} g old new (Err why)
    → StopsPages g signs signers pages (Err fault) (old, signers) (new, signers)
pages_unbegun g signs signers settles pages reached old new why fault begins =
    pages_failed g signs signers pages old new signers refl settles fault reached (λ register. begins.stays)
    (survives_weaker (state g old) (state g new) (λ _. ⊥) (MadePages g signs signers pages old new signers refl settles reached) (λ clean trees none. absurd none) begins.survives)
