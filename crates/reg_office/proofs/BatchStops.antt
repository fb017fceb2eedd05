-- A batch as a step of an office's records, and what a stop in it leaves.
use Rattle.std.specs.Prelude.{OnErr, Vec}
use Rattle.std.specs.Global.{Global}
use Rattle.std.proofs.Common.{◌≡◌, ◌⊎◌, ℕ, List, [], Option, None, Some, Result, Ok, Err, IsTrue, true, refl, sym, subst}
use Rattle.sqlite_trees.specs.Tree.{Trees}
use Rattle.sqlite_trees.specs.declared.store.Store.{Ghosts}
use Rattle.sqlite.specs.Effect.{Database}
use Rattle.sqlite.specs.Held.{Held, state}
use Rattle.sqlite.specs.State.{HasCleanDisk, Survives}
use Rattle.sqlite.proofs.StateLemmas.{survives_weaker}
use Rattle.reg_core.specs.Records.{Records}
use Rattle.reg_core.specs.declared.command.Command.{Command}
use Rattle.reg_core.specs.declared.command.Reply.{Reply}
use Rattle.reg_core.specs.declared.refusal.Fault.{Fault}
use Rattle.reg_core.specs.declared.refusal.Fault.TheVariants.{Refused, Memory, Store, Signer, Read, Write}
use Rattle.reg_core_laws.specs.Run.{Run}
use Rattle.reg_crl.specs.Signing.{signed_by}
use Rattle.reg_office_api.specs.CallSteps.{BatchStep, Signs}
use Rattle.reg_office_api.specs.LookUps.{IsOfStore}
use Rattle.reg_office_api.specs.Signers.{OfficeSigners}
use Rattle.reg_store_changes.specs.WithinTransactions.{BeginsTransaction, CommitsWithin, EndsTransaction, IsInTransaction, StepsWithin}
use Rattle.reg_store_changes.proofs.PublicLaws.{LeadOver, commits_all, steps_clean, stops}
use Rattle.reg_store_tables.specs.Commits.{AreLed, IsMade}
use Rattle.reg_store_tables.specs.DerivedRows.{DerivedRows}
use Rattle.reg_store_tables.specs.Kept.{Kept, ShowsKept}
use Rattle.reg_store_tables.specs.Shows.{AreRecordsAndDerived}
use Rattle.reg_store_tables.specs.Stays.{IsRegister, Stays}
use Rattle.reg_store_tables.specs.declared.fault.DatabaseFault.{DatabaseFault}
use Rattle.reg_store_tables.proofs.PublicLaws.{kept_shows, resting, shows_register, was_clean}
use Rattle.reg_office.specs.AfterStoppedCommand.{ChangingCall, IsBatchDone, LeavesReported, batch_call}
use Rattle.reg_office.specs.Batches.{RunsWithin, StopsBatch}
use Rattle.reg_office.specs.Calls.{LeadsOver, MayInterrupt, StandsWith, StopsOver}
use Rattle.reg_office.specs.Stands.{SoundFor, Stands}
use Rattle.reg_office.proofs.Leaving.{leaves_failed, leaves_kept, leaves_settled, not_closed}
use Rattle.reg_office.proofs.Leading.{stops_lead}
use Rattle.reg_office.proofs.RegisterSummary.{stands_on}
use Rattle.reg_office.proofs.Stopping.{Settles}

pub stops_of_store : (fault : Fault) → IsOfStore fault → StopsBatch fault
stops_of_store Memory is = tt
stops_of_store Store is = tt
stops_of_store (Refused why) is = absurd is
stops_of_store Signer is = absurd is
stops_of_store Read is = absurd is
stops_of_store Write is = absurd is

abbrev pub Outcomes : Type 0
Outcomes = Vec (Result Reply Fault) Global

module _ {C : Type 0} (g : Ghosts C) (signs : Signs) (signers : OfficeSigners) (commands : List (ℕ × Command)) where
  -- what a batch does to the database
  abbrev pub LeadsBatch : List (Result Reply Fault) → Database → Database → Type 0
  LeadsBatch outcomes before after =
      (records : Records) (columns : DerivedRows) → AreRecordsAndDerived before records columns → Kept columns records → SoundFor signs signers.crls records
      → (later : Records) × Run (signed_by signs signers.crls) records commands outcomes later
      × ((derived : DerivedRows) × AreRecordsAndDerived after later derived × Kept derived later) × SoundFor signs signers.crls later

  -- the commands of a batch that has begun lead to it
  pub batch_leads : (mid entered : Held C) (outcomes : List (Result Reply Fault)) → (HasCleanDisk (state g mid) → IsTrue (state g mid).is_open × (mid.in_transaction ≡ true)) → (HasCleanDisk (state g entered) → HasCleanDisk (state g mid))
      → RunsWithin g signs signers.crls mid entered commands outcomes → IsInTransaction (state g mid) → HasCleanDisk (state g entered) → LeadsBatch outcomes (state g mid).now (state g entered).now
  batch_leads mid entered outcomes under was ran within clean records columns both kept sound =
      let (later, run, standing) = ran within clean records (record { under_way = under (was clean); columns = columns; both = both; kept = kept; sound = sound }) in
      (later, run, (standing.columns, standing.both, standing.kept), standing.sound)

  module _ (old new : Held C) (signatory' : OfficeSigners) (same : signatory' ≡ signers) (settles : Settles g) where
    abbrev It : ChangingCall
    It = batch_call commands

    abbrev pub MadeBatch : List (Result Reply Fault) → Trees → Type 0
    MadeBatch outcomes trees = IsRegister (state g old) → AreLed (state g old) (LeadsBatch outcomes) trees

    known : (before : Records) → Stands g signs old signers.crls before → IsRegister (state g old)
    known before stands = shows_register g old before (kept_shows g old before stands.shown)

    -- rows that a stop may leave
    done_batch : (outcomes : List (Result Reply Fault)) (before : Records) → Stands g signs old signers.crls before → HasCleanDisk (state g old) → (trees : Trees) → MadeBatch outcomes trees
        → IsBatchDone signs signers.crls before commands trees
    done_batch outcomes before stands clean trees made =
        let (up, db, is, leads) = made (known before stands) in
        let led = leads before stands.shown.0 (stands.shown.1.tables clean up) stands.shown.2 stands.sound in
        record {
          outcomes = outcomes;
          after = led.0;
          run = led.1;
          sound = led.3;
          rests = λ schema. (led.2.0, resting db trees led.0 led.2.0 is led.2.1, led.2.2, schema);
        }

    -- a batch that ran, or failed, from what stood
    abbrev Goes : (result : Result Outcomes Fault) → OfficeSigners → Records → Option ChangingCall → Type 0
    Goes result those before first =
        (after : Records) × (last : Option ChangingCall) × BatchStep signs commands result those before after
        × StandsWith g signs (new, signatory') those after last × MayInterrupt first It result last

    over : (result : Result Outcomes Fault) → (HasCleanDisk (state g new) → HasCleanDisk (state g old))
        → ((before : Records) (first : Option ChangingCall) → Stands g signs old signers.crls before → LeavesReported g signs old signers.crls before first → HasCleanDisk (state g new)
        → Goes result signers before first)
        → StopsOver g signs It result (BatchStep signs commands result) (old, signers) (new, signatory')
    over result was go = (
      was,
      (λ those before first stood clean.
          let (is, stands, left) = stood in
          let Goal : OfficeSigners → Type 0 = λ v. Stands g signs old v.crls before → LeavesReported g signs old v.crls before first → Goes result v before first in
          subst Goal is (λ standing leaving. go before first standing leaving clean) stands left),
    )

    pub batch_ran : (outcomes : Outcomes) → (HasCleanDisk (state g new) → HasCleanDisk (state g old)) → (HasCleanDisk (state g new) → IsTrue (state g old).is_open)
        → (IsRegister (state g old) → HasCleanDisk (state g new) → IsMade (state g old) (state g new) (LeadsBatch outcomes.items))
        → StopsOver g signs It (Ok outcomes) (BatchStep signs commands (Ok outcomes)) (old, signers) (new, signatory')
    batch_ran outcomes was up made = over (Ok outcomes) was go
      where
        go : (before : Records) (first : Option ChangingCall) → Stands g signs old signers.crls before → LeavesReported g signs old signers.crls before first → HasCleanDisk (state g new)
            → Goes (Ok outcomes) signers before first
        go before None stands left clean =
            let m = made (known before stands) clean in
            let led = m.led before stands.shown.0 (stands.shown.1.tables (was clean) m.was_open) stands.shown.2 stands.sound in
            let shown : ShowsKept g new led.0 = (led.2.0, record { saved = λ whole open_now. m.saved; tables = λ whole open_now. led.2.1 }, led.2.2) in
            (led.0, None, led.1, (same, record { shown = shown; sound = led.3 }, leaves_settled g signs signers.crls new led.0 settles (λ whole. m.is_open) shown), refl)
        go before (Some call) stands left clean = absurd (not_closed g old (up clean) (left.closed (was clean)))

    meets : (fault : Fault) → StopsBatch fault → (last : Option ChangingCall) → (last ≡ None) ⊎ (last ≡ Some It) → MayInterrupt {T = Outcomes} None It (Err fault) last
    meets Memory is last which = which
    meets Store is last which = which
    meets Signer is last which = which
    meets (Refused why) is last which = absurd is
    meets Read is last which = absurd is
    meets Write is last which = absurd is

    pub batch_failed : (fault : Fault) → StopsBatch fault → (outcomes : List (Result Reply Fault)) → (IsRegister (state g old) → Stays (state g old) (state g new)) → Survives (state g old) (state g new) (MadeBatch outcomes)
        → StopsOver {T = Outcomes} g signs It (Err fault) (BatchStep {Z = Global} signs commands (Err fault)) (old, signers) (new, signatory')
    batch_failed fault is outcomes stays survives = over (Err fault) was go
      where
        was : HasCleanDisk (state g new) → HasCleanDisk (state g old)
        was = was_clean (state g old) (state g new) survives.clean

        go : (before : Records) (first : Option ChangingCall) → Stands g signs old signers.crls before → LeavesReported g signs old signers.crls before first → HasCleanDisk (state g new)
            → Goes (Err fault) signers before first
        go before None stands left clean =
            let still = stands_on g signs old new signers.crls before survives.clean stays stands in
            let (last, leaves, which) = leaves_failed g signs signers.crls It old new before (MadeBatch outcomes) settles survives (done_batch outcomes before stands (was clean)) still.shown left in
            (before, last, refl, (same, still, leaves), meets fault is last which)
        go before (Some call) stands left clean =
            let closed = left.closed (was clean) in
            let any : IsRegister (state g old) = known before stands in
            let leaves = leaves_kept g signs signers.crls old new before (Some call) (MadeBatch outcomes) survives (λ whole trees made. not_closed g old (made any).0 closed) stays left in
            (before, Some call, refl, (same, stands_on g signs old new signers.crls before survives.clean stays stands, leaves), (refl, refl))

-- ---- from the beginning of the transaction to its end

-- an error's clause
on_err_is : {T E X : Type 0} {e : E} (r : Result T E) → r ≡ Err e → OnErr r X → X
on_err_is {X = X} r same holds = subst (λ r. OnErr r X) same holds

module _ {C : Type 0} (g : Ghosts C) (signs : Signs) (signers signatory' : OfficeSigners) (same : signatory' ≡ signers) (settles : Settles g) (commands : List (ℕ × Command))
    (old mid entered new : Held C) (begins : BeginsTransaction {T = Unit {0}} {E = DatabaseFault} g old mid (Ok tt)) (steps : StepsWithin g mid entered) where
  clean_mid : HasCleanDisk (state g entered) → HasCleanDisk (state g mid)
  clean_mid = steps_clean steps

  led_to : (outcomes : List (Result Reply Fault)) → RunsWithin g signs signers.crls mid entered commands outcomes
      → LeadOver g old mid entered new begins steps (LeadsBatch g signs signers commands outcomes) (Ok tt)
  led_to outcomes ran = batch_leads g signs signers commands mid entered outcomes (λ clean. let begun = begins.ok clean in (begun.is_open, begun.under_way)) clean_mid ran

  -- it is committed
  pub batch_committed : (outcomes : Outcomes) → RunsWithin g signs signers.crls mid entered commands outcomes.items → CommitsWithin {T = Unit {0}} {E = DatabaseFault} g entered new (Ok tt)
      → StopsOver g signs (batch_call commands) (Ok outcomes) (BatchStep signs commands (Ok outcomes)) (old, signers) (new, signatory')
  batch_committed outcomes ran ends =
      let led = led_to outcomes.items ran in
      let Leads = LeadsBatch g signs signers commands outcomes.items in
      let survives = stops g old mid entered new begins steps Leads (Ok tt) (Ok tt) led ends in
      batch_ran g signs signers commands old new signatory' same settles outcomes (was_clean (state g old) (state g new) survives.clean)
      (λ clean. (begins.ok (clean_mid (was_clean (state g entered) (state g new) ends.survives.clean clean))).was_open)
      (λ register clean. (commits_all g old mid entered new begins steps Leads (Ok tt) (Ok tt) led ends register).made clean)

  -- or the commit fails
  pub batch_uncommitted : (outcomes : List (Result Reply Fault)) (why : DatabaseFault) (fault : Fault) → StopsBatch fault → RunsWithin g signs signers.crls mid entered commands outcomes
      → CommitsWithin {T = Unit {0}} {E = DatabaseFault} g entered new (Err why)
      → StopsOver {T = Outcomes} g signs (batch_call commands) (Err fault) (BatchStep {Z = Global} signs commands (Err fault)) (old, signers) (new, signatory')
  batch_uncommitted outcomes why fault is ran ends =
      let led = led_to outcomes ran in
      let Leads = LeadsBatch g signs signers commands outcomes in
      batch_failed g signs signers commands old new signatory' same settles fault is outcomes
      (λ register. (commits_all g old mid entered new begins steps Leads (Err why) (Ok tt) led ends register).stays)
      (stops g old mid entered new begins steps Leads (Err why) (Ok tt) led ends)

  -- or a command stops the batch
  pub batch_stopped : (why : DatabaseFault) (result : Result (Unit {0}) DatabaseFault) (fault : Fault) → StopsBatch fault → EndsTransaction g entered new (Err why) result
      → StopsOver {T = Outcomes} g signs (batch_call commands) (Err fault) (BatchStep {Z = Global} signs commands (Err fault)) (old, signers) (new, signatory')
  batch_stopped why result fault is ends =
      let Leads = LeadsBatch g signs signers commands [] in
      batch_failed g signs signers commands old new signatory' same settles fault is []
      (λ register. on_err_is result ends.0 (commits_all g old mid entered new begins steps Leads result (Err why) tt ends register).stays)
      (stops g old mid entered new begins steps Leads result (Err why) tt ends)

-- no transaction begins
pub batch_unbegun : {C : Type 0} (g : Ghosts C) (signs : Signs) (signers : OfficeSigners) (settles : Settles g) (commands : List (ℕ × Command)) (old new : Held C)
    (why : DatabaseFault) (fault : Fault) → StopsBatch fault → BeginsTransaction {T = Unit {0}} {E = DatabaseFault} g old new (Err why)
    → StopsOver {T = Outcomes} g signs (batch_call commands) (Err fault) (BatchStep {Z = Global} signs commands (Err fault)) (old, signers) (new, signers)
batch_unbegun g signs signers settles commands old new why fault is begins =
    batch_failed g signs signers commands old new signers refl settles fault is [] (λ register. begins.stays)
    (survives_weaker (state g old) (state g new) (λ _. ⊥) (MadeBatch g signs signers commands old new signers refl settles []) (λ clean trees none. absurd none) begins.survives)

pub batch_steps : {C : Type 0} (g : Ghosts C) (signs : Signs) (commands : List (ℕ × Command)) (result : Result Outcomes Fault) (old new : Held C × OfficeSigners)
    → StopsOver g signs (batch_call commands) result (BatchStep signs commands result) old new → LeadsOver g signs (BatchStep signs commands result) old new
batch_steps g signs commands result old new = stops_lead g signs (batch_call commands) result (BatchStep signs commands result) old new
