-- One transaction, from its beginning to its end.
use Rattle.std.specs.Prelude.{IsErr, OnErr, OnOk}
use Rattle.std.proofs.Common.{◌≡◌, inr, ℕ, false, Result, Ok, Err, IsTrue, refl, sym, ap, subst, ◌∙◌}
use Rattle.sqlite_trees.specs.Tree.{Trees}
use Rattle.sqlite_trees.specs.declared.store.Store.{Ghosts}
use Rattle.sqlite.specs.Effect.{Database}
use Rattle.sqlite.specs.Held.{Held, state}
use Rattle.sqlite.specs.State.{HasCleanDisk, Survives}
use Rattle.sqlite.proofs.StateLemmas.{survives_then, survives_weaker}
use Rattle.reg_core.specs.Changes.{changed_by}
use Rattle.reg_core.specs.Records.{Records}
use Rattle.reg_core.specs.declared.change.Change.{Change}
use Rattle.reg_store_tables.specs.Commits.{AreLed, Commits, IsMade}
use Rattle.reg_store_tables.specs.DerivedRows.{DerivedRows}
use Rattle.reg_store_tables.specs.Kept.{ShowsKept}
use Rattle.reg_store_tables.specs.Shows.{AreRecordsAndDerived, ShowsBoth}
use Rattle.reg_store_tables.specs.Stays.{IsRegister, Stays}
use Rattle.reg_store_tables.specs.declared.fault.DatabaseFault.{DatabaseFault}
use Rattle.reg_store_tables.proofs.PublicLaws.{at_rest, both_shows, keeps, keeps_days, kept_shows, led, on_err, shows_register}
use Rattle.reg_store_changes.specs.AfterStoppedChange.{IsChanged}
use Rattle.reg_store_changes.specs.ChangeEffects.{derived_after}
use Rattle.reg_store_changes.specs.ChangeSteps.{Enters}
use Rattle.reg_store_changes.specs.DerivedEffects.{with_expired}
use Rattle.reg_store_changes.specs.MadeChanges.{MakesChange}
use Rattle.reg_store_changes.specs.WithinTransactions.{BeginsTransaction, CommitsWithin, EndsTransaction, IsTransactionBegun, IsUndone, IsInTransaction, MakesWithin, RollsBack, StepsWithin}
use Rattle.reg_store_changes.proofs.Law.{kept_change}
use Rattle.reg_store_changes.proofs.Making.{beside_days, same_days}
use Rattle.reg_store_changes.proofs.Within.{was_clean}

-- what follows on success
ok_more : {T E A B : Type 0} (r : Result T E) → OnOk r A → (A → B) → OnOk r B
ok_more (Ok x) a more = more a
ok_more (Err e) a more = tt

is_err_ok : {T E : Type 0} (A : Type 0) {e : E} (r : Result T E) → r ≡ Err e → OnOk r A
is_err_ok A r same = subst (λ r. OnOk r A) (sym same) tt

err_more : {T E A : Type 0} (r : Result T E) → A → OnErr r A
err_more (Ok x) holds = tt
err_more (Err e) holds = holds

-- a begun transaction over a register's tables
pub begun_within : {S : Type 0} (g : Ghosts S) (old mid : Held S) → (HasCleanDisk (state g mid) → IsTransactionBegun (state g old) (state g mid)) → (HasCleanDisk (state g mid) → HasCleanDisk (state g old)) → IsRegister (state g old) → IsInTransaction (state g mid)
begun_within g old mid begun was register = record {
  register = record {
    now = λ clean up. ap (λ (db : Database). db.schema) (begun clean).now ∙ register.now (was clean) (begun clean).was_open;
    committed = λ clean up. ap (λ (db : Database). db.schema) (begun clean).committed ∙ register.committed (was clean) (begun clean).was_open;
  };
  live = λ clean under. (begun clean).is_open;
}

-- no transaction is under way after its end
pub ends_idle : {S : Type 0} (g : Ghosts S) (entered new : Held S) (made result : Result (Unit {0}) DatabaseFault) → EndsTransaction g entered new made result → HasCleanDisk (state g new) → new.in_transaction ≡ false
ends_idle g entered new (Ok x) (Ok y) ends clean = (ends.made clean).mode
ends_idle g entered new (Ok x) (Err f) ends clean = (ends.undone clean).idle
ends_idle g entered new (Err e) result ends clean = (ends.1.undone clean).idle

module _ {S : Type 0} (g : Ghosts S) (old mid entered new : Held S) (begins : BeginsTransaction {T = Unit {0}} {E = DatabaseFault} g old mid (Ok tt)) (steps : StepsWithin g mid entered) (Leads : Database → Database → Type 0) where
  clean_mid : HasCleanDisk (state g entered) → HasCleanDisk (state g mid)
  clean_mid = was_clean (state g mid) (state g entered) steps.survives.clean

  clean_old : HasCleanDisk (state g mid) → HasCleanDisk (state g old)
  clean_old = was_clean (state g old) (state g mid) begins.survives.clean

  within : IsRegister (state g old) → IsInTransaction (state g mid)
  within = begun_within g old mid begins.ok clean_old

  -- what the steps led to
  abbrev pub LeadOver : Result (Unit {0}) DatabaseFault → Type 0
  LeadOver made = OnOk made (IsInTransaction (state g mid) → HasCleanDisk (state g entered) → Leads (state g mid).now (state g entered).now)

  entered_led : IsRegister (state g old) → LeadOver (Ok tt) → HasCleanDisk (state g entered) → Leads (state g old).now (state g entered).now
  entered_led register led clean = subst (λ db. Leads db (state g entered).now) (begins.ok (clean_mid clean)).now (led (within register) clean)

  undone_stays : (HasCleanDisk (state g new) → HasCleanDisk (state g entered)) → IsRegister (state g old) → (HasCleanDisk (state g new) → IsUndone (state g entered) (state g new)) → Stays (state g old) (state g new)
  undone_stays was register undone =
      let same : HasCleanDisk (state g new) → IsTrue (state g entered).is_open → (state g entered).committed ≡ (state g old).committed =
      λ clean up. (steps.kept (within register) (was clean)).committed up ∙ (begins.ok (clean_mid (was clean))).committed in
      record {
        was_open = λ clean up. (begins.ok (clean_mid (was clean))).was_open;
        now = λ clean up. inr ((undone clean).now up ∙ same clean ((undone clean).was_open up));
        committed = λ clean up. (undone clean).committed up ∙ same clean ((undone clean).was_open up);
      }

  -- a stop leaves what it would have left before, or what the end commits
  stop : (P : Trees → Type 0) → Survives (state g entered) (state g new) P → (IsRegister (state g old) → HasCleanDisk (state g new) → (trees : Trees) → P trees → AreLed (state g old) Leads trees)
      → Survives (state g old) (state g new) (λ trees. IsRegister (state g old) → AreLed (state g old) Leads trees)
  stop P survives leaves =
      let Made : Trees → Type 0 = λ trees. IsRegister (state g old) → AreLed (state g old) Leads trees in
      survives_then (state g old) (state g mid) (state g new) (λ _. ⊥) Made Made (λ clean db none. absurd none) (λ clean db made. made) begins.survives
      (survives_then (state g mid) (state g entered) (state g new) (λ _. ¬ IsInTransaction (state g mid)) P Made (λ clean db none register. absurd (none (within register))) (λ clean db made register. leaves register clean db made)
      steps.survives survives)

  module _ (r : Result (Unit {0}) DatabaseFault) where
    -- the connection is open once it is committed
    pub lives : (made : Result (Unit {0}) DatabaseFault) → EndsTransaction g entered new made r → HasCleanDisk (state g new) → OnOk r (IsTrue (state g new).is_open)
    lives (Ok x) ends clean = ok_more r (ends.made clean) (λ shows. shows.is_open)
    lives (Err e) ends clean = is_err_ok _ r ends.0

    pub stops : (made : Result (Unit {0}) DatabaseFault) → LeadOver made → EndsTransaction g entered new made r
        → Survives (state g old) (state g new) (λ trees. IsRegister (state g old) → AreLed (state g old) Leads trees)
    stops (Ok x) moved ends = stop (λ trees. trees ≡ (state g entered).now.trees) ends.survives (λ register clean trees is.
        let was = was_clean (state g entered) (state g new) ends.survives.clean clean in
        ((begins.ok (clean_mid was)).was_open, (state g entered).now, is, entered_led register moved was))
    stops (Err e) moved ends = stop (λ _. ⊥) ends.1.survives (λ register clean trees none. absurd none)

    stays_by_end : (made : Result (Unit {0}) DatabaseFault) → EndsTransaction g entered new made r → IsRegister (state g old) → OnErr r (Stays (state g old) (state g new))
    stays_by_end (Ok x) ends register = go r ends
      where
        go : (r : Result (Unit {0}) DatabaseFault) → CommitsWithin g entered new r → OnErr r (Stays (state g old) (state g new))
        go (Ok y) ends = tt
        go (Err f) ends = undone_stays (was_clean (state g entered) (state g new) ends.survives.clean) register ends.undone
    stays_by_end (Err e) ends register = subst (λ r. OnErr r (Stays (state g old) (state g new))) (sym ends.0) (undone_stays (was_clean (state g entered) (state g new) ends.1.survives.clean) register ends.1.undone)

    made_by_end : (made : Result (Unit {0}) DatabaseFault) → LeadOver made → EndsTransaction g entered new made r → IsRegister (state g old) → HasCleanDisk (state g new) → OnOk r (IsMade (state g old) (state g new) Leads)
    made_by_end (Ok x) moved ends register clean =
        let was = was_clean (state g entered) (state g new) ends.survives.clean clean in
        ok_more r (ends.made clean) (λ shows. record {
          was_open = (begins.ok (clean_mid was)).was_open;
          is_open = shows.is_open;
          saved = shows.now_is ∙ sym shows.committed_is;
          led = subst (Leads (state g old).now) (sym shows.now_is) (entered_led register moved was);
        })
    made_by_end (Err e) moved ends register clean = is_err_ok _ r ends.0

    pub commits_all : (made : Result (Unit {0}) DatabaseFault) → LeadOver made → EndsTransaction g entered new made r → IsRegister (state g old) → Commits g old new r Leads
    commits_all made moved ends register =
        let survives = stops made moved ends in
        record {
          made = made_by_end made moved ends register;
          stays = stays_by_end made ends register;
          survives = survives_weaker (state g old) (state g new) (λ trees. IsRegister (state g old) → AreLed (state g old) Leads trees) (AreLed (state g old) Leads) (λ clean trees led. led register) survives;
        }

-- what steps led to that move the database
led_by : {S : Type 0} (g : Ghosts S) (mid entered : Held S) (Leads : Database → Database → Type 0) (made : Result (Unit {0}) DatabaseFault) → MakesWithin g mid entered made Leads
    → OnOk made (IsInTransaction (state g mid) → HasCleanDisk (state g entered) → Leads (state g mid).now (state g entered).now)
led_by g mid entered Leads (Ok x) moved = λ within clean. (moved within clean).tables
led_by g mid entered Leads (Err e) moved = tt

-- ---- a change in a transaction of its own

pub change_made : {S : Type 0} {g : Ghosts S} {old mid entered new : Held S} {now : ℕ} {change : Change} {result : Result (Unit {0}) DatabaseFault} (made : Result (Unit {0}) DatabaseFault) → BeginsTransaction {T = Unit {0}} {E = DatabaseFault} g old mid (Ok tt) → StepsWithin g mid entered
    → MakesWithin g mid entered made (Enters now change) → EndsTransaction g entered new made result → MakesChange g old new now change result
change_made {g = g} {old = old} {mid = mid} {entered = entered} {new = new} {now = now} {change = change} {result = result} made begins steps moved ends =
    let led_on = led_by g mid entered (Enters now change) made moved in
    let done : IsRegister (state g old) → Commits g old new result (Enters now change) = commits_all g old mid entered new begins steps (Enters now change) result made led_on ends in
    let survives = stops g old mid entered new begins steps (Enters now change) result made led_on ends in
    let known : (records : Records) → ShowsKept g old records → IsRegister (state g old) = λ records kept. shows_register g old records (kept_shows g old records kept) in
    record {
      ok = λ records kept sound up fits.
          keeps (done (known records kept)) records (changed_by records now change) kept.0 (derived_after now change kept.0) (derived_after now change kept.0) kept.1
          (λ clean before after both on. (on.turns records kept.0 sound fits both).0)
          (λ clean. refl) (kept_change records kept.0 now sound up kept.2 change fits);
      one = λ clean records columns both.
          led (done (shows_register g old records (both_shows g old records columns both))) (λ db. AreRecordsAndDerived db records columns) both clean (λ after shown on. on.one records columns shown);
      days = λ records kept sound fits.
          keeps_days (done (known records kept)) (λ db. AreRecordsAndDerived db records kept.0) kept.1 (λ clean before after both on.
          let made = on.turns records kept.0 sound fits both in
          same_days before after records _ kept.0 _ both made.0 (beside_days change (with_expired now kept.0)));
      changed = record {
        live = lives g old mid entered new begins steps (Enters now change) result made ends;
        err = λ register. (done register).stays;
        survives = survives_weaker (state g old) (state g new) (λ trees. IsRegister (state g old) → AreLed (state g old) (Enters now change) trees) (IsChanged g old now change) (λ clean trees may records kept sound le fits.
            let left = may (known records kept) in
            let both = kept.1.tables (was_clean (state g old) (state g new) survives.clean clean) left.0 in
            let made = left.3.turns records kept.0 sound fits both in
            at_rest left.1 trees (changed_by records now change) (derived_after now change kept.0) left.2 made.0 made.1
            (kept_change records kept.0 now sound le kept.2 change fits)) survives;
      };
      idle = λ clean was. ends_idle g entered new made result ends clean;
    }

pub not_begun_change : {S T E : Type 0} {g : Ghosts S} {old new : Held S} {now : ℕ} {change : Change} {A F : Type 0} {why : F} (result : Result T E) → IsErr result → BeginsTransaction {T = A} {E = F} g old new (Err why) → MakesChange g old new now change result
not_begun_change {g = g} {old = old} {new = new} {now = now} {change = change} result failed begins = record {
  ok = λ records kept sound up fits. on_err _ result failed;
  one = λ clean records columns both. on_err _ result failed;
  days = λ records kept sound fits. on_err _ result failed;
  changed = record {
    live = λ clean. on_err _ result failed;
    err = λ register. err_more result begins.stays;
    survives = survives_weaker (state g old) (state g new) (λ _. ⊥) (IsChanged g old now change) (λ clean trees none. absurd none) begins.survives;
  };
  idle = begins.idle;
}
