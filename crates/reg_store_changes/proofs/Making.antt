-- What a change makes, told once for all of them, and the days of the office, which stay.
use Rattle.std.specs.Prelude.{IsErr, List, OnErr}
use Rattle.std.proofs.Common.{◌≡◌, ℕ, false, Result, Ok, Err, OnOk, refl, sym, subst, ap, ◌∙◌}
use Rattle.sqlite_trees.specs.Tree.{Trees}
use Rattle.sqlite_trees.specs.declared.store.Store.{Ghosts}
use Rattle.sqlite.specs.Held.{Held, state}
use Rattle.sqlite.specs.State.{State, Survives}
use Rattle.reg_core.specs.Changes.{changed_by, touched}
use Rattle.reg_core.specs.Issuer.{Issuer}
use Rattle.reg_core.specs.Records.{Records}
use Rattle.reg_core.specs.declared.change.Change.{Change}
use Rattle.reg_core.specs.declared.change.Change.TheVariants.{Touch, Subscriber, Order, Certificate, Request, Decline, Revocation, Crl as NewCrl}
use Rattle.reg_store_tables.specs.DerivedRows.{DerivedRows, office_days}
use Rattle.reg_store_tables.specs.Stays.{Changed, Looked, Moves, Stays}
use Rattle.reg_store_tables.proofs.PublicLaws.{on_err, looked_fails, moves_as}
use Rattle.reg_store_changes.specs.AfterStoppedChange.{IsIssuerSet, IsScheduled}
use Rattle.reg_store_changes.specs.ChangeEffects.{derived_rows_after}
use Rattle.reg_store_changes.specs.ChangeSteps.{Puts}
use Rattle.reg_store_changes.specs.MadeChanges.{MakesChange, SetsIssuer, SetsSchedule}
use Rattle.sqlite_value.specs.declared.value.Value.TheVariants.{Int}
use Rattle.sqlite.specs.Effect.{Database}
use Rattle.reg_store_tables.specs.Shows.{AreRecordsAndDerived, KeepsOfficeDays}

-- a change at the last accepted moment, and then the moment
pub moment_set : (records : Records) (now : ℕ) (change : Change) → touched (changed_by records records.last change) now ≡ changed_by records now change
moment_set records now Touch = refl
moment_set records now (Subscriber row) = refl
moment_set records now (Order row) = refl
moment_set records now (Certificate row) = refl
moment_set records now (Request row) = refl
moment_set records now (Decline id) = refl
moment_set records now (Revocation row not_after) = refl
moment_set records now (NewCrl row der) = refl

-- what makes this change makes the one that was given
pub puts : {A E : Type 0} (old new : State) (P : Database → Type 0) {given change : Change} (r : Result A E) → given ≡ change → OnOk r (Moves old new P) → (P new.now → Puts change old.now new.now)
    → OnOk r (Moves old new (Puts given old.now))
puts old new P {given} {change} r same moved turns =
    moves_as old new (λ _. P) (λ _. Puts given old.now) r moved (λ _ holds. subst (λ those. Puts those old.now new.now) (sym same) (turns holds))

-- ---- the days of the office

-- no change turns the days that are kept
pub beside_days : (change : Change) (columns : DerivedRows) → (derived_rows_after change columns).days ≡ columns.days
beside_days Touch columns = refl
beside_days (Subscriber row) columns = refl
beside_days (Order row) columns = refl
beside_days (Certificate row) columns = refl
beside_days (Request row) columns = refl
beside_days (Decline id) columns = refl
beside_days (Revocation row not_after) columns = refl
beside_days (NewCrl row der) columns = refl

-- tables of the same days
pub same_days : (db after : Database) (records later : Records) (columns others : DerivedRows) → AreRecordsAndDerived db records columns → AreRecordsAndDerived after later others → others.days ≡ columns.days → office_days (after.trees 0) ≡ office_days (db.trees 0)
same_days db after records later columns others both made same = made.kept.days ∙ ap Int same ∙ sym both.kept.days

-- and so does a call after another
pub keeps_days_then : {S A E : Type 0} (g : Ghosts S) (a b c : Held S) (r : Result A E) → KeepsOfficeDays g a b → OnOk r (KeepsOfficeDays g b c) → OnOk r (KeepsOfficeDays g a c)
keeps_days_then g a b c (Ok x) first second = λ days has. second days (first days has)
keeps_days_then g a b c (Err e) first second = tt

-- ---- a change that is not made

pub not_made : {S A E : Type 0} {g : Ghosts S} {old new : Held S} {now : ℕ} {change : Change} (result : Result A E) → IsErr result → Looked g old new → MakesChange g old new now change result
not_made result failed looked = record {
  ok = λ records kept sound up fits. on_err _ result failed;
  one = λ clean records columns both. on_err _ result failed;
  days = λ records kept sound fits. on_err _ result failed;
  changed = looked_fails result failed looked;
  idle = λ clean. looked.idle;
}

-- ---- a schedule or an issuer that is not set

module _ {S A E : Type 0} {g : Ghosts S} {old new : Held S} (result : Result A E) (failed : IsErr result) (stays : OnErr result (Stays (state g old) (state g new)))
    (idle : old.in_transaction ≡ false → new.in_transaction ≡ false) where
  unchanged : (Made : Trees → Type 0) → Survives (state g old) (state g new) Made → Changed g old new Made result
  unchanged Made survives = record { live = λ clean. on_err _ result failed; err = λ register. stays; survives = survives }

  pub schedule_not_set : {steps : List (ℕ × ℕ)} → Survives (state g old) (state g new) (IsScheduled g old steps) → SetsSchedule g old new steps result
  schedule_not_set {steps = steps} survives = record {
    ok = λ records kept. on_err _ result failed;
    shown = λ records shows. on_err _ result failed;
    days = λ records shows. on_err _ result failed;
    changed = unchanged (IsScheduled g old steps) survives;
    err = stays;
    idle = idle;
  }

  pub issuer_not_set : {issuer : Issuer} → Survives (state g old) (state g new) (IsIssuerSet g old issuer) → SetsIssuer g old new issuer result
  issuer_not_set {issuer = issuer} survives = record {
    ok = λ records kept key. on_err _ result failed;
    days = λ records kept key. on_err _ result failed;
    changed = unchanged (IsIssuerSet g old issuer) survives;
    err = stays;
    idle = idle;
  }
