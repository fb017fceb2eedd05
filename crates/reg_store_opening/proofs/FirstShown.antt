-- A register that is created shows no records.
use Rattle.std.proofs.Common.{◌≡◌, Result, Ok, inr}
use Rattle.sqlite_trees.specs.declared.store.Store.{Ghosts}
use Rattle.sqlite.specs.Held.{Held, state}
use Rattle.sqlite.specs.State.{HasCleanDisk, Survives}
use Rattle.reg_core.specs.Issuer.{Issuer}
use Rattle.reg_core.specs.Policy.{Terms}
use Rattle.reg_core.specs.Records.{no_records}
use Rattle.reg_store_tables.specs.Schema.{no_schema}
use Rattle.reg_store_tables.specs.Shows.{AreRecordsAndDerived}
use Rattle.reg_store_tables.specs.Stays.{IsDatabaseFault, Stays}
use Rattle.reg_store_tables.specs.declared.fault.StoreFault.{StoreFault}
use Rattle.reg_store_migration.specs.Refilled.{no_derived_rows}
use Rattle.reg_store_tables.specs.Commits.{Commits}
use Rattle.reg_store_tables.proofs.PublicLaws.{left, at_rest}
use Rattle.reg_store_opening.specs.AfterStoppedOpening.{IsCreated}
use Rattle.reg_store_opening.specs.Blank.{CreatesRegister, IsBlank}
use Rattle.reg_store_opening.specs.Opens.{Creates, IsFailedCreate}
use Rattle.reg_store_opening.proofs.FirstRows.{none_kept}
use Rattle.reg_store_opening.proofs.Unopened.{never_empty}

module _ {S E : Type 0} {g : Ghosts S} {old new : Held S} {issuer : Issuer} {policy : Terms} {r : Result (Unit {0}) E} (done : Commits g old new r (CreatesRegister no_schema issuer policy)) (none : old.schema ≡ no_schema) where
  -- there is no table, and so none with a row
  blank : IsBlank no_schema (state g old).now
  blank = record { schema = none; rows = tt }

  survives : Survives (state g old) (state g new) (IsCreated old issuer policy)
  survives = left done (IsCreated old issuer policy) (λ clean up after trees is founds.
      let made = founds blank in
      (none, at_rest after trees (no_records issuer policy) (no_derived_rows policy.schedule) is made.0 made.1 (none_kept issuer policy)))

  -- memory or the database has failed, and the tables are as they were
  pub uncreates : (fault : StoreFault) → IsDatabaseFault fault → Stays (state g old) (state g new) → IsFailedCreate g old new issuer policy fault
  uncreates fault is stays = record {
    same = stays;
    not_empty = (λ filled. absurd (never_empty fault is filled), λ filled. absurd (filled none));
    faults = inr is;
    survives = survives;
  }

pub creates : {S E : Type 0} {g : Ghosts S} {old new : Held S} {issuer : Issuer} {policy : Terms} → Commits {E = E} g old new (Ok (tt {0})) (CreatesRegister no_schema issuer policy) → old.schema ≡ no_schema → Creates g old new issuer policy
creates {g = g} {old = old} {new = new} {issuer = issuer} {policy = policy} done none =
    let both : HasCleanDisk (state g new) → AreRecordsAndDerived (state g new).now (no_records issuer policy) (no_derived_rows policy.schedule) = λ clean. ((done.made clean).led (blank done none)).0 in
    record {
      kept = (no_derived_rows policy.schedule, record { saved = λ clean up. (done.made clean).saved; tables = λ clean up. both clean }, none_kept issuer policy);
      days = record { saved = λ clean up. (done.made clean).saved; tables = λ clean up. (both clean).kept.days };
      empty = none;
      survives = survives done none;
    }
