-- A database that can't be opened.
use Rattle.std.proofs.Common.{◌≡◌, ◌≢◌, Option, Result, Ok, Err, IfErr, IsErrAnd, inl, inr}
use Rattle.sqlite_trees.specs.declared.store.Store.{Ghosts}
use Rattle.sqlite.specs.Held.{Held, state}
use Rattle.sqlite.specs.State.{HasCleanDisk, Survives}
use Rattle.reg_core.specs.Records.{Records}
use Rattle.reg_store_migration.specs.declared.version.OlderVersion.{OlderVersion}
use Rattle.reg_store_tables.specs.Stays.{IsDatabaseFault, LeavesNothing, Stays}
use Rattle.reg_store_tables.specs.declared.fault.StoreFault.{StoreFault}
use Rattle.reg_store_tables.specs.declared.fault.StoreFault.TheVariants.{NewVersion, NotARegister, NotEmpty}
use Rattle.reg_store_opening.specs.AfterStoppedOpening.{IsOpened}
use Rattle.reg_store_opening.specs.Opens.{IsFailedOpen}
use Rattle.reg_store_opening.specs.VersionAndOffice.{InRange, IsNewer, IsNoRegister, ShowsAs}
use Rattle.reg_store_opening.proofs.NoRegister.{no_register}
use Rattle.reg_store_tables.proofs.PublicLaws.{leaves_less}

never_newer : (fault : StoreFault) → IsDatabaseFault fault → fault ≡ NewVersion → ⊥
never_newer fault (inl is) e = cc
never_newer fault (inr is) e = cc

never_none : (fault : StoreFault) → IsDatabaseFault fault → fault ≡ NotARegister → ⊥
never_none fault (inl is) e = cc
never_none fault (inr is) e = cc

pub never_empty : (fault : StoreFault) → IsDatabaseFault fault → fault ≡ NotEmpty → ⊥
never_empty fault (inl is) e = cc
never_empty fault (inr is) e = cc

-- what holds of the fault that a call was given holds of the one that it gives on
pub err_as : {T E : Type 0} (P Q : E → Type 0) (r : Result T E) → IsErrAnd r Q → ((e : E) → Q e → P e) → IfErr r P
err_as P Q (Ok x) is leads = tt
err_as P Q (Err e) is leads = leads e is

-- memory or the database has failed
pub fails_to_open : {S : Type 0} (g : Ghosts S) (old new : Held S) (fault : StoreFault) → IsDatabaseFault fault → Stays (state g old) (state g new)
    → Survives (state g old) (state g new) (IsOpened g old) → IsFailedOpen g old new fault
fails_to_open g old new fault is stays survives = record {
  same = stays;
  shown = λ version records within shows clean. is;
  newer = λ clean e. absurd (never_newer fault is e);
  none = λ clean e. absurd (never_none fault is e);
  alone = λ clean e. absurd (never_none fault is e);
  never_empty = never_empty fault is;
  survives = survives;
}

-- what was found there is refused, and nothing has changed
pub refuses : {S : Type 0} (g : Ghosts S) (old new : Held S) (fault : StoreFault) → Stays (state g old) (state g new) → LeavesNothing (state g old) (state g new)
    → ((version : Option OlderVersion) (records : Records) → InRange records → ShowsAs version g old records → HasCleanDisk (state g new) → IsDatabaseFault fault)
    → (HasCleanDisk (state g new) → fault ≡ NewVersion → IsNewer (state g old).now) → (HasCleanDisk (state g new) → fault ≡ NotARegister → IsNoRegister (state g old).now)
    → fault ≢ NotEmpty → IsFailedOpen g old new fault
refuses g old new fault stays leaves shown newer none filled = record {
  same = stays;
  shown = shown;
  newer = newer;
  none = none;
  alone = λ clean is unviewed. no_register (state g old).now unviewed (none clean is);
  never_empty = filled;
  survives = leaves_less (state g old) (state g new) (IsOpened g old) leaves;
}
