-- When a look-up may report that the store failed.
use Rattle.std.specs.Prelude.{◌≡◌, ◌≤◌, ◌⊎◌, ℕ, false, List, length, Option, IsSome, Result, Ok, Err, IfErr}
use Rattle.std.specs.List.{AllByRecursion}
use Rattle.sqlite_disk.specs.Disk.{MoreFaults}
use Rattle.sqlite_value.specs.Order.{Row}
use Rattle.sqlite_trees.specs.declared.store.Store.{Ghosts}
use Rattle.sqlite_resolve.specs.declared.compiled.Compiled.{Compiled}
use Rattle.sqlite_resolve.specs.declared.error.CompileError.{CompileError}
use Rattle.sqlite.specs.declared.error.Error.{Error}
use Rattle.sqlite.specs.Effect.{Database, RefusesToRead}
use Rattle.sqlite.specs.Held.{Held}
use Rattle.sqlite.specs.Listing.{understood}
use Rattle.sqlite.specs.State.{State, HasCleanDisk}
use Rattle.reg_core.specs.Calendar.{IsMoment}
use Rattle.reg_core.specs.Policy.{IsPolicy}
use Rattle.reg_core.specs.Records.{Records}
use Rattle.reg_core.specs.Sound.{SoundRows}
use Rattle.reg_der.specs.Authority.{IsIssuer}
use Rattle.reg_store_tables.specs.Kept.{ShowsKept}
use Rattle.reg_store_tables.specs.ReadStatements.{command_of}
use Rattle.reg_store_tables.specs.Schema.{register_schema}
use Rattle.reg_store_tables.specs.RecordValues.{HasValues}

-- the database failed: its disk failed during the call, or the connection was closed, or the steps of a query were limited
unfoldable pub HasFailed : State → State → Type 0
HasFailed old new = MoreFaults old.faults new.faults ⊎ ((old.is_open ≡ false) ⊎ IsSome old.step_limit)

-- if a call reports this failure, and the disk returned what was written, the database failed
abbrev pub FailsWith : {T E : Type 0} → E → State → State → Result T E → Type 0
FailsWith failure old new result =
    HasCleanDisk new → IfErr result (λ fault. fault ≡ failure → HasFailed old new)

-- the tables show sound records, with a register's values, a valid issuer and policy, and derived tables that match them
pub record ShowsWritten {S : Type 0} (g : Ghosts S) (h : Held S) (records : Records) : Type 0 where
  pub kept : ShowsKept g h records
  pub sound : SoundRows records
  pub values : HasValues records
  pub issuer : IsIssuer records.issuer
  pub policy : IsPolicy records.policy
  pub steps : AllByRecursion (λ step. IsMoment step.0) records.policy.schedule

-- the text is one statement, with as many parameters as `params` has values
abbrev pub IsOneStatement : Result Compiled CompileError → List ℕ → Row → Type 0
IsOneStatement (Ok compiled) text params = (length text ≤ compiled.tail) × (length params ≡ length compiled.names)
IsOneStatement (Err error) text params = ⊥

-- over a register's tables, the text is one statement with as many parameters as these, and fails only by a limit on its steps
pub record FailsOnlyByLimit (text : List ℕ) (params : Row) : Type 0 where
  pub taken : IsOneStatement (understood register_schema text) text params
  pub never : (limit : Option ℕ) (db : Database) (error : Error) → db.schema ≡ register_schema
      → RefusesToRead limit (command_of (understood register_schema text)) db params error → IsSome limit
