use Rattle.std.proofs.Common.{◌≡◌, map}
use Rattle.sqlite.specs.Effect.{Database}
use Rattle.sqlite.specs.Held.{state}
use Rattle.sqlite.specs.State.{HasCleanDisk}
use Rattle.reg_core.specs.Crls.{row_of}
use Rattle.reg_core.specs.Records.{Records}
use Rattle.reg_core.specs.Sound.{SoundRows}
use Rattle.reg_store_tables.specs.Stays.{Moves, Stepped}
use Rattle.reg_store_tables.specs.Steps.{IsUnderWay, KeepsRows}
use Rattle.reg_store_migration.specs.Refilled.{HasRelisted}
use Rattle.reg_store_migration.proofs.derived_listings.rebuild_listed_rows.Given as goal

abbrev pub invariant-loop-revocation : goal.invariant-loop-revocation
invariant-loop-revocation g l =
    let old = state g.S.Store l.initial.tx.conn.now in
    let new = state g.S.Store l.tx.conn.now in
    record {
      stepped : Stepped g.S.Store l.initial.tx l.tx;
      made : HasCleanDisk new → IsUnderWay old
          → Moves old new (λ (db : Database).
          ((records : Records) → SoundRows records → l.revocations ≡ records.revocations → l.crls ≡ map row_of records.crls → HasRelisted old.now records 0 → HasRelisted db records l.revocation-index) × KeepsRows old.now db);
    }
