use Rattle.std.proofs.Common.{◌≡◌, take}
use Rattle.reg_ocsp.specs.Views.{answered}
use Rattle.reg_store_tables.specs.LookUps.{LooksUp}
use Rattle.reg_office_reads.proofs.Responding.{AreStatuses}
use Rattle.reg_office_reads.proofs.statuses.answers.Given as goal

abbrev pub invariant-loop-id : goal.invariant-loop-id
invariant-loop-id g l = record {
  ids : answered l.answers.items ≡ take l.id-index l.ids;
  looks : LooksUp g.C.Store l.initial.tables l.tables (λ records. l.issuer ≡ records.issuer → AreStatuses records l.now l.answers.items);
}
