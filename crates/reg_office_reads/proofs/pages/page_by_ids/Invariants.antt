use Rattle.std.proofs.Common.{◌≡◌, ◌≤◌, ◌+◌, ◌-◌}
use Rattle.std.specs.Prelude.{filter_map}
use Rattle.reg_core.proofs.PublicLaws.{numbers}
use Rattle.reg_store_tables.specs.LookUps.{LooksUp}
use Rattle.reg_office_reads.specs.ListById.{row_at}
use Rattle.reg_office_reads.proofs.pages.page_by_ids.Given as goal

abbrev pub invariant-loop-before : goal.invariant-loop-before
invariant-loop-before g l = record {
  stays : l.end ≤ l.after → l.before ≡ l.after;
  looks : LooksUp g.C.Store l.initial.tables l.tables (λ records. l.rows.items ≡ filter_map (row_at records l.now l.list) (numbers (l.after + 1) (l.before - l.after)));
}
