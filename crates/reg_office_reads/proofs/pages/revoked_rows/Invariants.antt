use Rattle.std.proofs.Common.{◌≡◌, take}
use Rattle.std.specs.Prelude.{filter_map}
use Rattle.reg_core_lists.specs.Lists.{revoked_row}
use Rattle.reg_store_tables.specs.LookUps.{LooksUp}
use Rattle.reg_office_reads.proofs.pages.revoked_rows.Given as goal

abbrev pub invariant-loop-revocation : goal.invariant-loop-revocation
invariant-loop-revocation g l =
    LooksUp g.C.Store l.fn.tables l.tables (λ records. l.rows.items ≡ filter_map (revoked_row records l.now) (take l.revocation-index l.found))
