use Rattle.std.proofs.Common.{◌≡◌, take}
use Rattle.std.specs.Prelude.{filter_map}
use Rattle.reg_office_reads.specs.ListById.{certificate_listed}
use Rattle.reg_store_tables.specs.LookUps.{LooksUp}
use Rattle.reg_office_reads.proofs.pages.certificate_rows.Given as goal

abbrev pub invariant-loop-certificate : goal.invariant-loop-certificate
invariant-loop-certificate g l =
    LooksUp g.C.Store l.fn.tables l.tables (λ records. l.rows.items ≡ filter_map (certificate_listed records l.now l.before) (take l.certificate-index l.found))
