use Rattle.std.proofs.Common.{refl}
use Rattle.reg_store_tables.proofs.PublicLaws.{by_finding, not_found, so}
use Rattle.reg_office_reads.proofs.decision_head.clock_head.Goals as goal

pub returns : goal.returns
returns g c = so (by_finding c.in_ok-last.ensures) (λ records sound it. (refl, it))
