use Rattle.reg_store_tables.proofs.PublicLaws.{and_so, by_finding, ok_then, so}
use Rattle.reg_office.proofs.follow.digest_now.Goals as goal

pub returns : goal.returns
returns g c = so (and_so (by_finding c.in_ok-issuer.ensures) c.digest_at.ensures) (λ records sound it. ok_then c.digest_at.result it.1 (λ digest holds. holds it.0))
