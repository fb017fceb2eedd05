use Rattle.reg_store_tables.proofs.PublicLaws.{and_so, by_finding, by_finding_kept, looked_then, not_found}
use Rattle.reg_office.proofs.crls.listed.Goals as goal

pub returns-in_err-issuer-clause-looks : goal.returns-in_err-issuer-clause-looks
returns-in_err-issuer-clause-looks g c = not_found _ c.from_residual.result c.from_residual.ensures.0 c.issuer.ensures.looked

pub returns-in_err-entries-clause-looks : goal.returns-in_err-entries-clause-looks
returns-in_err-entries-clause-looks g c =
    not_found _ c.from_residual-in_err-entries.result c.from_residual-in_err-entries.ensures.0
    (looked_then c.issuer.ensures.looked c.entries.ensures.finds.looked)

pub returns-clause-looks : goal.returns-clause-looks
returns-clause-looks g c = and_so (by_finding c.in_ok-issuer.ensures) (by_finding_kept c.in_ok-entries.ensures.finds)
