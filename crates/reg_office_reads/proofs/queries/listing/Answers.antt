use Rattle.std.proofs.Common.{refl, sym, subst, Option, ◌∙◌}
use Rattle.std.specs.Option.{IsSome}
use Rattle.reg_core.specs.declared.rows.CertRow.{CertRow}
use Rattle.reg_store_tables.proofs.PublicLaws.{and_so, by_finding, by_finding_kept, looked_then, so}
use Rattle.reg_office_reads.proofs.QueryLemmas.{unknown_serial}
use Rattle.reg_office_reads.proofs.Looking.{decided_against, decided_for, not_decided}
use Rattle.reg_office_reads.proofs.queries.listing.Goals as goal

pub returns-in_err-cert : goal.returns-in_err-cert
returns-in_err-cert g c = not_decided c.from_residual.result c.in_err-cert.field-0.0 c.from_residual.ensures.1 c.cert.ensures.looked

pub returns-in-None : goal.returns-in-None
returns-in-None g c =
    decided_against _ _ refl
    (so (by_finding c.in_ok-cert.ensures) (λ records sound it. unknown_serial records c.args.serial (sym it ∙ c.in-None.is)))

pub returns-in_err-listing-in-Some : goal.returns-in_err-listing-in-Some
returns-in_err-listing-in-Some g c =
    not_decided c.from_residual-in_err-listing-in-Some.result c.in_err-listing-in-Some.field-0.0 c.from_residual-in_err-listing-in-Some.ensures.1 (looked_then c.cert.ensures.looked c.listing.ensures.looked)

pub returns-in_ok-listing-in-Some : goal.returns-in_ok-listing-in-Some
returns-in_ok-listing-in-Some g c =
    decided_for _
    (so (and_so (by_finding c.in_ok-cert.ensures) (by_finding_kept c.in_ok-listing-in-Some.ensures))
    (λ records sound it. (subst (λ (o : Option CertRow). IsSome o) (sym c.in-Some.is ∙ it.0) refl, it.1)))
