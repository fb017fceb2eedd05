use Rattle.std.proofs.Common.{inl, inr, refl, sym, subst}
use Rattle.reg_core.specs.Issuer.{Issuer}
use Rattle.reg_ocsp.specs.Matching.{IsMatch}
use Rattle.reg_ocsp.specs.Views.{id_model}
use Rattle.reg_store_tables.proofs.PublicLaws.{by_none, gives_none, looked_none, so}
use Rattle.reg_office_reads.proofs.statuses.status_for_id.Goals as goal

pub returns-in_err-status_at-in-Some-clause-looks : goal.returns-in_err-status_at-in-Some-clause-looks
returns-in_err-status_at-in-Some-clause-looks g c = by_none c.status_at.ensures.looked (λ records issuer. gives_none _ c.from_residual.result c.from_residual.ensures.0)

pub returns-in_ok-status_at-in-Some-clause-looks : goal.returns-in_ok-status_at-in-Some-clause-looks
returns-in_ok-status_at-in-Some-clause-looks g c =
    so c.in_ok-status_at-in-Some.ensures
    (λ records sound it issuer. inl (c.in-Some.serial, subst (λ (i : Issuer). IsMatch i (id_model c.args.id.now) c.in-Some.serial) issuer c.in-Some.ensures.found, it))

pub returns-in-None-clause-looks : goal.returns-in-None-clause-looks
returns-in-None-clause-looks g c =
    by_none looked_none
    (λ records issuer. inr ((λ serial match. c.in-None.ensures.none serial (subst (λ (i : Issuer). IsMatch i (id_model c.args.id.now) serial) (sym issuer) match)), refl))
