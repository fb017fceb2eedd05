use Rattle.std.proofs.Common.{length, ap, sym, ◌∙◌}
use Rattle.reg_crl.specs.Signing.{signed_by}
use Rattle.reg_core_laws.proofs.PublicLaws.{entries_length}
use Rattle.reg_store_tables.specs.Faults.{fault_of}
use Rattle.reg_store_tables.proofs.PublicLaws.{by_none, gives_none, so}
use Rattle.reg_office_reads.specs.Faults.{IsMakingFault}
use Rattle.reg_office_reads.proofs.PublicLaws.{of_failure, passed_on}
use Rattle.reg_office.proofs.Issuing.{making_of_signing, signed_list}
use Rattle.reg_office.proofs.crls.made_crl.Goals as goal

pub returns-in_err-issuer-clause-looks : goal.returns-in_err-issuer-clause-looks
returns-in_err-issuer-clause-looks g c = by_none c.listed.ensures.looks.looked (λ records next. gives_none _ c.from_residual.result c.from_residual.ensures.0)

pub returns-in_err-issuer-clause-faults : goal.returns-in_err-issuer-clause-faults
returns-in_err-issuer-clause-faults g c =
    passed_on IsMakingFault c.from_residual.result (fault_of c.in_err-issuer.field-0.0) c.from_residual.ensures.1 (of_failure IsMakingFault tt tt c.in_err-issuer.field-0.0)

pub returns-in_err-der-clause-looks : goal.returns-in_err-der-clause-looks
returns-in_err-der-clause-looks g c = by_none c.listed.ensures.looks.looked (λ records next. gives_none _ c.from_residual-in_err-der.result c.from_residual-in_err-der.ensures.0)

pub returns-in_err-der-clause-faults : goal.returns-in_err-der-clause-faults
returns-in_err-der-clause-faults g c =
    passed_on IsMakingFault c.from_residual-in_err-der.result c.in_err-der.field-0.0 c.from_residual-in_err-der.ensures.1
    (making_of_signing c.in_err-der.field-0.0 c.in_err-der.ensures.faults)

pub returns-clause-looks : goal.returns-clause-looks
returns-clause-looks g c =
    so c.in_ok-issuer.ensures.looks
    (λ records sound it next.
    let entries_is = c.deref.ensures.value ∙ it.1 in (
      signed_list (signed_by g.S.Signer.signs (g.S.Signer.identity c.args.signer.now)) records c.args.row.now _ _ _ _ it.0 next entries_is c.in_ok-der.ensures.signed,
      c.len-count.ensures ∙ (sym c.deref.ensures.len ∙ (ap length entries_is ∙ entries_length records c.args.row.now.number)),
    ))
