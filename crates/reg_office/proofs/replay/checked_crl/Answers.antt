use Rattle.std.proofs.Common.{◌∙◌}
use Rattle.reg_store_tables.proofs.PublicLaws.{and_so, by_none, gives_none, looked_then, so}
use Rattle.reg_office.proofs.BeforeKey.{in_either_form}
use Rattle.reg_office.proofs.replay.checked_crl.Goals as goal

pub returns-in_err-has_digest : goal.returns-in_err-has_digest
returns-in_err-has_digest g c = by_none c.may_have_digest.ensures.looked (λ records next. gives_none _ c.from_residual.result c.from_residual.ensures.0)

pub returns-in_err-issuer : goal.returns-in_err-issuer
returns-in_err-issuer g c =
    by_none (looked_then c.may_have_digest.ensures.looked c.listed.ensures.looks.looked)
    (λ records next. gives_none _ c.from_residual-in_err-issuer.result c.from_residual-in_err-issuer.ensures.0)

pub returns-in-Ok : goal.returns-in-Ok
returns-in-Ok g c =
    so (and_so c.in_ok-has_digest.ensures c.in_ok-issuer.ensures.looks)
    (λ records sound it next none.
    in_either_form g.S.Signer.forms (g.S.Signer.identity c.args.signer.now) records c.args.row.now _ _ _ _ _ it.1.0 next (c.deref.ensures.value ∙ it.1.1) it.0
    (λ digest. c.in-Ok.ensures.digest digest none) (λ signed. c.in-Ok.ensures.signed signed none))

pub returns : goal.returns
returns g c = by_none (looked_then c.may_have_digest.ensures.looked c.listed.ensures.looks.looked) (λ records next. tt)
