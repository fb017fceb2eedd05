use Rattle.std.proofs.Common.{sym, subst, ◌∙◌}
use Rattle.reg_crl_signer.specs.Forms.{HasSignatureForm}
use Rattle.reg_crl_signer.specs.declared.algorithm.Algorithm.{Algorithm}
use Rattle.reg_crl_signer.proofs.Identifiers.{one_algorithm}
use Rattle.reg_crl_signer.proofs.forms.has_form.Goals as goal

pub returns-in-Some : goal.returns-in-Some
returns-in-Some c = (
  λ passes. record { algorithm = c.in-Some.algorithm; named = sym c.in-Some.ensures; form = c.is_signature.ensures.0 passes },
  λ is.
      c.is_signature.ensures.1
      (subst (λ (a : Algorithm). HasSignatureForm a c.args.key.now c.args.signature.now)
      (one_algorithm is.algorithm c.in-Some.algorithm (sym is.named ∙ sym c.in-Some.ensures)) is.form),
)

pub returns-in-None : goal.returns-in-None
returns-in-None c = (λ passes. absurd (cc), λ is. absurd (c.in-None.ensures is.algorithm (sym is.named)))
