use Rattle.std.proofs.Common.{subst}
use Rattle.std.proofs.lemmas.Bool.{eq-eqb, eqb-true}
use Rattle.reg_crl_signer.specs.Forms.{IsRsaKey}
use Rattle.reg_crl_signer.proofs.Pairs.{rsa_made, rsa_size}
use Rattle.reg_crl_signer.proofs.forms.has_modulus_of.Goals as goal

pub returns-in-Some : goal.returns-in-Some
returns-in-Some c = (
  λ passes. subst (IsRsaKey c.args.key.now) (eqb-true _ _ passes) (rsa_made c.args.key.now _ _ c.in-Some.ensures),
  λ is. eq-eqb _ _ (rsa_size c.args.key.now _ _ c.args.octets c.in-Some.ensures is),
)

pub returns-in-None : goal.returns-in-None
returns-in-None c = (λ passes. absurd (cc), λ is. absurd (c.in-None.ensures is.modulus is.exponent is.pair))
