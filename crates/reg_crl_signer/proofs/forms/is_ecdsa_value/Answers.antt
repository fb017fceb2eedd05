use Rattle.std.proofs.Common.{arith}
use Rattle.std.proofs.lemmas.Bool.{le-leb, leb-true}
use Rattle.reg_crl_signer.proofs.Pairs.{ecdsa_made, ecdsa_sizes}
use Rattle.reg_crl_signer.proofs.forms.is_ecdsa_value.Goals as goal

pub returns-then-r-octets : goal.returns-then-r-octets
returns-then-r-octets c = (
  λ passes. ecdsa_made c.args.signature.now _ _ c.args.octets c.in-Some.ensures (omega arith) (leb-true _ _ passes),
  λ is. le-leb _ _ (ecdsa_sizes c.args.signature.now _ _ c.args.octets c.in-Some.ensures is).1,
)

pub returns-else-r-octets : goal.returns-else-r-octets
returns-else-r-octets c = (
  λ passes. absurd (omega (arith, leb-true _ _ passes)),
  λ is. le-leb _ _ (ecdsa_sizes c.args.signature.now _ _ c.args.octets c.in-Some.ensures is).0,
)

pub returns-in-None : goal.returns-in-None
returns-in-None c = (λ passes. absurd (cc), λ is. absurd (c.in-None.ensures is.r is.s is.pair))
