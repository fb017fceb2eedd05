use Rattle.reg_crl_signer.proofs.Pairs.{not_integer, not_positive}
use Rattle.reg_crl_signer.proofs.numbers.take_positive.Goals as goal

pub returns-in_err-value : goal.returns-in_err-value
returns-in_err-value c =
    rw c.from_residual.ensures (λ raw rest number is parts. c.in_err-value.ensures.none raw rest is.octets 2 is.integer parts)

pub returns-then-value-ne-INTEGER : goal.returns-then-value-ne-INTEGER
returns-then-value-ne-INTEGER c =
    let found = c.in_ok-value.ensures.found in
    not_integer c.args.bytes.now _ _ _ _ found.0 found.1 (λ same. c.if-value-ne-INTEGER.true same)

pub returns-in_err-octets_of : goal.returns-in_err-octets_of
returns-in_err-octets_of c =
    let found = c.in_ok-value.ensures.found in
    rw c.from_residual-in_err-octets_of.ensures (not_positive c.args.bytes.now _ _ _ _ found.0 found.1 c.in_err-octets_of.ensures)
