use Rattle.std.proofs.Common.{arith}
use Rattle.reg_crl_signer.proofs.Sizes.{zero_leads, digit_leads}
use Rattle.reg_crl_signer.proofs.numbers.octets_of.Goals as goal

pub returns-in-len2-up : goal.returns-in-len2-up
returns-in-len2-up c =
    let made = zero_leads c.args.contents.now (λ k. omega (arith, c.type_inv.contents k)) (omega arith) (omega arith) (omega arith) in
    (made.number, made.some, made.spells, made.octets)

pub returns-in-len1-up : goal.returns-in-len1-up
returns-in-len1-up c =
    let made = digit_leads c.args.contents.now (λ k. omega (arith, c.type_inv.contents k)) (omega arith) (omega arith) in
    (made.number, made.some, made.spells, made.octets)
