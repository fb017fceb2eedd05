use Rattle.std.proofs.Common.{ℕ, arith, rules}
use Rattle.std.specs.Prelude.{MatchOption}
use Rattle.reg_core.specs.Integer.{IsInteger, IsShortest}
use Rattle.reg_core.specs.Serial.{IsSerial}
use Rattle.reg_core.proofs.Serials.{integer_read, octets_none, octets_read}
use Rattle.reg_core.proofs.serial.Serial.from_der.Goals as goal

-- the octets of a number that is not negative
read : (c : goal.After-from_big_endian)
    → MatchOption c.from_big_endian.result ((n : ℕ) → IsSerial n → ¬ IsInteger c.args.octets.now n) (λ n. IsSerial n × IsInteger c.args.octets.now n)
read c =
    let shortest : IsShortest c.args.octets.now = search rules in
    integer_read c.from_big_endian.result c.args.octets.now (λ k. omega (arith, c.type_inv.octets k)) shortest c.if-first-lt128.true c.from_big_endian.ensures

pub returns-in-len1-up-clause-read : goal.returns-in-len1-up-clause-read
returns-in-len1-up-clause-read c = read c

pub returns-in-len1-up-clause-exact : goal.returns-in-len1-up-clause-exact
returns-in-len1-up-clause-exact c = octets_read c.from_big_endian.result c.args.octets.now (read c)

pub returns-in_default-clause-exact : goal.returns-in_default-clause-exact
returns-in_default-clause-exact c = octets_none c.args.octets.now (search rules)
