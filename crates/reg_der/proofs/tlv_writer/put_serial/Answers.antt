use Rattle.std.proofs.Common.{◌≤◌, length, ap, arith, rules}
use Rattle.reg_core.specs.Integer.{without_zeros, with_clear_bit}
use Rattle.reg_core.proofs.PublicLaws.{integer_is}
use Rattle.reg_der.proofs.Integers.{integer_of_serial, integer_is_value, length-integer_serial}
use Rattle.reg_der.proofs.tlv_writer.put_serial.Goals as goal

pub returns-clause-ok : goal.returns-clause-ok
returns-clause-ok c =
    rw (← integer_of_serial c.bytes20.result c.args.serial c.bytes20.ensures.bytes c.bytes20.ensures.in_range.1) (search rules)

pub returns-clause-full : goal.returns-clause-full
returns-clause-full c =
    rw (← integer_of_serial c.bytes20.result c.args.serial c.bytes20.ensures.bytes c.bytes20.ensures.in_range.1) (search rules)

pub returns-clause-value : goal.returns-clause-value
returns-clause-value c =
    integer_is_value c.args.serial (let below = c.bytes20.ensures.in_range.1 in omega arith)

pub returns-clause-length_at_most : goal.returns-clause-length_at_most
returns-clause-length_at_most c =
    let same = ap length (integer_of_serial c.bytes20.result c.args.serial c.bytes20.ensures.bytes c.bytes20.ensures.in_range.1) in
    let few = length-integer_serial c.args.serial c.bytes20.ensures.in_range.1 in
    let short : length (with_clear_bit (without_zeros c.bytes20.result)) ≤ 20 = omega arith in
    grind arith

pub returns-clause-integer : goal.returns-clause-integer
returns-clause-integer c = integer_is c.args.serial (let below = c.bytes20.ensures.in_range.1 in omega arith)
