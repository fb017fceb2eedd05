use Rattle.std.proofs.Common.{arith, rules}
use Rattle.reg_core.proofs.PublicLaws.{integer_is}
use Rattle.reg_der.proofs.Integers.{integer_of_word, integer_is_value}
use Rattle.reg_der.proofs.tlv_writer.put_number.Goals as goal

pub returns-clause-ok : goal.returns-clause-ok
returns-clause-ok c = rw (← integer_of_word c.args.number (omega arith)) (search rules)

pub returns-clause-full : goal.returns-clause-full
returns-clause-full c = rw (← integer_of_word c.args.number (omega arith)) (search rules)

pub returns-clause-value : goal.returns-clause-value
returns-clause-value c = integer_is_value c.args.number (omega arith)

pub returns-clause-integer : goal.returns-clause-integer
returns-clause-integer c = integer_is c.args.number (omega arith)
