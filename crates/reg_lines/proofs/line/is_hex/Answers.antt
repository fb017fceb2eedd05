use Rattle.std.proofs.Common.{arith}
use Rattle.std.proofs.lemmas.Bool.Decides.{nat_tests}
use Rattle.reg_lines.proofs.Readings.{hex_of-empty, hex_of-odd, hex_of-tested}
use Rattle.reg_lines.proofs.line.is_hex.Goals as goal
use Rattle.reg_lines.proofs.line.is_hex.Goals.{then-is_empty-via-then-is_empty, then-is_empty-via-else-is_empty+then-digits-eq1}

pub returns-then-is_empty : goal.returns-then-is_empty
returns-then-is_empty c =
    elim c.then-is_empty.branch [
      | then-is_empty-via-then-is_empty w ↦ hex_of-empty c.args.digits.now (grind (arith, nat_tests))
      | then-is_empty-via-else-is_empty+then-digits-eq1 w ↦ hex_of-odd c.args.digits.now (omega arith)
    ]

pub returns : goal.returns
returns c = hex_of-tested c.args.digits.now c.all_hex.result (grind (arith, nat_tests)) (omega arith) c.all_hex.ensures
