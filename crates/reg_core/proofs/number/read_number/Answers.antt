use Rattle.std.proofs.Common.{sym, arith, rules}
use Rattle.reg_core.specs.Number.{IsNumberText}
use Rattle.reg_core.proofs.Numbers.{number-lt, number_of-none, number_of-some}
use Rattle.reg_core.proofs.number.read_number.Goals as goal

pub returns-then-is_empty-clause-exact : goal.returns-then-is_empty-clause-exact
returns-then-is_empty-clause-exact c = sym (number_of-none c.args.text.now (search rules))

pub returns-in_err-read_digits-clause-exact : goal.returns-in_err-read_digits-clause-exact
returns-in_err-read_digits-clause-exact c =
    let bad = c.in_err-read_digits.ensures in
    rw c.from_residual.ensures (sym (number_of-none c.args.text.now (λ n is. bad is.digits)))

-- what was read
is_text : (c : goal.In_ok-read_digits) → IsNumberText c.args.text.now c.in_ok-read_digits.field-0
is_text c =
    let good = c.in_ok-read_digits.ensures in
    record { not_empty = search rules; short = omega arith; digits = good.0; spelled = sym good.1 }

pub overflow_cast-result : goal.overflow_cast-result
overflow_cast-result c = omega (arith, number-lt _ _ (is_text c))

pub returns-clause-exact : goal.returns-clause-exact
returns-clause-exact c = sym (number_of-some _ _ (is_text c))

pub returns-clause-in_range : goal.returns-clause-in_range
returns-clause-in_range c = number-lt _ _ (is_text c)
