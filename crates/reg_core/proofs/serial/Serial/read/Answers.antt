use Rattle.std.proofs.Common.{ℕ, sym, arith, rules}
use Rattle.std.specs.Prelude.{MatchOption}
use Rattle.reg_core.specs.Serial.{IsSerialText}
use Rattle.reg_core.proofs.Serials.{halves_read, no_back, no_front, serial_of-none, serial_of-read}
use Rattle.reg_core.proofs.serial.Serial.read.Goals as goal

pub returns-then-is_empty-clause-exact : goal.returns-then-is_empty-clause-exact
returns-then-is_empty-clause-exact c = sym (serial_of-none c.args.text.now (search rules))

-- a byte before the last 32 that is no digit
front_none : (c : goal.After-from_residual) → (n : ℕ) → ¬ IsSerialText c.args.text.now n
front_none c = no_front c.saturating_sub.result c.args.text.now (rw (← c.split_at.ensures.front) c.in_err-read_digits.ensures)

pub returns-in_err-read_digits-clause-read : goal.returns-in_err-read_digits-clause-read
returns-in_err-read_digits-clause-read c = rw c.from_residual.ensures (front_none c)

pub returns-in_err-read_digits-clause-exact : goal.returns-in_err-read_digits-clause-exact
returns-in_err-read_digits-clause-exact c = rw c.from_residual.ensures (sym (serial_of-none c.args.text.now (front_none c)))

-- one among the last 32
back_none : (c : goal.After-from_residual-in_err-read_digits-2) → (n : ℕ) → ¬ IsSerialText c.args.text.now n
back_none c = no_back c.saturating_sub.result c.args.text.now (rw (← c.split_at.ensures.back) c.in_err-read_digits-2.ensures)

pub returns-in_err-read_digits-2-clause-read : goal.returns-in_err-read_digits-2-clause-read
returns-in_err-read_digits-2-clause-read c = rw c.from_residual-in_err-read_digits-2.ensures (back_none c)

pub returns-in_err-read_digits-2-clause-exact : goal.returns-in_err-read_digits-2-clause-exact
returns-in_err-read_digits-2-clause-exact c = rw c.from_residual-in_err-read_digits-2.ensures (sym (serial_of-none c.args.text.now (back_none c)))

-- two parts of digits
both_read : (c : goal.After-of_halves) → MatchOption c.of_halves.result ((n : ℕ) → ¬ IsSerialText c.args.text.now n) (IsSerialText c.args.text.now)
both_read c =
    halves_read c.of_halves.result c.saturating_sub.result c.in_ok-read_digits.field-0 c.in_ok-read_digits-2.field-0 c.args.text.now (search rules) (omega arith) c.saturating_sub.ensures
    (rw c.split_at.ensures.front at c.in_ok-read_digits.ensures) (rw c.split_at.ensures.back at c.in_ok-read_digits-2.ensures) c.of_halves.ensures

pub returns-clause-read : goal.returns-clause-read
returns-clause-read c = both_read c

pub returns-clause-exact : goal.returns-clause-exact
returns-clause-exact c = serial_of-read c.of_halves.result c.args.text.now (both_read c)
