use Rattle.std.proofs.Common.{◌≡◌, ap, ◌∙◌, ◌++◌, arith}
use Rattle.reg_core.specs.Integer.{value}
use Rattle.reg_core.specs.Serial.{serial_bytes}
use Rattle.reg_core.proofs.Serials.{halves_bytes, value-serial_bytes}
use Rattle.reg_core.proofs.serial.Serial.bytes20.Goals as goal

-- the two parts that were written
written : (c : goal.After-bytes-3-1) → c.copy_from_slice.new.self ++ c.copy_from_slice-2.new.self ≡ serial_bytes c.args.self
written c =
    halves_bytes c.self.inside.high c.self.inside.low c.args.self c.copy_from_slice.new.self c.copy_from_slice-2.new.self
    (c.copy_from_slice.ensures.after ∙ c.to_be_bytes.ensures) (c.copy_from_slice-2.ensures.after ∙ c.to_be_bytes-2.ensures)
    c.self.invariant.0 c.self.invariant.1 c.self.view_is

pub returns-clause-bytes : goal.returns-clause-bytes
returns-clause-bytes c = written c

pub returns-clause-value : goal.returns-clause-value
returns-clause-value c = ap value (written c) ∙ value-serial_bytes c.args.self (omega (arith, c.self.invariant.0, c.self.invariant.1, c.self.view_is))
