use Rattle.std.proofs.Common.{◌≡◌, ◌∙◌}
use Rattle.reg_core.specs.Serial.{serial_text}
use Rattle.reg_core.proofs.Serials.{encoded_text, serial_text-is}
use Rattle.reg_core.proofs.serial.Serial.text.Goals as goal

-- the digits that were written
written : (c : goal.After-text-2-1) → c.encode_to_slice.new.output ≡ serial_text c.args.self
written c =
    encoded_text c.encode_to_slice.result c.encode_to_slice.new.output c.as_slice.result.now c.args.self (c.as_slice.ensures ∙ c.bytes20.ensures.bytes)
    c.encode_to_slice.ensures.fits c.encode_to_slice.ensures.written

pub returns-clause-text : goal.returns-clause-text
returns-clause-text c = written c

pub returns-clause-reads_back : goal.returns-clause-reads_back
returns-clause-reads_back c = rw (written c) (serial_text-is c.args.self c.bytes20.ensures.in_range)
