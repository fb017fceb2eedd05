use Rattle.std.proofs.Common.{arith}
use Rattle.reg_core.proofs.Serials.{bytes_none, bytes_read}
use Rattle.reg_core.proofs.serial.Serial.from_bytes20.Goals as goal

pub returns-then-bytes-eq-BYTES : goal.returns-then-bytes-eq-BYTES
returns-then-bytes-eq-BYTES c =
    bytes_read c.from_big_endian.result c.args.bytes.now (λ k. omega (arith, c.type_inv.bytes k)) c.if-bytes-eq-BYTES.true c.from_big_endian.ensures

pub returns-else-bytes-eq-BYTES : goal.returns-else-bytes-eq-BYTES
returns-else-bytes-eq-BYTES c = bytes_none c.args.bytes.now c.if-bytes-eq-BYTES.false
