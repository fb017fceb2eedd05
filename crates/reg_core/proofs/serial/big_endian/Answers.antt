use Rattle.std.proofs.Common.{◌+◌, ◌*◌, ◌<◌, ◌^◌, get_or, arith}
use Rattle.reg_core.proofs.Integers.{ReadsByte, reads_byte}
use Rattle.reg_core.proofs.serial.big_endian.Goals as goal

pub overflow_mul-number : goal.overflow_mul-number
overflow_mul-number c =
    let bytes = c.args.bytes.now in
    let read = reads_byte bytes c.loop-byte.byte-index c.loop-byte.number (λ k. omega (arith, c.type_inv.bytes k)) c.requires c.loop-byte-test.true c.loop-byte.invariant in
    let fits : c.loop-byte.number * 256 + get_or bytes c.loop-byte.byte-index 0 < 2 ^ 128 = read.fits in
    omega arith

-- the number with the byte that was read
further : (c : goal.After-from) → ReadsByte c.args.bytes.now c.loop-byte.byte-index (c.loop-byte.number * 256 + get_or c.args.bytes.now c.loop-byte.byte-index 0)
further c =
    reads_byte c.args.bytes.now c.loop-byte.byte-index c.loop-byte.number (λ k. omega (arith, c.type_inv.bytes k)) c.requires c.loop-byte-test.true c.loop-byte.invariant

pub overflow_add-number : goal.overflow_add-number
overflow_add-number c = let fits = (further c).fits in rw c.from.ensures (omega arith)

pub loop-byte-preserved : goal.loop-byte-preserved
loop-byte-preserved c = rw c.from.ensures (further c).value
