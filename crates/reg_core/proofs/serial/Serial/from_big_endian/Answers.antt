use Rattle.std.proofs.Common.{◌≡◌, ◌+◌, ◌*◌, ◌^◌, ◌≤◌, length, ap, ◌∙◌, arith}
use Rattle.reg_core.specs.Integer.{value}
use Rattle.reg_core.specs.Serial.{IsSerial}
use Rattle.reg_core.proofs.Integers.{value-split}
use Rattle.reg_core.proofs.Serials.{some_iff}
use Rattle.reg_core.proofs.serial.Serial.from_big_endian.Goals as goal

pub returns : goal.returns
returns c =
    let bytes = c.args.bytes.now in
    let high = c.big_endian.ensures ∙ ap value c.split_at.ensures.front in
    let low = c.big_endian-2.ensures ∙ ap value c.split_at.ensures.back in
    let whole : c.big_endian.result * 2 ^ 128 + c.big_endian-2.result ≡ value bytes = omega (arith, value-split 16 c.saturating_sub.result bytes c.saturating_sub.ensures) in
    let short : length bytes ≤ 20 = c.if-bytes-gt-BYTES.false in
    some_iff c.of_halves.result (IsSerial (c.big_endian.result * 2 ^ 128 + c.big_endian-2.result)) ((length bytes ≤ 20) × IsSerial (value bytes))
    (c.big_endian.result * 2 ^ 128 + c.big_endian-2.result) (value bytes) c.of_halves.ensures (λ range. (short, rw whole at range)) (λ h. rw whole h.1) whole
