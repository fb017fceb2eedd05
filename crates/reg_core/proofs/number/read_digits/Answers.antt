use Rattle.std.proofs.Common.{◌+◌, ◌*◌, ◌^◌, ◌<◌, ◌≤◌, get_or, ap, ◌∙◌, arith}
use Rattle.std.specs.Char.{digit_value}
use Rattle.std.specs.Str.Parse.{AllDigits}
use Rattle.reg_core.proofs.Digits.{ReadsOn, not_digits, reads_on}
use Rattle.reg_core.proofs.number.read_digits.Goals as goal

pub returns-in_err-digit : goal.returns-in_err-digit
returns-in_err-digit c =
    let digits = c.args.digits.now in
    let bad : digit_value (get_or digits c.loop-byte.byte-index 0) < c.args.base → ⊥ = rw (← c.from.ensures) c.in_err-digit.ensures.value in
    let large : c.args.base ≤ digit_value (get_or digits c.loop-byte.byte-index 0) = omega arith in
    let no : AllDigits c.args.base digits → ⊥ = not_digits c.args.base digits c.loop-byte.byte-index c.loop-byte-test.true large in
    rw c.from_residual.ensures no

-- the number with the digit that was read
further : (c : goal.After-from-in-loop-byte-2)
    → ReadsOn c.args.base c.args.digits.now c.loop-byte.byte-index (c.loop-byte.number * c.args.base + c.in_ok-digit.digit)
further c =
    reads_on c.args.base c.args.digits.now c.loop-byte.byte-index c.loop-byte.number c.in_ok-digit.digit c.requires.base.1 c.requires.short
    c.loop-byte-test.true c.loop-byte.invariant.digits c.loop-byte.invariant.value (c.in_ok-digit.ensures.value.1 ∙ ap digit_value c.from.ensures)
    (omega (arith, c.in_ok-digit.ensures.value.0, c.in_ok-digit.ensures.value.1))

pub overflow_mul-number : goal.overflow_mul-number
overflow_mul-number c =
    let read =
    reads_on c.args.base c.args.digits.now c.loop-byte.byte-index c.loop-byte.number c.in_ok-digit.digit c.requires.base.1 c.requires.short
    c.loop-byte-test.true c.loop-byte.invariant.digits c.loop-byte.invariant.value (c.in_ok-digit.ensures.value.1 ∙ ap digit_value c.from.ensures)
    (omega (arith, c.in_ok-digit.ensures.value.0, c.in_ok-digit.ensures.value.1)) in
    let fits : c.loop-byte.number * c.args.base + c.in_ok-digit.digit < 2 ^ 128 = read.fits in
    rw c.from-in-loop-byte.ensures (omega arith)

pub overflow_add-number : goal.overflow_add-number
overflow_add-number c = let fits = (further c).fits in rw (c.from-in-loop-byte.ensures, c.from-in-loop-byte-2.ensures) (omega arith)

pub loop-byte-preserved : goal.loop-byte-preserved
loop-byte-preserved c =
    let read = further c in
    rw (c.from-in-loop-byte.ensures, c.from-in-loop-byte-2.ensures) (record { digits = read.digits; value = read.value })
