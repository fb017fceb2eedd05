use Rattle.std.proofs.Common.{◌≡◌, ℕ, ◌<◌, arith, sym, ap, ◌∙◌, Ok, Err, Result, unsigned_abs, ℤ, pos, negsuc, ◌*ℤ◌, ◌<ℤ◌}
use Rattle.std.specs.Prelude.{MatchOption}
use Rattle.std.specs.Result.{OkIff, result_ok}
use Rattle.std.specs.Int.{FitsUnsignedBits}
use Rattle.jiff_core.specs.Date.{epoch_day}
use Rattle.jiff_core.specs.Calendar.{IsEpochDay}
use Rattle.jiff_core.proofs.DateLemmas.{epoch_day_range}
use Rattle.jiff_core.proofs.SignedLemmas.{signed_arith}
use Rattle.reg_core.proofs.Dates.{epoch_is}
use Rattle.reg_core.proofs.calendar.days_since_epoch.Goals as goal

unsigned_is : {E : Type 0} (r : Result ℕ E) (z e : ℤ) → z ≡ e → IsEpochDay e → OkIff r (FitsUnsignedBits 64 z) (unsigned_abs z) → MatchOption (result_ok r) (e <ℤ pos 0) (λ n. (n < 2932897) × (e ≡ pos n))
unsigned_is (Ok n) (pos a) e same in_range h =
    let is : e ≡ pos n = sym same ∙ ap pos (sym h.1) in
    (omega (arith, signed_arith), is)
unsigned_is (Ok n) (negsuc a) e same in_range h = absurd h.0
unsigned_is (Err x) (pos a) e same in_range h = absurd (h (omega (arith, signed_arith)))
unsigned_is (Err x) (negsuc a) e same in_range h = omega (arith, signed_arith)

pub returns : goal.returns
returns c =
    let e = epoch_day c.args.day in
    let zero = epoch_is c.date.result c.date.ensures in
    let range = epoch_day_range c.args.day in
    let hours : c.as_hours.result ≡ e *ℤ pos 24 = omega (arith, signed_arith, c.duration_since.ensures, c.as_hours.ensures) in
    rw c.ok.ensures.value (unsigned_is c.try_from.result _ e (omega (arith, signed_arith)) range c.try_from.ensures)
