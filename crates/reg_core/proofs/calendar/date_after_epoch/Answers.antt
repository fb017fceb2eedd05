use Rattle.std.proofs.Common.{◌≡◌, ◌+ℤ◌, arith, ◌∙◌, pos, to_z, w64}
use Rattle.std.proofs.lemmas.Int.{ints}
use Rattle.jiff_core.specs.Date.{epoch_day}
use Rattle.jiff_core.specs.Calendar.{IsEpochDay}
use Rattle.jiff.proofs.SpanFacts.{signed_arith, date_add-days, can_add-days}
use Rattle.reg_core.proofs.Dates.{epoch_is}
use Rattle.reg_core.proofs.calendar.date_after_epoch.Goals as goal

pub unreachable-requires : goal.unreachable-requires
unreachable-requires c =
    let zero = epoch_is c.date.result c.date.ensures in
    let same : to_z w64 c.args.days ≡ pos c.args.days = omega (arith, ints) in
    let day : IsEpochDay (epoch_day c.date.result +ℤ to_z w64 c.args.days) = omega (arith, signed_arith) in
    let ok = c.in-Err.ensures.succeeds.1 ((can_add-days c.date.result (to_z w64 c.args.days) c.days.result c.days.ensures).1 day) in
    cc

pub returns : goal.returns
returns c =
    let zero = epoch_is c.date.result c.date.ensures in
    let same : to_z w64 c.args.days ≡ pos c.args.days = omega (arith, ints) in
    let after : epoch_day c.in-Ok.date ≡ epoch_day c.date.result +ℤ to_z w64 c.args.days = c.in-Ok.ensures.value ∙ date_add-days c.date.result (to_z w64 c.args.days) c.days.result c.days.ensures in
    omega (arith, signed_arith, after, zero)
