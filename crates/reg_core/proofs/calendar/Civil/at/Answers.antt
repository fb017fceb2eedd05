use Rattle.std.proofs.Common.{arith, refl, sym, subst}
use Rattle.jiff_core.proofs.SignedLemmas.{signed_arith}
use Rattle.reg_core.specs.Calendar.{IsCivilAt, IsCivil}
use Rattle.reg_core.proofs.Dates.{ranges, shown, date_shown, parts_shown}
use Rattle.reg_core.proofs.calendar.Civil.at.Goals as goal

pub overflow_cast-result : goal.overflow_cast-result
overflow_cast-result c =
    let d = date_shown c.args.seconds c.date_after_epoch-date.result c.requires c.date_after_epoch-date.ensures in
    let r = ranges c.args.seconds c.requires in
    omega (arith, signed_arith)

pub returns-clause-exact : goal.returns-clause-exact
returns-clause-exact c =
    let d = date_shown c.args.seconds c.date_after_epoch-date.result c.requires c.date_after_epoch-date.ensures in
    let r = ranges c.args.seconds c.requires in
    parts_shown c.args.seconds _ _ _ _ _ _ c.requires (omega (arith, signed_arith)) (omega (arith, signed_arith)) (omega (arith, signed_arith)) refl refl refl

pub returns-clause-ranges : goal.returns-clause-ranges
returns-clause-ranges c = subst IsCivil (sym (returns-clause-exact c)) (ranges c.args.seconds c.requires)

pub returns-clause-shown : goal.returns-clause-shown
returns-clause-shown c = subst (IsCivilAt c.args.seconds) (sym (returns-clause-exact c)) (shown c.args.seconds c.requires)
