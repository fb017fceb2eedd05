use Rattle.std.proofs.Common.{◌∙◌, arith}
use Rattle.jiff_core.proofs.SignedLemmas.{signed_arith}
use Rattle.reg_core.proofs.Dates.{parts_at, parts_in, date_is, moment_at}
use Rattle.reg_core.proofs.calendar.Civil.seconds.Goals as goal
use Rattle.reg_core.proofs.calendar.Civil.seconds.Goals.{then-self-gt23-via-then-self-gt23, then-self-gt23-via-else-self-gt23+then-self-gt59, then-self-gt23-via-else-self-gt23+else-self-gt59+then-self-gt59-2}

pub returns-then-self-gt23 : goal.returns-then-self-gt23
returns-then-self-gt23 c = λ s h e.
    let in_range = parts_in s c.args.self h e in
    elim c.then-self-gt23.branch [
      | then-self-gt23-via-then-self-gt23 w ↦ omega arith
      | then-self-gt23-via-else-self-gt23+then-self-gt59 w ↦ omega arith
      | then-self-gt23-via-else-self-gt23+else-self-gt59+then-self-gt59-2 w ↦ omega arith
    ]

pub returns-in_err-days : goal.returns-in_err-days
returns-in_err-days c = rw c.from_residual-in_err-days.ensures (λ s h e.
    let at = parts_at s c.args.self h e in
    let is = date_is c.in_ok-date.field-0 c.args.self c.in_ok-date.ensures in
    omega (arith, signed_arith, is.1, at.day_number, c.in_err-days.ensures))

pub returns-in_err-date : goal.returns-in_err-date
returns-in_err-date c = rw c.from_residual.ensures (λ s h e. c.in_err-date.ensures (parts_at s c.args.self h e).date)

pub returns : goal.returns
returns c =
    let is = date_is c.in_ok-date.field-0 c.args.self c.in_ok-date.ensures in
    moment_at c.args.self c.in_ok-days.days c.in_ok-days.ensures.0 is.0 (is.1 ∙ c.in_ok-days.ensures.1) (omega arith) (omega arith) (omega arith)
