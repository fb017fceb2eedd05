use Rattle.std.proofs.Common.{arith}
use Rattle.reg_lines.proofs.Beginnings.{begins_at, no_space, no_text, one_beginning, too_short}
use Rattle.reg_lines.proofs.moments.take_moment.Goals as goal
use Rattle.reg_lines.proofs.moments.take_moment.Goals.{then-line-le-MOMENT-via-then-line-le-MOMENT, then-line-le-MOMENT-via-else-line-le-MOMENT+then-line-ne32}

pub returns-then-line-le-MOMENT-clause-none : goal.returns-then-line-le-MOMENT-clause-none
returns-then-line-le-MOMENT-clause-none c =
    elim c.then-line-le-MOMENT.branch [
      | then-line-le-MOMENT-via-then-line-le-MOMENT w ↦ too_short c.args.line.now w.if-line-le-MOMENT.true
      | then-line-le-MOMENT-via-else-line-le-MOMENT+then-line-ne32 w ↦ no_space c.args.line.now w.if-line-ne32.true
    ]

pub returns-then-line-le-MOMENT-clause-one : goal.returns-then-line-le-MOMENT-clause-one
returns-then-line-le-MOMENT-clause-one c = one_beginning

pub returns-in_err-now-clause-none : goal.returns-in_err-now-clause-none
returns-in_err-now-clause-none c = rw c.from_residual.ensures (no_text c.args.line.now c.in_err-now.ensures.none)

pub returns-in_err-now-clause-one : goal.returns-in_err-now-clause-one
returns-in_err-now-clause-one c = one_beginning

pub returns-clause-found : goal.returns-clause-found
returns-clause-found c = begins_at c.args.line.now _ (omega (arith, c.if-line-le-MOMENT.false)) c.if-line-ne32.false c.in_ok-now.ensures.found

pub returns-clause-one : goal.returns-clause-one
returns-clause-one c = one_beginning
