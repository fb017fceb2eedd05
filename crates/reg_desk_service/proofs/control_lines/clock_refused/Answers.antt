use Rattle.std.proofs.Common.{refl}
use Rattle.std.specs.Prelude.{codes}
use Rattle.reg_desk_cli.specs.ExitStatus.{failure_line}
use Rattle.reg_desk_cli.specs.declared.failure.Failure.TheVariants.{BadClock}
use Rattle.reg_desk_service.specs.declared.control_reply.LineOutcome.TheVariants.{Failed}
use Rattle.reg_desk_service.proofs.ControlLines.{outcome_is}
use Rattle.reg_desk_service.proofs.control_lines.clock_refused.Goals as goal

pub returns-clause-line_outcome : goal.returns-clause-line_outcome
unfolding failure_line
returns-clause-line_outcome c = outcome_is (codes "bad-clock\n") (Failed BadClock) _ _ c.line.ensures refl
