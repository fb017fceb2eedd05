use Rattle.std.proofs.Common.{refl}
use Rattle.std.specs.Prelude.{false}
use Rattle.reg_lines.specs.declared.answered.LineKind.TheVariants as line
use Rattle.reg_desk_service.specs.declared.control_reply.LineOutcome.TheVariants.{Completed}
use Rattle.reg_desk_service.proofs.command_batches.report_line.Goals as goal

pub returns-clause-counted : goal.returns-clause-counted
returns-clause-counted g c = (
  c.saturating_sub-micros.result,
  Completed (line.Command c.args.command.now) c.args.outcome.now,
  false,
  refl,
  ((λ is. absurd cc), (λ bad. absurd bad)),
  rw c.effects.ensures at c.count_line.ensures,
)
