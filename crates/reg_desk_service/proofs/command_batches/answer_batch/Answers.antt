use Rattle.std.proofs.Common.{take, arith}
use Rattle.std.specs.Prelude.{IsTrue}
use Rattle.reg_desk_service.proofs.CommandBatches.{batch_replies}
use Rattle.reg_desk_service.proofs.command_batches.answer_batch.Goals as goal

pub returns-in-Ok-clause-moves : goal.returns-in-Ok-clause-moves
returns-in-Ok-clause-moves g c =
    batch_replies g.M.Office.Office.is_clean g.M.Office.Office.stands c.args.accepted g.M.Office.Office.signs c.args.now
    (take c.command_lines-texts.result.length c.args.lines.now) c.joined_replies-text.result.items c.command_lines-texts.result.commands.items c.in-Ok.outcomes.items
    (IsTrue c.may_run.result) _ _ _ _ c.command_lines-texts.ensures.commands c.if-not-may_run.false
    (λ long.
    rw c.deref-in-Ok.ensures.value at c.joined_replies-text.ensures (omega (arith, long, c.len-2.ensures, c.in_ok-room.ensures.1)))
    c.may_run.ensures (rw c.deref.ensures.value at c.in-Ok.ensures) c.report_lines.ensures
