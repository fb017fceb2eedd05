use Rattle.std.proofs.Common.{inr}
use Rattle.reg_desk_service.proofs.CommandBatches.{one_more_end, one_more_line}
use Rattle.reg_desk_service.proofs.command_batches.command_lines.Goals as goal

pub loop-preserved : goal.loop-preserved
loop-preserved c =
    let next = c.in-Some.next in
    let more = one_more_end c.args.lines.now c.loop.length next.length c.loop.invariant.within c.in-Some.ensures.ends in
    record {
      within = more.0;
      commands =
          rw (rw c.in-Ok.is at c.push-in-loop.ensures.items)
          (one_more_line c.args.now c.args.lines.now c.loop.length next.length next.command c.loop.commands.items c.loop.invariant.commands
          c.in-Some.ensures.ends c.in-Some.ensures.means);
      ends = inr more;
    }
