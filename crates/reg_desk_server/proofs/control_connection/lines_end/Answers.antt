use Rattle.reg_desk_server.proofs.Holdings.{ends_next_slice}
use Rattle.reg_desk_server.proofs.control_connection.lines_end.Goals as goal

pub loop-preserved : goal.loop-preserved
loop-preserved c = ends_next_slice c.args.bytes.now c.loop.end c.in-Some-line_end.length c.loop.invariant c.in-Some-line_end.ensures
