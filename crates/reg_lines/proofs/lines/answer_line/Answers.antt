use Rattle.reg_lines.specs.ByCalls.{LineCalls}
use Rattle.reg_lines.proofs.Accepting.{line_agrees}
use Rattle.reg_lines.proofs.lines.answer_line.Goals as goal

pub write_reply-requires : goal.write_reply-requires
write_reply-requires g c =
    line_agrees (LineCalls g.O.Office) g.H.Host.clock_reached (g.H.Host.clocked c.args.host.now) c.args.office.now c.args.line.now c.in-Ok.answered
    c.run_by.new.office c.in-Ok.ensures.comes
