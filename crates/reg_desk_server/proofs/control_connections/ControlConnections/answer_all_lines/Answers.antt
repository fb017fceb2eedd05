use Rattle.reg_desk_server.proofs.Exchanges.{handled_then}
use Rattle.reg_desk_server.proofs.control_connections.ControlConnections.answer_all_lines.Goals as goal

pub returns-in_err-answer_lines_at-clause-lines : goal.returns-in_err-answer_lines_at-clause-lines
returns-in_err-answer_lines_at-clause-lines g c answered =
    handled_then g.H.Handler _ _ _ answered answered answered (c.loop-turn.invariant answered) (c.answer_lines_at.ensures.lines answered)

pub loop-turn-preserved : goal.loop-turn-preserved
loop-turn-preserved g c answered =
    handled_then g.H.Handler _ _ _ answered answered answered (c.loop-turn.invariant answered) (c.answer_lines_at.ensures.lines answered)
