use Rattle.reg_desk_server.proofs.Exchanges.{handled_deferring, handled_then, handled_first}
use Rattle.reg_desk_server.proofs.control_connections.ControlConnections.answer_lines_at.Goals as goal

pub returns-in-Some-defer-clause-lines : goal.returns-in-Some-defer-clause-lines
returns-in-Some-defer-clause-lines g c answered = handled_deferring g.H.Handler _ _ answered c.in-Some.connection c.defer.ensures.looked

pub returns-else-not-has_control_socket-clause-lines : goal.returns-else-not-has_control_socket-clause-lines
returns-else-not-has_control_socket-clause-lines g c answered =
    handled_then g.H.Handler _ _ _ answered answered answered
    (handled_deferring g.H.Handler _ _ answered c.in-Some.connection c.defer.ensures.looked)
    (handled_first g.H.Handler _ c.answer_lines-line_answered.result _ _ answered c.defer.new.self c.answer_lines-line_answered.new.self c.answer_lines-line_answered.ensures.ok c.answer_lines-line_answered.ensures.err)

pub returns-then-not-has_control_socket-clause-lines : goal.returns-then-not-has_control_socket-clause-lines
returns-then-not-has_control_socket-clause-lines g c answered =
    handled_deferring g.H.Handler _ _ answered c.in-Some.connection c.defer.ensures.looked
