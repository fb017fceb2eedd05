use Rattle.reg_desk_server.proofs.Exchanges.{handled_deferred}
use Rattle.reg_desk_server.proofs.control_connections.ControlConnections.advance_waiting_line.Goals as goal

pub returns-then-is_due-clause-lines : goal.returns-then-is_due-clause-lines
returns-then-is_due-clause-lines g c answered =
    handled_deferred g.H.Handler _ c.answer_deferred-line_answered.result _ _ answered c.into_parts-slot.result.1 c.answer_deferred-line_answered.new.self
    c.answer_deferred-line_answered.ensures.ok c.answer_deferred-line_answered.ensures.err
