use Rattle.reg_desk_service.proofs.control_reply.ControlReply.line.Goals as goal

pub returns : goal.returns
returns c = c.made.ensures _ c.with_lf.ensures
