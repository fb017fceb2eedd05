use Rattle.reg_desk_service.proofs.copies.copied_reply.Goals as goal

pub returns : goal.returns
returns c = c.made.ensures _ c.copied_line.ensures
