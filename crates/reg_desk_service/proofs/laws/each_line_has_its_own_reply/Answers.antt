use Rattle.reg_desk_service.proofs.OwnReplies.{each_has_its_reply}
use Rattle.reg_desk_service.proofs.laws.each_line_has_its_own_reply.Goals as goal

pub returns : goal.returns
returns g c = each_has_its_reply g.M.Office.Office.signs g.M.Machine.clock_reached g.M.Office.Office.is_clean g.M.Office.Office.stands
