use Rattle.std.proofs.Common.{refl}
use Rattle.reg_desk_service.proofs.Setting.{none_set, one_set}
use Rattle.reg_desk_service.proofs.control_lines.set_steps.Goals as goal

pub returns-in-Err : goal.returns-in-Err
returns-in-Err g c = none_set g.M.Office.Office.is_clean g.M.Office.Office.stands _ _ c.args.steps.now c.in-Err.why c.in-Err.ensures.err refl

pub returns : goal.returns
returns g c =
    one_set g.M.Office.Office.is_clean g.M.Office.Office.stands _ _ c.args.steps.now c.set_schedule.result c.in-Ok.schedule _
    c.in-Ok.ensures.ok.0 c.in-Ok.ensures.ok.1 c.ended.ensures c.set_schedule.ensures.sets
