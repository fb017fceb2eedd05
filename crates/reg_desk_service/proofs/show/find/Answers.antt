use Rattle.reg_desk_service.proofs.Finding.{certificate_looked, request_looked}
use Rattle.reg_desk_service.proofs.show.find.Goals as goal

pub returns-in-Request : goal.returns-in-Request
returns-in-Request g c =
    request_looked g.O.Office.is_clean g.O.Office.stands c.args.now c.in-Request.id c.saturating_sub.result c.args.shown.now c.find_at.result _ _ c.in-Request.is
    c.saturating_sub.ensures c.find_at.ensures

pub returns-in-Certificate : goal.returns-in-Certificate
returns-in-Certificate g c =
    certificate_looked g.O.Office.is_clean g.O.Office.stands c.args.now c.in-Certificate.serial c.serial_before.result c.args.shown.now c.find_at-in-Certificate.result _ _
    c.in-Certificate.is c.serial_before.ensures.above_0 c.serial_before.ensures.before c.find_at-in-Certificate.ensures
