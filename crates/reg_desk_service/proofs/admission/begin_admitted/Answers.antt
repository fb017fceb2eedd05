use Rattle.std.proofs.Common.{◌∙◌, sym}
use Rattle.reg_http.specs.RoutedRequests.{asked}
use Rattle.reg_desk_service.proofs.Admitting.{admitted, within}
use Rattle.reg_desk_service.proofs.admission.begin_admitted.Goals as goal

pub returns-in-None-clause-moves : goal.returns-in-None-clause-moves
returns-in-None-clause-moves g c =
    let what = asked c.args.method.now c.args.target.now c.args.body.now in
    admitted g.M.Office.Office.is_clean g.M.Office.Office.stands c.args.admission.now g.M.Office.Office.signs c.args.now what c.begin-in-None.result _ _ _
    (within g.M.Office.Office.is_clean g.M.Office.Office.stands c.args.admission.now g.M.Office.Office.signs c.args.now what c.in-Some.serial _ _
    (sym c.in-Some.is ∙ c.in_ok-serial.ensures) (rw c.in-None.is at c.in_ok-refused.ensures.looks))
    c.begin-in-None.ensures.ok c.begin-in-None.ensures.memory
