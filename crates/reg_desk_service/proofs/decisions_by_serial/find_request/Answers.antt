use Rattle.reg_desk_service.proofs.Finding.{request_had, request_unhad}
use Rattle.reg_desk_service.proofs.decisions_by_serial.find_request.Goals as goal

pub returns-in_err-found : goal.returns-in_err-found
returns-in_err-found g c =
    request_unhad g.O.Office.is_clean g.O.Office.stands c.args.now c.args.id _ c.from_residual.result _ _ c.from_residual.ensures.1 c.in_err-found.ensures

pub returns : goal.returns
returns g c =
    request_had g.O.Office.is_clean g.O.Office.stands c.args.now c.args.id c.in_ok-found.found c.request_of_row.result _ _ c.request_of_row.ensures c.in_ok-found.ensures
