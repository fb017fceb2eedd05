use Rattle.std.proofs.Common.{Ok, inl, inr, refl}
use Rattle.reg_desk_service.specs.HealthRoutes.{HasRequests, Recounts}
use Rattle.reg_desk_service.proofs.Looks.{looks_as}
use Rattle.reg_desk_service.proofs.health_routes.recount.Goals as goal

pub returns-in-Ok-clause-moves : goal.returns-in-Ok-clause-moves
returns-in-Ok-clause-moves g c =
    looks_as g.M.Office.Office.is_clean g.M.Office.Office.stands
    (λ records. HasRequests records c.args.now (Ok c.in-Ok.requests))
    (λ records. Recounts records c.args.now c.args.tally.now c.set_requests.new.self)
    (λ records counted. inr (c.in-Ok.requests, counted, c.set_requests.ensures))
    _
    _
    c.in-Ok.ensures

pub returns-in-Err-clause-moves : goal.returns-in-Err-clause-moves
returns-in-Err-clause-moves g c =
    looks_as g.M.Office.Office.is_clean g.M.Office.Office.stands
    (λ records. HasRequests records c.args.now c.requests_at.result)
    (λ records. Recounts records c.args.now c.args.tally.now c.args.tally.now)
    (λ records seen. inl refl)
    _
    _
    c.requests_at.ensures
