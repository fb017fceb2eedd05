use Rattle.std.proofs.Common.{refl}
use Rattle.reg_desk_service.proofs.Looks.{looks_as, looks_then, not_open}
use Rattle.reg_desk_service.proofs.health_routes.requests_at.Goals as goal

pub returns-in-Err : goal.returns-in-Err
returns-in-Err g c =
    looks_as g.M.Office.Office.is_clean g.M.Office.Office.stands _ _
    (λ records it. c.in-Err.ensures records c.args.now it) _ _ c.ask-asked.ensures.asks

pub returns-in-Ok-open_count : goal.returns-in-Ok-open_count
returns-in-Ok-open_count g c =
    looks_as g.M.Office.Office.is_clean g.M.Office.Office.stands _ _
    (λ records it. (refl, it.1, c.in-Ok.ensures records c.args.now it.0)) _ _
    (looks_then g.M.Office.Office.is_clean g.M.Office.Office.stands _ _ _ _ _ c.ask-asked.ensures.asks c.in-Ok-open_count.ensures.looks)

pub returns-in-Err-open_count : goal.returns-in-Err-open_count
returns-in-Err-open_count g c =
    looks_as g.M.Office.Office.is_clean g.M.Office.Office.stands _ _
    (λ records it. not_open records c.args.now _ c.in-Err-open_count.ensures.faults) _ _
    (looks_then g.M.Office.Office.is_clean g.M.Office.Office.stands _ _ _ _ _ c.ask-asked.ensures.asks c.in-Err-open_count.ensures.looks)
