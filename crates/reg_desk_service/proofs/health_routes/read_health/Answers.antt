use Rattle.reg_desk_service.specs.HealthRoutes.{HasFound, IsHealthAt}
use Rattle.reg_desk_service.proofs.Looks.{looks_as}
use Rattle.reg_desk_service.proofs.health_routes.read_health.Goals as goal

pub returns-clause-moves : goal.returns-clause-moves
returns-clause-moves g c =
    looks_as g.M.Office.Office.is_clean g.M.Office.Office.stands
    (λ records. HasFound c.args.tally.now records c.args.now c.found_at-found.result)
    (λ records. IsHealthAt c.args.accepted c.args.now records c.of.result)
    (λ records found. (c.args.tally.now, c.found_at-found.result, found, (c.found_at-found.new.tally, c.of.ensures)))
    _
    _
    c.found_at-found.ensures.moves
