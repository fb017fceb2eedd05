use Rattle.std.proofs.Common.{◌∙◌, ap}
use Rattle.std.specs.Prelude.{IfOk}
use Rattle.std.proofs.lemmas.Result.{IfOk-weaker}
use Rattle.reg_http.specs.AnswerEffects.{plain, answer_effects}
use Rattle.reg_desk_service.specs.HealthRoutes.{AnswersHealth, IsHealthAt, health_response}
use Rattle.reg_desk_service.proofs.Looks.{looks_as}
use Rattle.reg_desk_service.proofs.health_routes.health_at.Goals as goal

pub returns-clause-moves : goal.returns-clause-moves
returns-clause-moves g c =
    looks_as g.M.Office.Office.is_clean g.M.Office.Office.stands
    (λ records. IsHealthAt c.args.accepted c.args.now records c.read_health-health.result)
    (λ records. IfOk c.health_answer.result (λ answered. AnswersHealth c.args.accepted c.args.now records (answer_effects answered)))
    (λ records (first, found, has, (last, is)). IfOk-weaker c.health_answer.result _ _
    (λ answered gives. (first, found, has, (last, gives ∙ ap (λ it. plain (health_response it)) is)))
    c.health_answer.ensures)
    _
    _
    c.read_health-health.ensures.moves
