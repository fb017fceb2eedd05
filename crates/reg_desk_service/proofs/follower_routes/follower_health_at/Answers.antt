use Rattle.std.specs.Prelude.{IfOk, None}
use Rattle.std.proofs.lemmas.Result.{IfOk-weaker}
use Rattle.reg_http.specs.AnswerEffects.{answer_effects}
use Rattle.reg_desk_service.specs.HealthRoutes.{AnswersFollowerHealth, IsHealthAt}
use Rattle.reg_desk_service.proofs.Looks.{looks_as}
use Rattle.reg_desk_service.proofs.follower_routes.follower_health_at.Goals as goal

pub returns-clause-moves : goal.returns-clause-moves
returns-clause-moves g c =
    looks_as g.M.Office.Office.is_clean g.M.Office.Office.stands
    (λ records. IsHealthAt None c.args.now records c.read_health-health.result)
    (λ records. IfOk c.follower_health_answer.result (λ answered. AnswersFollowerHealth c.args.follower.now c.args.now records (answer_effects answered)))
    (λ records is. IfOk-weaker c.follower_health_answer.result _ _ (λ answered gives. (c.read_health-health.result, is, gives)) c.follower_health_answer.ensures)
    _
    _
    c.read_health-health.ensures.moves
