use Rattle.std.specs.Prelude.{IfOk}
use Rattle.std.proofs.lemmas.Result.{IfOk-weaker}
use Rattle.reg_http.specs.AnswerEffects.{answer_effects}
use Rattle.reg_desk_service.specs.HealthRoutes.{AnswersFollowerMetrics, HasFound, Recounts}
use Rattle.reg_desk_service.proofs.Looks.{looks_as, looks_then}
use Rattle.reg_desk_service.proofs.follower_routes.follower_metrics_at.Goals as goal

pub returns-clause-moves : goal.returns-clause-moves
returns-clause-moves g c =
    looks_as g.M.Office.Office.is_clean g.M.Office.Office.stands
    (λ records. Recounts records c.args.now c.args.tally.now c.recount.new.tally × HasFound c.recount.new.tally records c.args.now c.found_at-found.result)
    (λ records. IfOk c.follower_metrics_answer.result (λ answered. AnswersFollowerMetrics c.args.follower.now c.args.now records (answer_effects answered)))
    (λ records both. IfOk-weaker c.follower_metrics_answer.result _ _
    (λ answered is. (c.recount.new.tally, c.found_at-found.result, both.1, (c.found_at-found.new.tally, c.args.connection_totals, is))) c.follower_metrics_answer.ensures)
    _
    _
    (looks_then g.M.Office.Office.is_clean g.M.Office.Office.stands _ _ _ _ _ c.recount.ensures.moves c.found_at-found.ensures.moves)
