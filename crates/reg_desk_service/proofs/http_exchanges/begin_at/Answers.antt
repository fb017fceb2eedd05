use Rattle.std.proofs.Common.{◌≡◌, ◌∙◌, ap, refl, sym}
use Rattle.std.specs.Prelude.{IfOk}
use Rattle.reg_office_api.proofs.PublicLaws.{follows}
use Rattle.reg_http.specs.RoutedRequests.{asked}
use Rattle.reg_desk_service.specs.Admission.{BeginsAdmitted}
use Rattle.reg_http.specs.AnswerEffects.{answer_effects}
use Rattle.reg_desk_service.specs.HealthRoutes.{AnswersFollowerMetrics, ByGet}
use Rattle.reg_desk_service.specs.RequestOutcomes.{BeginsAt, ready_of}
use Rattle.reg_desk_service.specs.Exchanges.{dispatch}
use Rattle.reg_desk_service.specs.declared.http_exchanges.Dispatch.TheVariants.{Refuse, ToChanges, ToFollowerHealth, ToFollowerMetrics, ToHealth, ToLimits, ToList, ToMetrics, ToRegister, TryLater}
use Rattle.reg_desk_service.proofs.Admitting.{was_counted}
use Rattle.reg_desk_service.proofs.Answering.{counted_at, limited_begins, metrics_begin}
use Rattle.reg_desk_service.proofs.http_exchanges.begin_at.Goals as goal

pub returns-in-ToLimits-clause-moves : goal.returns-in-ToLimits-clause-moves
returns-in-ToLimits-clause-moves g c =
    let to = ap (dispatch c.args.kind) (sym c.requires) ∙ sym c.dispatch_of.ensures ∙ c.in-ToLimits.is in
    follows g.M.Office.Office.is_clean g.M.Office.Office.stands
    (λ signers before after. BeginsAdmitted c.args.admission.now g.M.Office.Office.signs c.args.now signers before
    (asked c.args.method.now c.args.target.now c.args.body.now) c.begin_admitted.result after)
    (λ signers before after. BeginsAt c.args.kind g.M.Office.Office.signs c.args.now c.args.admission.now signers before c.args.method.now c.args.target.now c.args.body.now
    c.begin_admitted.result after)
    (λ signers before after begun.
    limited_begins c.args.admission.now c.args.kind g.M.Office.Office.signs c.args.now signers before c.args.method.now c.args.target.now c.args.body.now
    c.begin_admitted.result after to begun)
    _
    _
    c.begin_admitted.ensures.moves

pub returns-in-ToLimits-clause-counted : goal.returns-in-ToLimits-clause-counted
returns-in-ToLimits-clause-counted g c =
    let to = ap (dispatch c.args.kind) (sym c.requires) ∙ sym c.dispatch_of.ensures ∙ c.in-ToLimits.is in
    counted_at c.begin_admitted.result c.args.kind c.args.now c.args.method.now c.args.target.now c.args.body.now c.args.admission.now _ ToLimits to
    c.begin_admitted.ensures.counted

pub returns-in-ToRegister-clause-counted : goal.returns-in-ToRegister-clause-counted
returns-in-ToRegister-clause-counted g c =
    let to = ap (dispatch c.args.kind) (sym c.requires) ∙ sym c.dispatch_of.ensures ∙ c.in-ToRegister.is in
    counted_at _ c.args.kind c.args.now c.args.method.now c.args.target.now c.args.body.now c.args.admission.now _ ToRegister to (was_counted _ _ _ _ refl)

pub returns-in-ToList-clause-counted : goal.returns-in-ToList-clause-counted
returns-in-ToList-clause-counted g c =
    let to = ap (dispatch c.args.kind) (sym c.requires) ∙ sym c.dispatch_of.ensures ∙ c.in-ToList.is in
    counted_at _ c.args.kind c.args.now c.args.method.now c.args.target.now c.args.body.now c.args.admission.now _ ToList to (was_counted _ _ _ _ refl)

pub returns-in-ToHealth-clause-counted : goal.returns-in-ToHealth-clause-counted
returns-in-ToHealth-clause-counted g c =
    let to = ap (dispatch c.args.kind) (sym c.requires) ∙ sym c.dispatch_of.ensures ∙ c.in-ToHealth.is in
    counted_at _ c.args.kind c.args.now c.args.method.now c.args.target.now c.args.body.now c.args.admission.now _ ToHealth to (was_counted _ _ _ _ refl)

pub returns-in-ToMetrics-clause-counted : goal.returns-in-ToMetrics-clause-counted
returns-in-ToMetrics-clause-counted g c =
    let to = ap (dispatch c.args.kind) (sym c.requires) ∙ sym c.dispatch_of.ensures ∙ c.in-ToMetrics.is in
    counted_at _ c.args.kind c.args.now c.args.method.now c.args.target.now c.args.body.now c.args.admission.now _ ToMetrics to (was_counted _ _ _ _ refl)

pub returns-in-ToChanges-clause-counted : goal.returns-in-ToChanges-clause-counted
returns-in-ToChanges-clause-counted g c =
    let to = ap (dispatch c.args.kind) (sym c.requires) ∙ sym c.dispatch_of.ensures ∙ c.in-ToChanges.is in
    counted_at _ c.args.kind c.args.now c.args.method.now c.args.target.now c.args.body.now c.args.admission.now _ ToChanges to (was_counted _ _ _ _ refl)

pub returns-in-ToFollowerHealth-clause-counted : goal.returns-in-ToFollowerHealth-clause-counted
returns-in-ToFollowerHealth-clause-counted g c =
    let to = ap (dispatch c.args.kind) (sym c.requires) ∙ sym c.dispatch_of.ensures ∙ c.in-ToFollowerHealth.is in
    counted_at _ c.args.kind c.args.now c.args.method.now c.args.target.now c.args.body.now c.args.admission.now _ (ToFollowerHealth c.in-ToFollowerHealth.follower) to (was_counted _ _ _ _ refl)

pub returns-in-ToFollowerMetrics-clause-moves : goal.returns-in-ToFollowerMetrics-clause-moves
returns-in-ToFollowerMetrics-clause-moves g c =
    let to = ap (dispatch c.args.kind) (sym c.requires) ∙ sym c.dispatch_of.ensures ∙ c.in-ToFollowerMetrics.is in
    rw c.ready-in-ToFollowerMetrics.ensures (
    follows g.M.Office.Office.is_clean g.M.Office.Office.stands
    (λ signers before after. IfOk c.follower_metrics.result (λ answered.
    ByGet c.args.method.now (AnswersFollowerMetrics c.in-ToFollowerMetrics.follower c.args.now before) (answer_effects answered)) × (after ≡ before))
    (λ signers before after. BeginsAt c.args.kind g.M.Office.Office.signs c.args.now c.args.admission.now signers before c.args.method.now c.args.target.now c.args.body.now
    (ready_of c.follower_metrics.result) after)
    (λ signers before after looked.
    metrics_begin c.in-ToFollowerMetrics.follower c.args.admission.now c.args.kind g.M.Office.Office.signs c.args.now signers before c.args.method.now c.args.target.now
    c.args.body.now c.follower_metrics.result after to looked.0 looked.1)
    _
    _
    c.follower_metrics.ensures.moves
    )

pub returns-in-ToFollowerMetrics-clause-counted : goal.returns-in-ToFollowerMetrics-clause-counted
returns-in-ToFollowerMetrics-clause-counted g c =
    let to = ap (dispatch c.args.kind) (sym c.requires) ∙ sym c.dispatch_of.ensures ∙ c.in-ToFollowerMetrics.is in
    counted_at _ c.args.kind c.args.now c.args.method.now c.args.target.now c.args.body.now c.args.admission.now _ (ToFollowerMetrics c.in-ToFollowerMetrics.follower) to (was_counted _ _ _ _ refl)

pub returns-in-TryLater-clause-counted : goal.returns-in-TryLater-clause-counted
returns-in-TryLater-clause-counted g c =
    let to = ap (dispatch c.args.kind) (sym c.requires) ∙ sym c.dispatch_of.ensures ∙ c.in-TryLater.is in
    counted_at _ c.args.kind c.args.now c.args.method.now c.args.target.now c.args.body.now c.args.admission.now _ TryLater to (was_counted _ _ _ _ refl)

pub returns-in-Refuse-clause-counted : goal.returns-in-Refuse-clause-counted
returns-in-Refuse-clause-counted g c =
    let to = ap (dispatch c.args.kind) (sym c.requires) ∙ sym c.dispatch_of.ensures ∙ c.in-Refuse.is in
    counted_at _ c.args.kind c.args.now c.args.method.now c.args.target.now c.args.body.now c.args.admission.now _ (Refuse c.in-Refuse.code) to (was_counted _ _ _ _ refl)
