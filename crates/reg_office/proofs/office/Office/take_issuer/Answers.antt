use Rattle.std.proofs.Common.{Result, IfOk, subst, ◌∙◌, rules}
use Rattle.reg_core.specs.Issuer.{Issuer}
use Rattle.reg_core.specs.Changes.{with_schedule}
use Rattle.reg_store_tables.specs.LookUps.{LooksUp}
use Rattle.reg_store_changes.proofs.PublicLaws.{looked_step, steps_then}
use Rattle.reg_store_tables.proofs.PublicLaws.{so}
use Rattle.reg_office_api.specs.declared.follow.FeedRule.{FeedRule}
use Rattle.reg_office.specs.Replays.{MayTakeHead}
use Rattle.reg_office_reads.proofs.PublicLaws.{lent}
use Rattle.reg_office.proofs.Replaying.{after_look_leads, issuer_leads, leads_then, schedule_leads}
use Rattle.reg_office.proofs.office.Office.take_issuer.Goals as goal

pub returns : goal.returns
returns g c =
    let s = g.C.Store in
    let signs = g.S.Signer.signs in
    let identity = g.S.Signer.identity c.args.self.now.signer in
    let old = c.args.self.now.store in
    let mid = c.issuer_of_head.new.tables in
    let set = c.enter_issuer.new.self in
    let new = c.enter_schedule.new.self in
    let head = c.args.head.now in
    let issuer : Issuer = c.in-Ok.issuer in
    let looks : LooksUp s old mid (λ records. MayTakeHead head records issuer) =
    so (lent c.deref_mut.ensures.shows c.in_ok-found.ensures) (λ records sound it. subst (λ (o : Result Issuer FeedRule). IfOk o (MayTakeHead head records)) c.in-Ok.is it) in
    let first = steps_then (looked_step looks.looked) c.enter_issuer.ensures.stepped in
    record {
      made = leads_then s signs identity old set new first c.enter_schedule.ensures.stepped
          (after_look_leads s signs identity old mid set looks c.in_ok-enter_issuer.ensures.under_way c.enter_issuer.ensures.stepped
          (issuer_leads s signs identity mid set head issuer c.in_ok-enter_issuer.ensures.made))
          (schedule_leads s signs identity set new c.widest.result c.in_ok-enter_schedule.ensures.made)
          (λ before middle after both is. record {
            issuer = issuer;
            may = both.0;
            after_is = is ∙ (λ i. with_schedule (both.1 i) (c.widest.ensures i));
          });
      stepped = steps_then first c.enter_schedule.ensures.stepped;
      untouched = search rules;
    }

pub returns-in_err-enter_schedule-clause-stepped : goal.returns-in_err-enter_schedule-clause-stepped
returns-in_err-enter_schedule-clause-stepped g c =
    let looks = lent c.deref_mut.ensures.shows c.in_ok-found.ensures in
    steps_then (looked_step looks.looked) (steps_then c.enter_issuer.ensures.stepped c.enter_schedule.ensures.stepped)

pub returns-in_err-enter_issuer-clause-stepped : goal.returns-in_err-enter_issuer-clause-stepped
returns-in_err-enter_issuer-clause-stepped g c = steps_then (looked_step (lent c.deref_mut.ensures.shows c.in_ok-found.ensures).looked) c.enter_issuer.ensures.stepped

pub returns-in-Err-clause-stepped : goal.returns-in-Err-clause-stepped
returns-in-Err-clause-stepped g c = looked_step (lent c.deref_mut.ensures.shows c.in_ok-found.ensures).looked

pub returns-in_err-found-clause-stepped : goal.returns-in_err-found-clause-stepped
returns-in_err-found-clause-stepped g c = looked_step (lent c.deref_mut.ensures.shows c.issuer_of_head.ensures).looked
