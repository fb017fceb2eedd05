use Rattle.std.proofs.Common.{◌≤◌, ℕ, subst, ◌∙◌, rules}
use Rattle.reg_core.specs.Changes.{with_schedule}
use Rattle.reg_store_changes.proofs.PublicLaws.{looked_step, steps_then}
use Rattle.reg_store_tables.proofs.PublicLaws.{by_finding}
use Rattle.reg_office_reads.proofs.PublicLaws.{lent}
use Rattle.reg_office.proofs.Replaying.{after_look_leads, leads_then, schedule_leads, touched_leads}
use Rattle.reg_office.proofs.office.Office.take_moment.Goals as goal

pub returns : goal.returns
returns g c =
    let s = g.C.Store in
    let signs = g.S.Signer.signs in
    let identity = g.S.Signer.identity c.args.self.now.signer in
    let old = c.args.self.now.store in
    let mid = c.last.new.self in
    let set = c.enter.new.self in
    let new = c.enter_schedule.new.self in
    let head = c.args.head.now in
    let looks = lent c.deref_mut.ensures.shows (by_finding c.in_ok-before.ensures) in
    let first = steps_then (looked_step looks.looked) c.enter.ensures.stepped in
    let clock = c.clock_refusal.ensures c.in-None.is in
    record {
      made = leads_then s signs identity old set new first c.enter_schedule.ensures.stepped
          (after_look_leads s signs identity old mid set looks c.in-Ok.ensures.under_way c.enter.ensures.stepped
          (touched_leads s signs identity mid set head.last c.in-Ok.ensures.made (λ records is. (subst (λ (n : ℕ). n ≤ head.last) is clock.0, clock.1))))
          (schedule_leads s signs identity set new c.schedule.result c.in_ok-enter_schedule.ensures.made)
          (λ before middle after touches is. is ∙ (λ i. with_schedule (touches i) (c.schedule.ensures.schedule i)));
      stepped = steps_then first c.enter_schedule.ensures.stepped;
      untouched = search rules;
    }

pub returns-in_err-enter_schedule-clause-stepped : goal.returns-in_err-enter_schedule-clause-stepped
returns-in_err-enter_schedule-clause-stepped g c =
    let looks = lent c.deref_mut.ensures.shows (by_finding c.in_ok-before.ensures) in
    steps_then (looked_step looks.looked) (steps_then c.enter.ensures.stepped c.enter_schedule.ensures.stepped)

pub returns-in-Err-clause-stepped : goal.returns-in-Err-clause-stepped
returns-in-Err-clause-stepped g c = steps_then (looked_step (lent c.deref_mut.ensures.shows (by_finding c.in_ok-before.ensures)).looked) c.enter.ensures.stepped

pub returns-in-Some-clause-stepped : goal.returns-in-Some-clause-stepped
returns-in-Some-clause-stepped g c = looked_step (lent c.deref_mut.ensures.shows (by_finding c.in_ok-before.ensures)).looked

pub returns-in_err-before-clause-stepped : goal.returns-in_err-before-clause-stepped
returns-in_err-before-clause-stepped g c = looked_step (lent c.deref_mut.ensures.shows (by_finding c.last.ensures)).looked
