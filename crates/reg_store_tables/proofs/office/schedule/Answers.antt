use Rattle.std.proofs.Common.{◌∙◌, ℕ, sym, rules, refl, subst}
use Rattle.reg_core.specs.Calendar.{IsMoment}
use Rattle.reg_core.specs.Schedule.{IsSchedule}
use Rattle.reg_store_tables.proofs.FailingLemmas.{written_shows}
use Rattle.reg_store_tables.proofs.Few.{all_both}
use Rattle.reg_store_tables.proofs.LookingUp.{by_statement, finds_made, passed_on}
use Rattle.reg_store_tables.proofs.Queries.{all_of}
use Rattle.reg_store_tables.proofs.ScheduleLemmas.{steps_text, steps_are}
use Rattle.reg_store_tables.proofs.office.schedule.Goals as goal

pub returns-in_err-steps : goal.returns-in_err-steps
returns-in_err-steps g c =
    let any = all_of (λ (step : ℕ × ℕ). Unit {0}) (λ _. tt) in
    passed_on _ _ (search rules) (λ records written may. may) (by_statement (c.in_err-steps.ensures.reads steps_text.reading) refl (steps_text.asked tt) (λ records. records.policy.schedule)
    (λ records written clean rows answers. (
      all_both (λ (step : ℕ × ℕ). Unit {0}) (λ (step : ℕ × ℕ). IsMoment step.0) records.policy.schedule (any records.policy.schedule) written.steps,
      steps_are _ records ((written_shows g.S.Store _ records written).tables clean answers.is_open) rows answers.reads,
    ))
    (λ records shows clean rows answers. (any records.policy.schedule, steps_are _ records (shows.tables clean answers.is_open) rows answers.reads)))

pub returns : goal.returns
returns g c =
    let any = all_of (λ (step : ℕ × ℕ). Unit {0}) (λ _. tt) in
    finds_made (by_statement (c.in_ok-steps.ensures.reads steps_text.reading) refl (steps_text.asked tt) (λ records. records.policy.schedule)
    (λ records written clean rows answers. (
      all_both (λ (step : ℕ × ℕ). Unit {0}) (λ (step : ℕ × ℕ). IsMoment step.0) records.policy.schedule (any records.policy.schedule) written.steps,
      steps_are _ records ((written_shows g.S.Store _ records written).tables clean answers.is_open) rows answers.reads,
    ))
    (λ records shows clean rows answers. (any records.policy.schedule, steps_are _ records (shows.tables clean answers.is_open) rows answers.reads)))
    c.ok_or.result c.new.result _ c.ok_or.ensures.value c.new.ensures.value
    (λ records steps schedule is. is ∙ c.deref.ensures.value ∙ steps)
    (λ records written steps. c.new.ensures.some.1 (subst IsSchedule (sym (c.deref.ensures.value ∙ steps)) written.policy.schedule))
