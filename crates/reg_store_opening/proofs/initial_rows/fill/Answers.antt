use Rattle.std.proofs.Common.{refl, subst, ◌∙◌}
use Rattle.sqlite.specs.Held.{state}
use Rattle.reg_store_tables.specs.Staged.{IsStaged}
use Rattle.reg_store_tables.proofs.PublicLaws.{may_move, moves_on, stepped_clean, then_moves, under_way}
use Rattle.reg_store_opening.specs.Blank.{office_alone}
use Rattle.reg_store_opening.proofs.FirstRows.{first_rows, staged_first, filled}
use Rattle.reg_store_opening.proofs.initial_rows.fill.Goals as goal

pub returns-clause-made : goal.returns-clause-made
returns-clause-made g c clean =
    let mid = (state g.S.Store c.put_counts.new.tx.conn.now).now in
    let new = (state g.S.Store c.put_schedule_steps.new.tx.conn.now).now in
    let issuer = c.args.issuer.now in
    let policy = c.args.policy.now in
    let clean2 = stepped_clean c.put_schedule_steps.ensures.stepped clean in
    let first = c.in_ok-put_office.ensures.made (stepped_clean c.put_counts.ensures.stepped clean2) in
    let second = c.in_ok-put_counts.ensures.made clean2 in
    then_moves _ _ _ _ _ _ c.put_schedule_steps.result (moves_on first second) (may_move _ _ _ c.put_schedule_steps.result (under_way second) (c.put_schedule_steps.ensures.made clean)) (λ _ third blank.
    let office = first.tables blank in
    let counted = second.tables.0 (office_alone issuer policy) refl office.1 in
    let staged = third.0 (first_rows issuer policy) c.steps.ensures.schedule.ascending (staged_first issuer policy mid counted) in
    let same = subst (λ l. IsStaged (first_rows issuer policy) l new) (c.steps.ensures.steps ∙ c.schedule-schedule.ensures.schedule) staged in
    (filled issuer policy new office.0 same, third.1.obeys counted.schema (second.tables.1.obeys office.1.schema)))
