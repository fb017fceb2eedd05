use Rattle.std.proofs.Common.{inl, inr, rules, sym, subst}
use Rattle.sqlite.specs.Effect.{Database}
use Rattle.sqlite.specs.Held.{state}
use Rattle.reg_store_tables.specs.Schema.{register_schema}
use Rattle.reg_store_tables.specs.Shows.{IsShownBy}
use Rattle.reg_store_tables.specs.declared.sql.TheConstants.{STEPS}
use Rattle.reg_store_opening.specs.VersionAndOffice.{InRange, IsRead, IsRefusedText}
use Rattle.reg_store_tables.proofs.PublicLaws.{stepped_clean}
use Rattle.reg_store_opening.proofs.QueryTexts.{office_query, steps_query}
use Rattle.reg_store_opening.proofs.Registered.{office_never, steps_never, office_judged}
use Rattle.reg_store_opening.proofs.Judged.{judged_none, judged_ok}
use Rattle.reg_store_opening.proofs.version_check.check_office.Goals as goal

pub read_rows-requires : goal.read_rows-requires
read_rows-requires g c = office_query

pub read_rows-requires-2 : goal.read_rows-requires-2
read_rows-requires-2 g c = steps_query

pub returns-clause-reported : goal.returns-clause-reported
returns-clause-reported g c clean =
    let first = c.in_ok-office.ensures.asked (stepped_clean c.read_rows-2.ensures.stepped clean) in
    let second = c.in_ok-steps.ensures.asked clean in
    let steps = subst (λ (d : Database). IsRead d STEPS.now c.in_ok-steps.steps.items) first.0.0.now_is second.1 in
    judged_ok _ _ c.check_office_rows.result c.check_office_rows.ensures (λ _ are. (first.0.0.was_open, (c.in_ok-office.office.items, c.in_ok-steps.steps.items, first.1, steps, are)))

pub returns-in_err-office-clause-none : goal.returns-in_err-office-clause-none
returns-in_err-office-clause-none g c clean is = inl (inl (c.read_rows.ensures.none clean (search (rules, is))))

pub returns-in_err-steps-clause-none : goal.returns-in_err-steps-clause-none
returns-in_err-steps-clause-none g c clean is =
    let first = c.in_ok-office.ensures.asked (stepped_clean c.read_rows-2.ensures.stepped clean) in
    inl (inr (subst (λ (d : Database). IsRefusedText d STEPS.now) first.0.0.now_is (c.read_rows-2.ensures.none clean (search (rules, is)))))

pub returns-clause-none : goal.returns-clause-none
returns-clause-none g c clean is =
    let first = c.in_ok-office.ensures.asked (stepped_clean c.read_rows-2.ensures.stepped clean) in
    let second = c.in_ok-steps.ensures.asked clean in
    let steps = subst (λ (d : Database). IsRead d STEPS.now c.in_ok-steps.steps.items) first.0.0.now_is second.1 in
    inr (c.in_ok-office.office.items, c.in_ok-steps.steps.items, first.1, steps, judged_none _ c.check_office_rows.result c.check_office_rows.ensures is)

pub returns-in_err-office-clause-shown : goal.returns-in_err-office-clause-shown
returns-in_err-office-clause-shown g c clean records before =
    let refused = λ (within : InRange records). c.in_err-office.ensures.refused clean register_schema office_never (λ up. (before up).schema) in
    search (rules, refused)

pub returns-in_err-steps-clause-shown : goal.returns-in_err-steps-clause-shown
returns-in_err-steps-clause-shown g c clean records before =
    let same = (c.in_ok-office.ensures.asked (stepped_clean c.read_rows-2.ensures.stepped clean)).0 in
    let shown = subst (λ (d : Database). IsShownBy d records) (sym same.0.now_is) (before same.0.was_open) in
    let refused = λ (within : InRange records). c.in_err-steps.ensures.refused clean register_schema steps_never (λ up. shown.schema) in
    search (rules, refused)

pub returns-clause-shown : goal.returns-clause-shown
returns-clause-shown g c clean records before =
    let first = c.in_ok-office.ensures.asked (stepped_clean c.read_rows-2.ensures.stepped clean) in
    let second = c.in_ok-steps.ensures.asked clean in
    let steps = subst (λ (d : Database). IsRead d STEPS.now c.in_ok-steps.steps.items) first.0.0.now_is second.1 in
    office_judged (state g.S.Store c.args.tx.now.conn.now).now records (before first.0.0.was_open) c.in_ok-office.office.items c.in_ok-steps.steps.items first.1 steps c.check_office_rows.result c.check_office_rows.ensures
