use Rattle.std.proofs.Common.{[], ◌∷◌, ap, subst, ◌∙◌, arith}
use Rattle.sqlite_value.specs.declared.value.Value.TheVariants.{Blob}
use Rattle.sqlite.specs.Held.{state}
use Rattle.reg_core.specs.Policy.{IsPolicy}
use Rattle.reg_core.specs.Schedule.{IsSchedule, greatest_of}
use Rattle.reg_store_tables.specs.Rows.{number}
use Rattle.reg_store_tables.specs.Stays.{Ran}
use Rattle.reg_store_tables.proofs.PublicLaws.{moves, number_is}
use Rattle.reg_store_opening.specs.declared.sql.TheConstants.{PUT_OFFICE}
use Rattle.reg_store_opening.proofs.FirstRows.{puts_office}
use Rattle.reg_store_opening.proofs.initial_rows.put_office.Goals as goal

pub returns-clause-made : goal.returns-clause-made
returns-clause-made g c clean =
    let old = state g.S.Store c.args.tx.now.conn.now in
    let new = state g.S.Store c.write.new.tx.conn.now in
    let policy = c.args.policy.now in
    let is : IsPolicy policy = record {
      schedule = subst IsSchedule c.schedule.ensures.schedule c.schedule.ensures.in_range;
      crl_life = (omega (arith, c.crl_life.ensures), omega (arith, c.crl_life.ensures));
      ocsp_life = (omega (arith, c.ocsp_life.ensures), omega (arith, c.ocsp_life.ensures));
      cap = (omega (arith, c.cap.ensures), omega (arith, c.cap.ensures));
    } in
    let ran = subst (λ params. Ran PUT_OFFICE.now params old new c.in_ok-write.field-0)
    (λ i. (ap Blob c.stored_name.ensures.stored_name) i ∷ (ap Blob c.key.ensures.key) i ∷ (number_is _ _ c.in_ok-days.ensures.value ∙ ap number (c.greatest.ensures.days ∙ ap greatest_of c.schedule.ensures.schedule)) i
    ∷ (number_is _ _ c.in_ok-crl_life.ensures.value ∙ ap number c.crl_life.ensures.seconds) i
    ∷ (number_is _ _ c.in_ok-ocsp_life.ensures.value ∙ ap number c.ocsp_life.ensures.seconds) i
    ∷ (number_is _ _ c.in_ok-cap.ensures.value ∙ ap number c.cap.ensures.rows) i ∷ [])
    (c.in_ok-write.ensures.ran clean) in
    moves ran (λ blank. (is, puts_office c.args.issuer.now policy old new c.in_ok-write.field-0 ran blank))
