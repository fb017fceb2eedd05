use Rattle.std.proofs.Common.{take, refl, arith}
use Rattle.reg_core.specs.Serial.{IsSerial}
use Rattle.reg_core.specs.Sound.{SoundRows}
use Rattle.reg_core.specs.declared.rows.RevocationRow.{RevocationRow}
use Rattle.reg_core.specs.AscendingRows.{key_of, past}
use Rattle.reg_store_tables.specs.RecordValues.{AreMomentAndReason}
use Rattle.reg_store_tables.proofs.Few.{all_both}
use Rattle.reg_store_tables.proofs.FailingLemmas.{written_shows}
use Rattle.reg_store_tables.proofs.LookingUp.{by_statement_if, not_asked}
use Rattle.reg_store_tables.proofs.PageLemmas.{revocations_text, revocations_shown, revocations_serials, past_have}
use Rattle.reg_store_tables.proofs.Written.{revocations_have}
use Rattle.reg_store_tables.proofs.tables.Tables.revocations_after.Goals as goal

pub returns-in_err-limit : goal.returns-in_err-limit
returns-in_err-limit g c = not_asked _ c.from_residual.ensures.0 (λ records below. let many = c.in_err-limit.ensures.refused.1 in omega arith)

pub returns : goal.returns
returns g c =
    let after = key_of c.args.after in
    let low = c.key_bytes-key.ensures.low in
    rw (← c.self.view_is) (by_statement_if (c.look_up_all.ensures.reads revocations_text.reading) (rw (c.params-to_sql.ensures, c.params-to_sql-2.ensures, c.as_slice.ensures, c.key_bytes-key.ensures.bytes, c.in_ok-limit.ensures.value) refl) (revocations_text.asked (after, c.args.most))
    (λ records. take c.args.most (past (λ (row : RevocationRow). row.serial) after records.revocations))
    (λ records written clean rows answers.
    let shown = (written_shows g.S.Store _ records written).tables clean answers.is_open in
    let each = past_have (λ (row : RevocationRow). row.serial) (λ (row : RevocationRow). AreMomentAndReason row.at row.reason) after c.args.most records.revocations (revocations_have records written.sound written.values) in (
      all_both (λ (row : RevocationRow). IsSerial row.serial) (λ (row : RevocationRow). AreMomentAndReason row.at row.reason) _ (revocations_serials _ records shown after c.args.most low rows answers.reads) each,
      revocations_shown _ records shown after c.args.most low rows answers.reads written.sound.revocations.serials_differ,
    ))
    SoundRows
    (λ records shows sound clean rows answers.
    let shown = shows.tables clean answers.is_open in
    (revocations_serials _ records shown after c.args.most low rows answers.reads, revocations_shown _ records shown after c.args.most low rows answers.reads sound.revocations.serials_differ)))
