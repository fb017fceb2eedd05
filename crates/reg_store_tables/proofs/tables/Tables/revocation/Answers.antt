use Rattle.std.proofs.Common.{refl}
use Rattle.reg_core.specs.Records.{revocation_in}
use Rattle.reg_core.specs.Serial.{IsSerial}
use Rattle.reg_core.specs.declared.rows.RevocationRow.{RevocationRow}
use Rattle.reg_store_tables.specs.RecordValues.{AreMomentAndReason}
use Rattle.reg_store_tables.proofs.Few.{all_both}
use Rattle.reg_store_tables.proofs.FailingLemmas.{written_shows}
use Rattle.reg_store_tables.proofs.LookingUp.{by_statement}
use Rattle.reg_store_tables.proofs.RevocationLemmas.{by_serial_text, by_serial_row, by_serial_few}
use Rattle.reg_store_tables.proofs.Written.{revocations_have}
use Rattle.reg_store_tables.proofs.tables.Tables.revocation.Goals as goal

pub returns : goal.returns
returns g c =
    rw (← c.self.view_is) (by_statement (c.look_up.ensures.reads by_serial_text.reading) (rw (c.params-to_sql.ensures, c.as_slice.ensures, c.bytes20.ensures.bytes) refl) (by_serial_text.asked c.args.serial)
    (λ records. revocation_in records.revocations c.args.serial)
    (λ records written clean rows answers.
    let shown = (written_shows g.S.Store _ records written).tables clean answers.is_open in
    let each = all_both (λ (row : RevocationRow). IsSerial row.serial) (λ (row : RevocationRow). AreMomentAndReason row.at row.reason) records.revocations shown.rows.revocation_serials (revocations_have records written.sound written.values) in (
      by_serial_row _ records shown c.args.serial c.bytes20.ensures.in_range rows answers.reads (λ row. IsSerial row.serial × AreMomentAndReason row.at row.reason) each,
      by_serial_few _ records shown c.args.serial c.bytes20.ensures.in_range rows answers.reads written.sound.revocations.serials_differ,
    ))
    (λ records shows clean rows answers.
    let shown = shows.tables clean answers.is_open in
    by_serial_row _ records shown c.args.serial c.bytes20.ensures.in_range rows answers.reads (λ row. IsSerial row.serial) shown.rows.revocation_serials))
