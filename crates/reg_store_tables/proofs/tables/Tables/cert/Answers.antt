use Rattle.std.proofs.Common.{refl}
use Rattle.reg_core.specs.Records.{certificate_in}
use Rattle.reg_core.specs.Serial.{IsSerial}
use Rattle.reg_core.specs.declared.rows.CertRow.{CertRow}
use Rattle.reg_store_tables.specs.RecordValues.{IsValidity}
use Rattle.reg_store_tables.proofs.CertificateLemmas.{by_serial_text, by_serial_row, by_serial_few}
use Rattle.reg_store_tables.proofs.Few.{all_both}
use Rattle.reg_store_tables.proofs.FailingLemmas.{written_shows}
use Rattle.reg_store_tables.proofs.LookingUp.{by_statement}
use Rattle.reg_store_tables.proofs.tables.Tables.cert.Goals as goal

pub returns : goal.returns
returns g c =
    rw (← c.self.view_is) (by_statement (c.look_up.ensures.reads by_serial_text.reading) (rw (c.params-to_sql.ensures, c.as_slice.ensures, c.bytes20.ensures.bytes) refl) (by_serial_text.asked c.args.serial)
    (λ records. certificate_in records.certificates c.args.serial)
    (λ records written clean rows answers.
    let shown = (written_shows g.S.Store _ records written).tables clean answers.is_open in
    let each = all_both (λ (row : CertRow). IsSerial row.serial) (λ (row : CertRow). IsValidity row.not_before row.not_after) records.certificates shown.rows.certificate_serials written.values.validities in (
      by_serial_row _ records shown c.args.serial c.bytes20.ensures.in_range rows answers.reads (λ row. IsSerial row.serial × IsValidity row.not_before row.not_after) each,
      by_serial_few _ records shown c.args.serial c.bytes20.ensures.in_range rows answers.reads written.sound.certificates.serials_differ,
    ))
    (λ records shows clean rows answers.
    let shown = shows.tables clean answers.is_open in
    by_serial_row _ records shown c.args.serial c.bytes20.ensures.in_range rows answers.reads (λ row. IsSerial row.serial) shown.rows.certificate_serials))
