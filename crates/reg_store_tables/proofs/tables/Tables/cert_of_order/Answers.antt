use Rattle.std.proofs.Common.{refl, arith}
use Rattle.reg_core.specs.Records.{certificate_of_order}
use Rattle.reg_core.specs.Serial.{IsSerial}
use Rattle.reg_core.specs.declared.rows.CertRow.{CertRow}
use Rattle.reg_store_tables.specs.RecordValues.{IsValidity}
use Rattle.reg_store_tables.proofs.CertificateLemmas.{by_order_text, by_order_row, by_order_few}
use Rattle.reg_store_tables.proofs.Few.{all_both}
use Rattle.reg_store_tables.proofs.FailingLemmas.{written_shows}
use Rattle.reg_store_tables.proofs.LookingUp.{by_statement, not_asked}
use Rattle.reg_store_tables.proofs.tables.Tables.cert_of_order.Goals as goal

pub returns-in_err-value : goal.returns-in_err-value
returns-in_err-value g c = not_asked _ c.from_residual.ensures.0 (λ records below. let many = c.in_err-value.ensures.refused.1 in omega arith)

pub returns : goal.returns
returns g c =
    rw (← c.self.view_is) (by_statement (c.look_up.ensures.reads by_order_text.reading) (rw (c.params-to_sql.ensures, c.in_ok-value.ensures.value) refl) (by_order_text.asked c.args.order)
    (λ records. certificate_of_order records.certificates c.args.order)
    (λ records written clean rows answers.
    let shown = (written_shows g.S.Store _ records written).tables clean answers.is_open in
    let each = all_both (λ (row : CertRow). IsSerial row.serial) (λ (row : CertRow). IsValidity row.not_before row.not_after) records.certificates shown.rows.certificate_serials written.values.validities in
    (by_order_row _ records shown c.args.order rows answers.reads (λ row. IsSerial row.serial × IsValidity row.not_before row.not_after) each, by_order_few _ records shown c.args.order rows answers.reads written.sound.certificates.orders_differ))
    (λ records shows clean rows answers.
    let shown = shows.tables clean answers.is_open in
    by_order_row _ records shown c.args.order rows answers.reads (λ row. IsSerial row.serial) shown.rows.certificate_serials))
