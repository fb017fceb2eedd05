use Rattle.std.proofs.Common.{◌≡◌, sym, ◌∙◌}
use Rattle.sqlite.specs.Held.{state}
use Rattle.reg_core.specs.Records.{certificate_in}
use Rattle.reg_core.specs.Serial.{IsSerial}
use Rattle.reg_core.specs.declared.rows.CertRow.{CertRow}
use Rattle.reg_core_laws.proofs.PublicLaws.{some_and_here}
use Rattle.reg_store_tables.proofs.PublicLaws.{ok_then, by_serial_text, by_serial_row}
use Rattle.reg_store_migration.proofs.record_reader.not_after_by_serial.Goals as goal

pub ask-requires : goal.ask-requires
ask-requires g c = by_serial_text.reading

pub returns-clause-asked : goal.returns-clause-asked
returns-clause-asked g c clean =
    let db = (state g.S.Store c.args.tx.now.conn.now).now in
    let asked = c.in_ok-found.ensures.asked clean in
    ok_then c.not_after_in.result c.not_after_in.ensures.read (λ end read. (
      asked.0,
      λ records shown.
          let reads = rw (c.params-to_sql.ensures, c.as_slice.ensures, c.bytes20.ensures.bytes) at (asked.1 shown.schema) in
          let one = (by_serial_row db records shown c.args.serial c.bytes20.ensures.in_range c.in_ok-found.found.items reads (λ row. IsSerial row.serial) shown.rows.certificate_serials).one read.0 (sym c.deref.ensures.value ∙ read.1) in
          some_and_here (λ (certificate : CertRow). certificate.not_after ≡ end) (certificate_in records.certificates c.args.serial) one.it (sym one.first) (sym (read.2 one.it one.holds one.shown)),
    ))
