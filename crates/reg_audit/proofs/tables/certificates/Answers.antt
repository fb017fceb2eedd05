use Rattle.reg_audit.proofs.Showing.{certificates_are}
use Rattle.reg_audit.proofs.tables.certificates.Goals as goal

pub returns : goal.returns
returns c = record {
  read = λ records columns is.
      c.typed.ensures.read records.certificates is.both.shown.rows.certificate_serials (certificates_are records columns c.args.rows.now is);
  has = λ records columns is values.
      c.typed.ensures.has records.certificates is.both.shown.rows.certificate_serials values.certificates (certificates_are records columns c.args.rows.now is);
}
