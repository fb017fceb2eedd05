use Rattle.reg_audit.proofs.Showing.{revocations_are}
use Rattle.reg_audit.proofs.tables.revocations.Goals as goal

pub returns : goal.returns
returns c = record {
  read = λ records columns is.
      c.typed.ensures.read records.revocations is.both.shown.rows.revocation_serials (revocations_are records columns c.args.rows.now is);
  has = λ records columns is values.
      c.typed.ensures.has records.revocations is.both.shown.rows.revocation_serials values.revocations (revocations_are records columns c.args.rows.now is);
}
