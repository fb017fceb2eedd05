use Rattle.reg_audit.proofs.Showing.{counts_is}
use Rattle.reg_audit.proofs.tables.counts.Goals as goal

pub returns : goal.returns
returns c = record {
  read = λ records columns is.
      c.only.ensures.read columns.counts tt (counts_is records columns c.args.rows.now is);
  has = λ records columns is values. c.only.ensures.has columns.counts tt tt (counts_is records columns c.args.rows.now is);
}
