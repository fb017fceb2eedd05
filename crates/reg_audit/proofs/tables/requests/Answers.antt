use Rattle.reg_audit.proofs.Showing.{requests_are}
use Rattle.reg_audit.proofs.tables.requests.Goals as goal

pub returns : goal.returns
returns c = record {
  read = λ records columns is.
      c.typed.ensures.read records.requests is.both.shown.rows.request_serials (requests_are records columns c.args.rows.now is);
  has = λ records columns is values.
      c.typed.ensures.has records.requests is.both.shown.rows.request_serials values.requests (requests_are records columns c.args.rows.now is);
}
