use Rattle.std.proofs.Common.{ap}
use Rattle.reg_store_tables.proofs.PublicLaws.{ok_then}
use Rattle.reg_audit.specs.declared.typed.OfficeRow.{OfficeRow}
use Rattle.reg_audit.proofs.Showing.{office_is}
use Rattle.reg_audit.proofs.tables.office.Goals as goal

pub returns : goal.returns
returns c = record {
  read = λ records columns is.
      let wanted : OfficeRow = record { cap = records.policy.cap; last = records.last } in
      ok_then c.only.result (c.only.ensures.read wanted tt (office_is records columns c.args.rows.now is)) (λ found same. (ap (λ (o : OfficeRow). o.cap) same, ap (λ (o : OfficeRow). o.last) same));
  has = λ records columns is values.
      let wanted : OfficeRow = record { cap = records.policy.cap; last = records.last } in
      c.only.ensures.has wanted tt values.office (office_is records columns c.args.rows.now is);
}
