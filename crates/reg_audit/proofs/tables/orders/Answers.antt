use Rattle.reg_core.specs.declared.rows.OrderRow.{OrderRow}
use Rattle.reg_store_tables.proofs.PublicLaws.{all_of}
use Rattle.reg_audit.proofs.Showing.{orders_are}
use Rattle.reg_audit.proofs.tables.orders.Goals as goal

pub returns : goal.returns
returns c = record {
  read = λ records columns is.
      c.typed.ensures.read records.orders (all_of (λ (_ : OrderRow). Unit {0}) (λ _. tt) records.orders) (orders_are records columns c.args.rows.now is);
  has = λ records columns is values.
      let any = all_of (λ (_ : OrderRow). Unit {0}) (λ _. tt) records.orders in
      c.typed.ensures.has records.orders any any (orders_are records columns c.args.rows.now is);
}
