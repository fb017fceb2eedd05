use Rattle.reg_core.specs.declared.rows.SubscriberRow.{SubscriberRow}
use Rattle.reg_store_tables.proofs.PublicLaws.{all_of}
use Rattle.reg_audit.proofs.Showing.{subscribers_are}
use Rattle.reg_audit.proofs.tables.subscribers.Goals as goal

pub returns : goal.returns
returns c = record {
  read = λ records columns is.
      c.typed.ensures.read records.subscribers (all_of (λ (_ : SubscriberRow). Unit {0}) (λ _. tt) records.subscribers) (subscribers_are records columns c.args.rows.now is);
  has = λ records columns is values.
      c.typed.ensures.has records.subscribers (all_of (λ (_ : SubscriberRow). Unit {0}) (λ _. tt) records.subscribers) values.subscribers (subscribers_are records columns c.args.rows.now is);
}
