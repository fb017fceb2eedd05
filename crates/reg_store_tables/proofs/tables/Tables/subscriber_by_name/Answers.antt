use Rattle.std.proofs.Common.{refl}
use Rattle.reg_core.specs.Label.{IsLabel}
use Rattle.reg_core.specs.Records.{subscriber_named}
use Rattle.reg_core.specs.declared.rows.SubscriberRow.{SubscriberRow}
use Rattle.reg_store_tables.proofs.Few.{all_both}
use Rattle.reg_store_tables.proofs.FailingLemmas.{written_shows}
use Rattle.reg_store_tables.proofs.LookingUp.{by_statement}
use Rattle.reg_store_tables.proofs.Queries.{all_of}
use Rattle.reg_store_tables.proofs.SubscriberLemmas.{by_name_text, by_name_row, by_name_few}
use Rattle.reg_store_tables.proofs.tables.Tables.subscriber_by_name.Goals as goal

pub returns : goal.returns
returns g c =
    let name = c.args.name.now in
    let any = all_of (λ (row : SubscriberRow). Unit {0}) (λ _. tt) in
    rw (← c.self.view_is) (by_statement (c.look_up.ensures.reads by_name_text.reading) (rw (c.as_bytes.ensures.bytes) refl) (by_name_text.asked name) (λ records. subscriber_named records.subscribers name)
    (λ records written clean rows answers.
    let shown = (written_shows g.S.Store _ records written).tables clean answers.is_open in
    let each = all_both (λ (row : SubscriberRow). Unit {0}) (λ (row : SubscriberRow). IsLabel row.name) records.subscribers (any records.subscribers) written.values.names in
    (by_name_row _ records shown name rows answers.reads (λ row. Unit {0} × IsLabel row.name) each, by_name_few _ records shown name rows answers.reads written.sound.subscribers.names_differ))
    (λ records shows clean rows answers. by_name_row _ records (shows.tables clean answers.is_open) name rows answers.reads (λ _. Unit {0}) (any records.subscribers)))
