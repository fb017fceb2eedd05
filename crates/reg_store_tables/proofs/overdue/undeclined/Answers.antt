use Rattle.std.specs.List.{filter}
use Rattle.std.proofs.Common.{◌<◌, refl}
use Rattle.reg_core.specs.Calendar.{clock_end}
use Rattle.reg_core.specs.Serial.{IsSerial}
use Rattle.reg_core.specs.declared.rows.RequestRow.{RequestRow}
use Rattle.reg_store_tables.proofs.Few.{all_both}
use Rattle.reg_store_tables.proofs.FailingLemmas.{written_shows}
use Rattle.reg_store_tables.proofs.LookingUp.{by_statement}
use Rattle.reg_store_tables.proofs.OverdueLemmas.{undeclined_text, undeclined, undeclined_are, undeclined_serials}
use Rattle.reg_store_tables.proofs.Queries.{kept_have}
use Rattle.reg_store_tables.proofs.Written.{received_early}
use Rattle.reg_store_tables.proofs.overdue.undeclined.Goals as goal

pub returns : goal.returns
returns g c =
    by_statement (c.look_up_all.ensures.reads undeclined_text.reading) refl (undeclined_text.asked tt) (λ records. filter undeclined records.requests)
    (λ records written clean rows answers.
    let shown = (written_shows g.S.Store _ records written).tables clean answers.is_open in
    let early = kept_have (λ (row : RequestRow). row.received < clock_end) undeclined records.requests (received_early records written.sound) in (
      all_both (λ (row : RequestRow). IsSerial row.serial) (λ (row : RequestRow). row.received < clock_end) (filter undeclined records.requests) (undeclined_serials _ records shown rows answers.reads) early,
      undeclined_are _ records shown rows answers.reads,
    ))
    (λ records shows clean rows answers.
    let shown = shows.tables clean answers.is_open in
    (undeclined_serials _ records shown rows answers.reads, undeclined_are _ records shown rows answers.reads))
