use Rattle.std.proofs.Common.{◌<◌, option_map, refl}
use Rattle.reg_core.specs.Calendar.{clock_end}
use Rattle.reg_core.specs.Crls.{latest, row_of}
use Rattle.reg_core.specs.Records.{Crl}
use Rattle.reg_core.specs.declared.rows.CrlRow.{CrlRow}
use Rattle.reg_store_tables.proofs.CrlLemmas.{latest_text, latest_row, latest_few}
use Rattle.reg_store_tables.proofs.FailingLemmas.{written_shows}
use Rattle.reg_store_tables.proofs.LookingUp.{by_statement}
use Rattle.reg_store_tables.proofs.Queries.{all_of}
use Rattle.reg_store_tables.proofs.Written.{updated_early}
use Rattle.reg_store_tables.proofs.tables.Tables.latest_crl.Goals as goal

pub returns : goal.returns
returns g c =
    rw (← c.self.view_is) (by_statement (c.look_up.ensures.reads latest_text.reading) refl (latest_text.asked tt) (λ records. option_map row_of (latest records.crls))
    (λ records written clean rows answers.
    let shown = (written_shows g.S.Store _ records written).tables clean answers.is_open in (
      latest_row _ records shown rows answers.reads (λ crl. crl.this_update < clock_end) (λ (crl : CrlRow). Unit {0} × (crl.this_update < clock_end)) (λ crl early. (tt, early)) (updated_early records written.sound),
      latest_few _ records shown rows answers.reads,
    ))
    (λ records shows clean rows answers.
    latest_row _ records (shows.tables clean answers.is_open) rows answers.reads (λ _. Unit {0}) (λ (crl : CrlRow). Unit {0}) (λ crl any. tt) (all_of (λ (crl : Crl). Unit {0}) (λ _. tt) records.crls)))
