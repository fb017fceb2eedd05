use Rattle.std.proofs.Common.{◌≡◌, ◌<◌, refl, arith}
use Rattle.reg_core.specs.Calendar.{clock_end}
use Rattle.reg_core.specs.Records.{request_in}
use Rattle.reg_core.specs.Serial.{IsSerial}
use Rattle.reg_core.specs.declared.rows.RequestRow.{RequestRow}
use Rattle.reg_store_tables.specs.Rows.{number}
use Rattle.reg_store_tables.proofs.Few.{all_both}
use Rattle.reg_store_tables.proofs.FailingLemmas.{none_made, written_shows}
use Rattle.reg_store_tables.proofs.Greatest.{none_above_range}
use Rattle.reg_store_tables.proofs.LookingUp.{by_statement, past_rows}
use Rattle.reg_store_tables.proofs.RequestLemmas.{by_id_text, by_id_row, by_id_few}
use Rattle.reg_store_tables.proofs.Written.{received_early}
use Rattle.reg_store_tables.specs.declared.sizes.Table.TheVariants.{Requests}
use Rattle.reg_store_tables.proofs.tables.Tables.request.Goals as goal

pub returns-in_default : goal.returns-in_default
returns-in_default g c =
    rw (← c.self.view_is) (past_rows Requests (none_made _ c.sql_key.result c.in_default.not-Some c.sql_key.ensures.value) c.none_above_range.ensures (λ records. request_in records.requests c.args.id)
    (λ records shown past. none_above_range (λ (row : RequestRow). row.id) 1 c.args.id records.requests shown.rows.requests_numbered (omega arith)))

pub returns : goal.returns
returns g c =
    let value : c.in-Some.value ≡ number c.args.id = (rw c.in-Some.is at c.sql_key.ensures.value).1 in
    rw (← c.self.view_is) (by_statement (c.look_up.ensures.reads by_id_text.reading) (rw (c.params-to_sql.ensures, value) refl) (by_id_text.asked c.args.id) (λ records. request_in records.requests c.args.id)
    (λ records written clean rows answers.
    let shown = (written_shows g.S.Store _ records written).tables clean answers.is_open in
    let each = all_both (λ (row : RequestRow). IsSerial row.serial) (λ (row : RequestRow). row.received < clock_end) records.requests shown.rows.request_serials (received_early records written.sound) in
    (by_id_row _ records shown c.args.id rows answers.reads (λ row. IsSerial row.serial × (row.received < clock_end)) each, by_id_few _ records shown c.args.id rows answers.reads))
    (λ records shows clean rows answers.
    let shown = shows.tables clean answers.is_open in
    by_id_row _ records shown c.args.id rows answers.reads (λ row. IsSerial row.serial) shown.rows.request_serials))
