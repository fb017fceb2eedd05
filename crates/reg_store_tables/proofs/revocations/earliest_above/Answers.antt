use Rattle.std.specs.Prelude.{nat_lt}
use Rattle.std.specs.List.{filter}
use Rattle.std.proofs.Common.{◌<◌, refl, arith}
use Rattle.reg_core.specs.Calendar.{clock_end}
use Rattle.reg_core.specs.Due.{earliest}
use Rattle.reg_core.specs.declared.rows.RevocationRow.{RevocationRow}
use Rattle.reg_store_tables.proofs.Few.{all_both}
use Rattle.reg_store_tables.proofs.FailingLemmas.{written_shows}
use Rattle.reg_store_tables.proofs.LookingUp.{by_statement, not_asked, with_open}
use Rattle.reg_store_tables.proofs.Queries.{all_of}
use Rattle.reg_store_tables.proofs.UnlistedLemmas.{above_text, above_row, above_few}
use Rattle.reg_store_tables.proofs.Written.{revoked_early}
use Rattle.reg_store_tables.proofs.revocations.earliest_above.Goals as goal

pub returns-in_err-value : goal.returns-in_err-value
returns-in_err-value g c = not_asked _ c.from_residual.ensures.0 (λ records below. let many = c.in_err-value.ensures.refused.1 in omega arith)

pub returns : goal.returns
returns g c =
    let reads = c.look_up.ensures.reads above_text.reading in
    let any = all_of (λ (row : RevocationRow). Unit {0}) (λ _. tt) in
    with_open reads (by_statement reads (rw (c.params-to_sql.ensures, c.in_ok-value.ensures.value) refl) (above_text.asked c.args.number) (λ records. earliest (filter (λ (row : RevocationRow). nat_lt c.args.number row.first) records.revocations))
    (λ records written clean rows answers.
    let shown = (written_shows g.S.Store _ records written).tables clean answers.is_open in
    let each = all_both (λ (row : RevocationRow). Unit {0}) (λ (row : RevocationRow). row.at < clock_end) records.revocations (any records.revocations) (revoked_early records written.sound) in
    (above_row _ records shown c.args.number rows answers.reads (λ at. Unit {0} × (at < clock_end)) each, above_few _ records shown c.args.number rows answers.reads))
    (λ records shows clean rows answers. above_row _ records (shows.tables clean answers.is_open) c.args.number rows answers.reads (λ _. Unit {0}) (any records.revocations)))
