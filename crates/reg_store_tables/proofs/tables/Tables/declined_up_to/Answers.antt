use Rattle.std.proofs.Common.{length, refl, arith}
use Rattle.reg_core.specs.Sound.{SoundRows}
use Rattle.std.specs.List.{filter}
use Rattle.reg_store_tables.specs.declared.sizes.Table.TheVariants.{Requests}
use Rattle.reg_store_tables.proofs.EnteredLemmas.{is_declined_up_to, up_to_text, up_to_shown}
use Rattle.reg_store_tables.proofs.FailingLemmas.{written_shows}
use Rattle.reg_store_tables.proofs.LookingUp.{by_statement_if, not_asked}
use Rattle.reg_store_tables.proofs.Written.{rows_few}
use Rattle.reg_store_tables.proofs.tables.Tables.declined_up_to.Goals as goal

pub returns-in_err-key : goal.returns-in_err-key
returns-in_err-key g c = not_asked _ c.from_residual.ensures.0 (λ records below. let many = c.in_err-key.ensures.refused.1 in omega arith)

pub returns : goal.returns
returns g c =
    rw (← c.self.view_is) (by_statement_if (c.look_up_one.ensures.reads up_to_text.reading) (rw (c.params-to_sql.ensures, c.in_ok-key.ensures.value) refl) (up_to_text.asked c.args.last)
    (λ records. length (filter (is_declined_up_to c.args.last) records.requests))
    (λ records written clean rows answers.
    let shown = (written_shows g.S.Store _ records written).tables clean answers.is_open in
    ((tt, tt), up_to_shown _ records shown c.args.last rows answers.reads (rows_few records written.sound shown.rows.policy Requests)))
    SoundRows
    (λ records shows sound clean rows answers.
    let shown = shows.tables clean answers.is_open in
    (tt, up_to_shown _ records shown c.args.last rows answers.reads (rows_few records sound shown.rows.policy Requests))))
