use Rattle.std.proofs.Common.{refl, arith}
use Rattle.reg_core.specs.Records.{Records}
use Rattle.reg_store_tables.proofs.FailingLemmas.{written_shows}
use Rattle.reg_store_tables.proofs.Few.{all_both}
use Rattle.reg_store_tables.proofs.LookingUp.{by_statement, not_asked}
use Rattle.reg_store_tables.proofs.read_statements.look_up_page.Goals as goal

pub returns-in_err-limit : goal.returns-in_err-limit
returns-in_err-limit g c page is = not_asked _ c.from_residual.ensures.0 (λ records below. let most = below.1 in let many = c.in_err-limit.ensures.refused.1 in omega arith)

pub returns-in_err-key : goal.returns-in_err-key
returns-in_err-key g c page is = not_asked _ c.from_residual-in_err-key.ensures.0 (λ records below. let after = below.0 in let many = c.in_err-key.ensures.refused.1 in omega arith)

pub returns : goal.returns
returns g c page is =
    let wanted = λ (records : Records). page records c.args.after c.args.most in
    by_statement (c.look_up_all.ensures.reads is.reading) (rw (c.params-to_sql.ensures, c.params-to_sql-2.ensures, c.in_ok-key.ensures.value, c.in_ok-limit.ensures.value) refl) (is.asked c.args.after c.args.most) wanted
    (λ records written clean rows answers.
    let shown = (written_shows g.S.Store _ records written).tables clean answers.is_open in (
      all_both g.T.RowKind.has_valid_serial g.T.RowKind.has_values (wanted records) (is.serials records _ shown c.args.after c.args.most) (is.values records written.sound written.values c.args.after c.args.most),
      is.rows records _ shown c.args.after c.args.most rows answers.reads,
    ))
    (λ records shows clean rows answers.
    let shown = shows.tables clean answers.is_open in
    (is.serials records _ shown c.args.after c.args.most, is.rows records _ shown c.args.after c.args.most rows answers.reads))
