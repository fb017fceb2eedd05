use Rattle.std.proofs.Common.{◌∙◌, ap, unwrap_or, rules, refl}
use Rattle.reg_store_tables.specs.Tables.{rows_of}
use Rattle.reg_store_tables.proofs.FailingLemmas.{written_shows}
use Rattle.reg_store_tables.proofs.HeldLemmas.{last_text, last_of, last_is, last_row}
use Rattle.reg_store_tables.proofs.LookingUp.{by_statement, finds_ok, passed_on}
use Rattle.reg_store_tables.proofs.sizes.held.Goals as goal

pub returns-in_err-last-clause-finds : goal.returns-in_err-last-clause-finds
returns-in_err-last-clause-finds g c =
    passed_on _ _ (search rules) (λ records written may. may) (by_statement ((rw c.last_row_sql.ensures at c.in_err-last.ensures.reads) (last_text c.args.table).reading) refl ((last_text c.args.table).asked tt)
    (λ records. last_of (rows_of records c.args.table))
    (λ records written clean rows answers.
    last_row (λ _. Unit {0} × Unit {0}) (λ _. (tt, tt)) _ records ((written_shows g.S.Store _ records written).tables clean answers.is_open) c.args.table rows answers.reads)
    (λ records shows clean rows answers. (last_row (λ _. Unit {0}) (λ _. tt) _ records (shows.tables clean answers.is_open) c.args.table rows answers.reads).0))

pub returns-clause-finds : goal.returns-clause-finds
returns-clause-finds g c =
    finds_ok {Might = λ _. Unit {0}} (by_statement ((rw c.last_row_sql.ensures at c.in_ok-last.ensures.reads) (last_text c.args.table).reading) refl ((last_text c.args.table).asked tt)
    (λ records. last_of (rows_of records c.args.table))
    (λ records written clean rows answers.
    last_row (λ _. Unit {0} × Unit {0}) (λ _. (tt, tt)) _ records ((written_shows g.S.Store _ records written).tables clean answers.is_open) c.args.table rows answers.reads)
    (λ records shows clean rows answers. (last_row (λ _. Unit {0}) (λ _. tt) _ records (shows.tables clean answers.is_open) c.args.table rows answers.reads).0))
    (λ records shows last. c.unwrap_or.ensures ∙ ap (λ it. unwrap_or it 0) last ∙ last_is (rows_of records c.args.table))

pub returns-clause-live : goal.returns-clause-live
returns-clause-live g c register clean = ((rw c.last_row_sql.ensures at c.in_ok-last.ensures.reads) (last_text c.args.table).reading).live register clean
