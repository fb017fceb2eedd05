use Rattle.std.proofs.Common.{◌≡◌, length, refl, arith, rules, ◌∙◌}
use Rattle.reg_store_tables.proofs.LookingUp.{by_rows, not_asked, unasked}
use Rattle.reg_store_tables.proofs.WaitingLemmas.{waiting_text, waiting_rows}
use Rattle.reg_store_tables.proofs.overdue.count_undeclined.Goals as goal

pub returns-in_err-limit : goal.returns-in_err-limit
returns-in_err-limit g c = not_asked _ c.from_residual.ensures.0 (λ records below. let many = c.in_err-limit.ensures.refused.1 in omega arith)

pub returns-in_err-newest : goal.returns-in_err-newest
returns-in_err-newest g c =
    unasked _ _ (search rules) (c.in_err-newest.ensures.reads waiting_text.reading) (rw (c.params-to_sql.ensures, c.params-to_sql-2.ensures, c.as_slice.ensures, c.bytes20.ensures.bytes, c.in_ok-limit.ensures.value) refl)
    (waiting_text.asked (c.args.serial, c.args.most))

pub returns : goal.returns
returns g c =
    let rows = c.in_ok-newest.newest.items in
    let long : c.len.result ≡ length rows = omega (arith, c.len.ensures, c.in_ok-newest.newest.ok) in
    by_rows (c.in_ok-newest.ensures.reads waiting_text.reading) (rw (c.params-to_sql.ensures, c.params-to_sql-2.ensures, c.as_slice.ensures, c.bytes20.ensures.bytes, c.in_ok-limit.ensures.value) refl) _
    (λ records shows clean answers.
    long ∙ waiting_rows _ records (shows.tables clean answers.is_open) c.args.serial c.args.most c.bytes20.ensures.in_range rows answers.reads)
    (λ records may written clean answers. tt)
