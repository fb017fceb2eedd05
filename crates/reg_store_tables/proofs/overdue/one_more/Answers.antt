use Rattle.std.proofs.Common.{◌≤◌, ◌+◌, ◌^◌, length, sym, ◌∙◌, arith, rules}
use Rattle.reg_store_tables.proofs.OverdueLemmas.{report_counts}
use Rattle.reg_store_tables.proofs.overdue.one_more.Goals as goal

pub returns-in_err-ok_or-in-Some-clause-many : goal.returns-in_err-ok_or-in-Some-clause-many
returns-in_err-ok_or-in-Some-clause-many c requests is =
    let counted = report_counts requests c.in-Some.report (sym c.in-Some.is ∙ is) in
    let past : 2 ^ 64 ≤ c.in-Some.report.count + 1 = search rules in
    let many : 2 ^ 64 ≤ length requests + 1 = omega arith in
    search rules
