use Rattle.std.proofs.Common.{◌≤◌, Ok, Err, length, sym, ◌∙◌, arith}
use Rattle.std.proofs.lemmas.Bool.{eqb-false, eqb-true}
use Rattle.reg_desk_cli.specs.declared.failure.Failure.TheVariants.{LacksPublished}
use Rattle.reg_desk_jobs.proofs.Comparing.{compares, compares_fault, reports_all, reports_front, reports_none}
use Rattle.reg_desk_jobs.proofs.published.check_published.Goals as goal

pub returns-in_err-bytes-clause-compares : goal.returns-in_err-bytes-clause-compares
returns-in_err-bytes-clause-compares g c =
    compares_fault g.O.Office.is_clean g.O.Office.stands (g.R.Read.remaining c.args.reader.now) (g.W.Write.contents c.args.writer.now) _
    c.from_residual.result c.args.office.now c.from_residual.ensures.1

pub returns-then-is_empty-clause-compares : goal.returns-then-is_empty-clause-compares
returns-then-is_empty-clause-compares g c =
    let lines = c.in_ok-lines.lines.items in
    let none = sym c.in_ok-lines.lines.ok.0 ∙ eqb-true c.in_ok-lines.lines.len 0 (sym c.is_empty.ensures ∙ c.if-is_empty.true) in
    compares g.O.Office.is_clean g.O.Office.stands (g.R.Read.remaining c.args.reader.now) _ _ c.in_ok-bytes.bytes.items (Ok lines) (Ok tt) _ _
    c.in_ok-bytes.ensures (reports_none (g.W.Write.contents c.args.writer.now) lines none) (rw c.deref.ensures.value at c.in_ok-lines.ensures)

pub returns-in_err-print_text-clause-compares : goal.returns-in_err-print_text-clause-compares
returns-in_err-print_text-clause-compares g c =
    let lines = c.in_ok-lines.lines.items in
    let some : 1 ≤ length lines = let ne = eqb-false c.in_ok-lines.lines.len 0 (sym c.is_empty.ensures ∙ c.if-is_empty.false) in omega (arith, ne, c.in_ok-lines.lines.ok.0) in
    compares g.O.Office.is_clean g.O.Office.stands (g.R.Read.remaining c.args.reader.now) _ _ c.in_ok-bytes.bytes.items (Ok lines)
    c.from_residual-in_err-print_text.result _ _ c.in_ok-bytes.ensures
    (reports_front (g.W.Write.contents c.args.writer.now) (g.W.Write.contents c.print_text.new.writer) lines _ c.from_residual-in_err-print_text.result some
    c.from_residual-in_err-print_text.ensures.1 (rw c.deref-2.ensures.value at c.in_err-print_text.ensures.prints))
    (rw c.deref.ensures.value at c.in_ok-lines.ensures)

pub returns-clause-compares : goal.returns-clause-compares
returns-clause-compares g c =
    let lines = c.in_ok-lines.lines.items in
    let some : 1 ≤ length lines = let ne = eqb-false c.in_ok-lines.lines.len 0 (sym c.is_empty.ensures ∙ c.if-is_empty.false) in omega (arith, ne, c.in_ok-lines.lines.ok.0) in
    compares g.O.Office.is_clean g.O.Office.stands (g.R.Read.remaining c.args.reader.now) _ _ c.in_ok-bytes.bytes.items (Ok lines) (Err LacksPublished) _ _
    c.in_ok-bytes.ensures
    (reports_all (g.W.Write.contents c.args.writer.now) (g.W.Write.contents c.print_text.new.writer) lines some (rw c.deref-2.ensures.value at c.in_ok-print_text.ensures.prints))
    (rw c.deref.ensures.value at c.in_ok-lines.ensures)
