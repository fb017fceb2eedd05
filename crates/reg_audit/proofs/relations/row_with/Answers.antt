use Rattle.std.proofs.Common.{◌≡◌, ◌==◌, ◌+◌, ◌<◌, ◌≤◌, find, None, length, sym, ap, ◌∙◌, arith, rules}
use Rattle.std.proofs.lemmas.Option.{slice_get_past, slice_get_read}
use Rattle.reg_audit.proofs.Fits.{with_number, none_at_zero}
use Rattle.reg_audit.proofs.relations.row_with.Goals as goal

pub returns-in_err-row_index : goal.returns-in_err-row_index
returns-in_err-row_index g c numbered =
    let zero : c.args.number ≡ 0 = search rules in
    let none : find (λ row. g.T.Numbered.number row == c.args.number) c.args.rows.now ≡ None = ap (λ n. find (λ row. g.T.Numbered.number row == n) c.args.rows.now) zero ∙ none_at_zero g.T.Numbered.number 1 c.args.rows.now (omega arith) numbered in
    search rules

pub returns-in-Some : goal.returns-in-Some
returns-in-Some g c numbered =
    let next : c.args.number ≡ c.in_ok-row_index.row_index + 1 = search rules in
    let within : c.in_ok-row_index.row_index < length c.args.rows.now = c.in-Some.ensures.lookup.3.0 in
    sym (with_number g.T.Numbered.number c.args.number c.in_ok-row_index.row_index c.args.rows.now numbered next ∙ slice_get_read c.args.rows.now (length c.args.rows.now) c.in_ok-row_index.row_index _ (λ i. length c.args.rows.now) within c.in-Some.ensures.lookup.1)

pub returns-in-None : goal.returns-in-None
returns-in-None g c numbered =
    let next : c.args.number ≡ c.in_ok-row_index.row_index + 1 = search rules in
    let past : length c.args.rows.now ≤ c.in_ok-row_index.row_index = c.in-None.ensures.lookup.3 in
    sym (with_number g.T.Numbered.number c.args.number c.in_ok-row_index.row_index c.args.rows.now numbered next ∙ slice_get_past c.args.rows.now c.in_ok-row_index.row_index past)
