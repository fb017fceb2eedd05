use Rattle.std.proofs.Common.{◌≡◌, ℕ, List, ◌++◌, sym, ap, ◌∙◌}
use Rattle.std.proofs.lemmas.List.{append_cancel_left}
use Rattle.reg_core_lists.specs.Feed.{feed_rows_of, feed_rows_text}
use Rattle.reg_core_lists.proofs.PartsRead.{written_is}
use Rattle.reg_core_lists.proofs.RowsRead.{same_rows}
use Rattle.reg_core_lists.proofs.feed_reader.read_rows.Goals as goal

pub returns-in-Some-clause-only : goal.returns-in-Some-clause-only
returns-in-Some-clause-only c rows rest ok none is =
    let same = same_rows rows (feed_rows_of c.in_ok-rows.rows) c.args.text.now rest ok none is c.in_ok-rows.ensures in
    let written : c.deref.result.now ≡ feed_rows_text rows =
    written_is _ _ _ _ c.deref.ensures.value c.in_ok-put.ensures c.new-written.ensures.items ∙ ap feed_rows_text same in
    let whole : feed_rows_text rows ++ c.in-Some.rest.now ≡ feed_rows_text rows ++ rest =
    ap (λ (text : List ℕ). text ++ c.in-Some.rest.now) (sym written) ∙ sym c.in-Some.ensures.text ∙ is in
    (same, append_cancel_left (feed_rows_text rows) c.in-Some.rest.now rest whole)

pub returns-clause-only : goal.returns-clause-only
returns-clause-only c rows rest ok none is =
    let same = same_rows rows (feed_rows_of c.in_ok-rows.rows) c.args.text.now rest ok none is c.in_ok-rows.ensures in
    let written : c.deref.result.now ≡ feed_rows_text rows =
    written_is _ _ _ _ c.deref.ensures.value c.in_ok-put.ensures c.new-written.ensures.items ∙ ap feed_rows_text same in
    c.in-None.ensures.text rest (is ∙ sym (ap (λ (text : List ℕ). text ++ rest) written))
