use Rattle.std.proofs.Common.{◌≡◌, Bool, Some, sym, ap, ◌∙◌}
use Rattle.std.proofs.lemmas.Slice.Eq.{bytes_eq-Decides}
use Rattle.reg_core_lists.specs.Feed.{last_line}
use Rattle.reg_core_lists.specs.FeedReading.{last_line_read}
use Rattle.reg_core_lists.specs.declared.positions.Positions.{Positions}
use Rattle.reg_core_lists.proofs.LinesRead.{last_line_found}
use Rattle.reg_core_lists.proofs.PartsRead.{none_some, some_same, written_is}
use Rattle.reg_core_lists.proofs.feed_reader.read_end.Goals as goal

pub returns-in-None-clause-only : goal.returns-in-None-clause-only
returns-in-None-clause-only c ends positions ok is =
    none_some (ends, positions) (c.in-None.ensures ∙ ap last_line_read is ∙ last_line_found ends positions ok)

pub returns-then-eq-clause-only : goal.returns-then-eq-clause-only
returns-then-eq-clause-only c ends positions ok is =
    let read : Some c.in-Some.read ≡ Some (ends, positions) = c.in-Some.ensures ∙ ap last_line_read is ∙ last_line_found ends positions ok in
    let both : c.in-Some.read ≡ (ends, positions) = some_same _ _ read in
    (ap (λ (it : Bool × Positions). it.0) both, ap (λ (it : Bool × Positions). it.1) both)

pub returns-clause-only : goal.returns-clause-only
returns-clause-only c ends positions ok is =
    let read : Some c.in-Some.read ≡ Some (ends, positions) = c.in-Some.ensures ∙ ap last_line_read is ∙ last_line_found ends positions ok in
    let both : c.in-Some.read ≡ (ends, positions) = some_same _ _ read in
    let line : c.as_slice.result.now ≡ last_line c.in-Some.read.0 c.in-Some.read.1 =
    written_is _ _ _ _ c.as_slice.ensures.value c.in_ok-put_last_line.ensures c.new-line.ensures.items in
    let same : c.args.text.now ≡ c.as_slice.result.now = is ∙ sym (ap (λ (it : Bool × Positions). last_line it.0 it.1) both) ∙ sym line in
    let equal = (bytes_eq-Decides c.args.text.now c.as_slice.result.now).1 same in
    cc (equal, c.eq.ensures, c.if-eq.false)
