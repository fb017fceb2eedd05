use Rattle.std.proofs.Common.{Bor, List, ℕ, Some, inl, ◌∙◌}
use Rattle.reg_lines.proofs.RowLineTexts.{writing_all, writing_more, writing_start}
use Rattle.reg_lines.proofs.row_lines.put_each.Goals as goal

pub loop-index-init : goal.loop-index-init
loop-index-init c = record {
  untrimmed = c.requires.at_start.untrimmed;
  ready = c.requires.at_start.ready;
  config = c.requires.at_start.config;
  going = λ text reads. writing_start text _ _ _ reads c.requires.at_start.state c.requires.empty;
}

pub returns-in-Ok-false : goal.returns-in-Ok-false
returns-in-Ok-false c = λ text reads.
    let so_far = c.loop-index.invariant in
    let read = rw c.in-Ok-false.field-0-test at (c.in-Ok-false.ensures.reads so_far.untrimmed so_far.ready) in
    writing_all text (λ (s : Bor (List ℕ)). Some s.now) c.loop-index.rows c.read_byte_record.new.self _ _ c.loop-index.index
    (so_far.going text reads) so_far.config read

pub loop-index-preserved : goal.loop-index-preserved
loop-index-preserved c =
    let so_far = c.loop-index.invariant in
    let read = rw c.in-Ok-true.field-0-test at (c.in-Ok-true.ensures.reads so_far.untrimmed so_far.ready) in
    record {
      untrimmed = read.3 ∙ so_far.untrimmed;
      ready = inl (c.in-Ok-true.ensures.ready so_far.untrimmed);
      config = read.2 ∙ so_far.config;
      going = λ text reads.
          writing_more text (λ (s : Bor (List ℕ)). Some s.now) c.loop-index.rows c.read_byte_record.new.self _ _ c.loop-index.index
          _ (so_far.going text reads) so_far.config read c.in-Ok.ensures;
    }
