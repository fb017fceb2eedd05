use Rattle.std.proofs.Common.{Bor, List, ℕ, Some, inl, ◌∙◌}
use Rattle.reg_lines.specs.ByCalls.{LineCalls}
use Rattle.reg_lines.proofs.RowLemmas.{going_start, going_more, one_cut, one_refused, all_ran, first_ran}
use Rattle.reg_lines.proofs.rows.run_each.Goals as goal

pub loop-index-init : goal.loop-index-init
loop-index-init g c = record {
  untrimmed = c.requires.untrimmed;
  ready = c.requires.ready;
  config = c.requires.config;
  going = λ text reads. going_start (LineCalls g.O.Office) c.args.is_strict c.args.now _ _ text _ _ reads c.requires.state;
}

pub returns-in-Err-take_row : goal.returns-in-Err-take_row
returns-in-Err-take_row g c = λ text reads.
    let so_far = c.loop-index.invariant in
    let read = rw c.in-Ok-true.field-0-test at (c.in-Ok-true.ensures.reads so_far.untrimmed so_far.ready) in
    one_cut (LineCalls g.O.Office) c.args.is_strict c.args.now _ _ _ g.W.Sink.failed _ _ _ text (λ (s : Bor (List ℕ)). Some s.now) c.loop-index.rows c.read_byte_record.new.self _ c.loop-index.index
    c.in-Err-take_row.field-0 (so_far.going text reads) so_far.config read c.in-Err-take_row.ensures.took c.in-Err-take_row.ensures.fails

pub returns-in-Ok-Refused : goal.returns-in-Ok-Refused
returns-in-Ok-Refused g c = λ text reads.
    let so_far = c.loop-index.invariant in
    let read = rw c.in-Ok-true.field-0-test at (c.in-Ok-true.ensures.reads so_far.untrimmed so_far.ready) in
    one_refused (LineCalls g.O.Office) c.args.is_strict c.args.now _ _ c.take_row.new.office g.W.Sink.failed _ _ _ text (λ (s : Bor (List ℕ)). Some s.now) c.loop-index.rows c.read_byte_record.new.self _ c.loop-index.index
    c.in-Ok-Refused.refused (so_far.going text reads) so_far.config read (rw c.in-Ok-Refused.field-0-is at c.in-Ok-Refused.ensures.took)

pub returns-in-Ok-false : goal.returns-in-Ok-false
returns-in-Ok-false g c = λ text reads.
    let so_far = c.loop-index.invariant in
    let read = rw c.in-Ok-false.field-0-test at (c.in-Ok-false.ensures.reads so_far.untrimmed so_far.ready) in
    all_ran (LineCalls g.O.Office) c.args.is_strict c.args.now _ _ c.loop-index.office g.W.Sink.failed _ _ (g.W.Write.contents c.loop-index.writer) text (λ (s : Bor (List ℕ)). Some s.now) c.loop-index.rows c.read_byte_record.new.self _ c.loop-index.index
    (so_far.going text reads) so_far.config read

pub returns-in-Err : goal.returns-in-Err
returns-in-Err g c = λ text reads.
    first_ran (LineCalls g.O.Office) c.args.is_strict c.args.now _ _ g.W.Sink.failed _ _ text _ _ _ (c.loop-index.invariant.going text reads)

pub returns : goal.returns
returns g c = λ text reads.
    first_ran (LineCalls g.O.Office) c.args.is_strict c.args.now _ _ g.W.Sink.failed _ _ text _ _ _ (c.loop-index.invariant.going text reads)

pub loop-index-preserved : goal.loop-index-preserved
loop-index-preserved g c =
    let so_far = c.loop-index.invariant in
    let read = rw c.in-Ok-true.field-0-test at (c.in-Ok-true.ensures.reads so_far.untrimmed so_far.ready) in
    record {
      untrimmed = read.3 ∙ so_far.untrimmed;
      ready = inl (c.in-Ok-true.ensures.ready so_far.untrimmed);
      config = read.2 ∙ so_far.config;
      going = λ text reads.
          going_more (LineCalls g.O.Office) c.args.is_strict c.args.now _ _ _ g.W.Sink.failed _ _ _ text (λ (s : Bor (List ℕ)). Some s.now) c.loop-index.rows c.read_byte_record.new.self _ c.loop-index.index
          (so_far.going text reads) so_far.config read (rw c.in-Ok-On.field-0-is at c.in-Ok-On.ensures.took);
    }
