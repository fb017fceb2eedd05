use Rattle.std.proofs.Common.{◌≡◌, Some, sym, subst}
use Rattle.reg_core_lists.specs.FeedReading.{ReadsFirst}
use Rattle.reg_core_lists.proofs.RowsRead.{reads_more}
use Rattle.reg_core_lists.proofs.feed_items.read_all.Goals as goal

pub loop-found-preserved : goal.loop-found-preserved
loop-found-preserved g c =
    let is : g.T.Leading.read c.loop-found.rest.now ≡ Some (c.in-Some.found.0, c.in-Some.found.1.now) = sym c.in-Some.ensures.value in
    subst (λ items. ReadsFirst g.T.Leading.read items c.args.text.now c.in-Some.found.1.now) (sym c.in_ok-push.ensures.items)
    (reads_more g.T.Leading.read c.loop-found.items.items c.args.text.now c.loop-found.rest.now c.in-Some.found.0 c.in-Some.found.1.now
    c.loop-found.invariant is)
