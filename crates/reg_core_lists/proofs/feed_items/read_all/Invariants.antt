use Rattle.std.proofs.Common.{length}
use Rattle.reg_core_lists.specs.FeedReading.{ReadsFirst}
use Rattle.reg_core_lists.proofs.feed_items.read_all.Given as goal

abbrev pub invariant-loop-found : goal.invariant-loop-found
invariant-loop-found g l = ReadsFirst g.T.Leading.read l.items.items l.initial.rest l.rest

abbrev pub decreases-loop-found : goal.decreases-loop-found
decreases-loop-found g l = length l.rest
