use Rattle.std.proofs.Common.{◌≡◌, ◌++◌, take}
use Rattle.std.specs.List.{flat_map}
use Rattle.reg_core_lists.specs.FeedLines.{declined_line}
use Rattle.reg_core_lists.proofs.feed_lines.put_declined.Given as goal

abbrev pub invariant-loop-id : goal.invariant-loop-id
invariant-loop-id l = l.out.items ≡ l.initial.out.items ++ flat_map declined_line (take l.id-index l.ids)
