use Rattle.std.proofs.Common.{◌≡◌, take}
use Rattle.reg_core_lists.specs.Feed.{feed_rows_of}
use Rattle.reg_office.specs.Replays.{joined_rows}
use Rattle.reg_office.proofs.follow.joined.Given as goal

abbrev pub invariant-loop-page : goal.invariant-loop-page
invariant-loop-page l = feed_rows_of l.rows ≡ joined_rows (take l.page-index l.pages)
