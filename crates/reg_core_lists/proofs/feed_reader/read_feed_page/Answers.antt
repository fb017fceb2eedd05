use Rattle.reg_core_lists.specs.Feed.{page_parts_text}
use Rattle.reg_core_lists.proofs.LinesRead.{this_version}
use Rattle.reg_core_lists.proofs.feed_reader.read_feed_page.Goals as goal

pub returns-then-is_other_version-clause-only : goal.returns-then-is_other_version-clause-only
returns-then-is_other_version-clause-only c it ok is =
    cc (c.if-is_other_version.true, c.is_other_version.ensures, this_version it.head (page_parts_text it.parts it.digest))
