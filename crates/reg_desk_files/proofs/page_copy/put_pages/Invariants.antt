use Rattle.std.proofs.Common.{◌≡◌, IsTrue}
use Rattle.std.specs.Io.KnownBytes.{Appends}
use Rattle.sqlite_pager.specs.Pager.{state, visible}
use Rattle.reg_desk_files.specs.Copied.{pages_in_order}
use Rattle.reg_desk_files.proofs.page_copy.put_pages.Given as goal

-- the pages before this one were put, and all are as they were
abbrev pub invariant-loop-before : goal.invariant-loop-before
invariant-loop-before g l =
    (visible l.pager ≡ visible l.initial.pager)
    × (IsTrue (state l.pager).is_clean
    → Appends (g.W.Write.contents l.initial.writer) (g.W.Write.contents l.writer) (pages_in_order (visible l.initial.pager) l.before))
