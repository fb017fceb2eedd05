use Rattle.sqlite_disk.specs.Disk.{Cut}
use Rattle.reg_desk_files.proofs.Overlaying.{cut_follows, kept_as}
use Rattle.reg_desk_files.proofs.overlay.OverlayDisk.set_len.Goals as goal

pub returns-in-None-clause-others : goal.returns-in-None-clause-others
returns-in-None-clause-others g c =
    kept_as g.F.ReadAt.bytes c.args.self.now.below c.in-None.is (Cut c.args.len) _ c.resize.new.kept.items c.resize.ensures.others

pub returns-in-None-clause-crash : goal.returns-in-None-clause-crash
returns-in-None-clause-crash g c =
    cut_follows _ _ _ (kept_as g.F.ReadAt.bytes c.args.self.now.below c.in-None.is (Cut c.args.len) _ c.resize.new.kept.items c.resize.ensures.others)
