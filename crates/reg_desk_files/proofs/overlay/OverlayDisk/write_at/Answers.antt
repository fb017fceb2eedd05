use Rattle.std.proofs.Common.{length}
use Rattle.sqlite_disk.specs.Disk.{Torn}
use Rattle.reg_desk_files.proofs.Overlaying.{kept_as, torn_follows}
use Rattle.reg_desk_files.proofs.overlay.OverlayDisk.write_at.Goals as goal

pub returns-in-None-clause-others : goal.returns-in-None-clause-others
returns-in-None-clause-others g c =
    kept_as g.F.ReadAt.bytes c.args.self.now.below c.in-None.is (Torn c.args.at (length c.args.bytes.now)) _ c.overwrite.new.kept.items c.overwrite.ensures.others

pub returns-in-None-clause-crash : goal.returns-in-None-clause-crash
returns-in-None-clause-crash g c =
    torn_follows _ _ _ _
    (kept_as g.F.ReadAt.bytes c.args.self.now.below c.in-None.is (Torn c.args.at (length c.args.bytes.now)) _ c.overwrite.new.kept.items c.overwrite.ensures.others)
