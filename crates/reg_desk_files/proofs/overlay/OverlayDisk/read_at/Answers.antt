use Rattle.reg_desk_files.proofs.Overlaying.{counts_if}
use Rattle.reg_desk_files.proofs.overlay.OverlayDisk.read_at.Goals as goal

pub returns-clause-faults : goal.returns-clause-faults
returns-clause-faults g c = counts_if _ c.fill-filled.result _ _ c.count.ensures
