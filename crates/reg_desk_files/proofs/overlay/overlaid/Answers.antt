use Rattle.std.proofs.Common.{ap₂}
use Rattle.reg_desk_files.specs.Overlaid.{image}
use Rattle.reg_desk_files.proofs.overlay.overlaid.Goals as goal

pub returns-clause-image : goal.returns-clause-image
returns-clause-image g c = ap₂ image c.copied.ensures.bytes c.over.ensures.bytes
