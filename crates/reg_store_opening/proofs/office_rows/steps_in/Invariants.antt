use Rattle.std.proofs.Common.{take}
use Rattle.reg_store_opening.specs.VersionAndOffice.{AreSteps, HaveMoments}
use Rattle.reg_store_opening.proofs.office_rows.steps_in.Given as goal

abbrev pub invariant-loop-row : goal.invariant-loop-row
invariant-loop-row l = AreSteps (take l.row-index l.rows.items) l.steps.items × HaveMoments l.steps.items
