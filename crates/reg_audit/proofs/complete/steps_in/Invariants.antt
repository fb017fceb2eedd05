use Rattle.std.proofs.Common.{take}
use Rattle.std.specs.List.{AllZip}
use Rattle.reg_audit.proofs.OfficeRows.{IsStep}
use Rattle.reg_audit.proofs.complete.steps_in.Given as goal

abbrev pub invariant-loop-row : goal.invariant-loop-row
invariant-loop-row l = AllZip IsStep l.steps.items (take l.row-index l.rows)
