use Rattle.reg_desk_service.proofs.LookedAt.{Still}
use Rattle.reg_desk_service.proofs.command_batches.report_lines.Given as goal

-- no record changes
abbrev pub invariant-loop-index : goal.invariant-loop-index
invariant-loop-index g l = Still g.M.Office.Office.is_clean g.M.Office.Office.stands l.initial.office l.office
