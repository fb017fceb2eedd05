use Rattle.reg_desk_service.proofs.ControlLines.{fault_came}
use Rattle.reg_desk_service.proofs.control_lines.refusal_by_clock.Goals as goal

pub returns-in-Err-clause-line_outcome : goal.returns-in-Err-clause-line_outcome
returns-in-Err-clause-line_outcome g c = fault_came c.in-Err.fault _ _ c.fault.ensures
