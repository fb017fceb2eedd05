-- The line of a refusal is the refusal's.
use Rattle.reg_core.specs.Lines.{fault_line}
use Rattle.reg_core.proofs.refusal.Fault.line.Goals as goal

pub returns-in-Refused : goal.returns-in-Refused
unfolding fault_line
returns-in-Refused c = rw c.in-Refused.is (cc)
