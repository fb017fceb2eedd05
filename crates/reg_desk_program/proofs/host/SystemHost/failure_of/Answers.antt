use Rattle.reg_desk_program.proofs.Missing.{of_store}
use Rattle.reg_desk_program.proofs.host.SystemHost.failure_of.Goals as goal

pub returns-in-Fault-clause-opening : goal.returns-in-Fault-clause-opening
returns-in-Fault-clause-opening c = of_store _ _ c.fault_of.ensures (rw c.in-Fault.is at c.requires)

pub returns-in-Fault-clause-reading : goal.returns-in-Fault-clause-reading
returns-in-Fault-clause-reading c = of_store _ _ c.fault_of.ensures (rw c.in-Fault.is at c.requires)
