use Rattle.reg_desk_program.proofs.Cached.{opened_for}
use Rattle.reg_desk_program.proofs.host.SystemHostMachine.open_in.Goals as goal

pub returns-in-Ok-clause-opened : goal.returns-in-Ok-clause-opened
returns-in-Ok-clause-opened c = opened_for c.new.ensures.office c.in-Ok.ensures.opened c.in-Ok.ensures.responder

pub returns-in-Err-clause-faults : goal.returns-in-Err-clause-faults
returns-in-Err-clause-faults c = c.in-Err.ensures.err
