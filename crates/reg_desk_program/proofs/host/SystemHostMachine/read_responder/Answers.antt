use Rattle.reg_desk_program.proofs.host.SystemHostMachine.read_responder.Goals as goal

pub returns-in-Issuer-clause-certified : goal.returns-in-Issuer-clause-certified
returns-in-Issuer-clause-certified c = rw c.in-Issuer.is c.issuer_responder.ensures.ok

pub returns-in-Delegate-clause-certified : goal.returns-in-Delegate-clause-certified
returns-in-Delegate-clause-certified c = rw c.in-Delegate.is c.delegate_responder.ensures.ok
