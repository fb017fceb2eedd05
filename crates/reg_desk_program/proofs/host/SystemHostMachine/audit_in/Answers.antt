use Rattle.reg_desk_program.proofs.Audits.{audits_files}
use Rattle.reg_desk_program.proofs.host.SystemHostMachine.audit_in.Goals as goal

pub returns-in-Ok-clause-audited : goal.returns-in-Ok-clause-audited
returns-in-Ok-clause-audited c = audits_files _ _ c.in-Ok.connection c.audit_over.result c.in-Ok.ensures.found c.audit_over.ensures.ok
