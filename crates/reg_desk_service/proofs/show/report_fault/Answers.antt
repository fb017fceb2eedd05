use Rattle.reg_desk_service.proofs.ControlLines.{fault_came, meaning_in_fields}
use Rattle.reg_desk_service.proofs.show.report_fault.Goals as goal

pub returns-clause-reply_text : goal.returns-clause-reply_text
returns-clause-reply_text c = meaning_in_fields _ _ _ _ c.fault-reply.ensures

pub returns-clause-line_outcome : goal.returns-clause-line_outcome
returns-clause-line_outcome c = fault_came c.args.fault _ _ c.fault-reply.ensures
