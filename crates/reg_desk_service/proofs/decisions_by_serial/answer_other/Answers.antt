use Rattle.reg_core.specs.declared.refusal.Fault.TheVariants.{Refused}
use Rattle.reg_core.specs.declared.refusal.Refusal.TheVariants.{NoRequest}
use Rattle.reg_desk_service.proofs.ControlLines.{fault_came, meaning_in_fields}
use Rattle.reg_desk_service.proofs.decisions_by_serial.answer_other.Goals as goal

pub returns-clause-reply_text : goal.returns-clause-reply_text
returns-clause-reply_text c = meaning_in_fields _ _ _ _ c.fault-reply.ensures

pub returns-clause-line_outcome : goal.returns-clause-line_outcome
returns-clause-line_outcome c = fault_came (Refused NoRequest) _ _ c.fault-reply.ensures
