use Rattle.std.proofs.Common.{[], ◌∷◌, ◌++◌, refl}
use Rattle.reg_core.specs.Lines.{fault_line}
use Rattle.reg_desk_service.specs.Copies.{copied_text}
use Rattle.reg_desk_service.specs.declared.control_reply.LineOutcome.TheVariants.{Done, CopyFault}
use Rattle.reg_desk_service.proofs.ControlLines.{outcome_is, copy_accepted}
use Rattle.reg_desk_service.proofs.copies.answer_copy.Goals as goal

pub returns-in-Ok-clause-line_outcome : goal.returns-in-Ok-clause-line_outcome
returns-in-Ok-clause-line_outcome g c =
    outcome_is (copied_text c.in-Ok.bytes c.millis_since.result) Done _ _ c.copied_reply.ensures (copy_accepted c.in-Ok.bytes c.millis_since.result)

pub returns-in-Err-clause-line_outcome : goal.returns-in-Err-clause-line_outcome
returns-in-Err-clause-line_outcome g c = outcome_is (fault_line c.in-Err.why.fault ++ 10 ∷ []) (CopyFault c.in-Err.why.fault) _ _ c.copy_failed_reply.ensures refl
