use Rattle.reg_desk_service.proofs.ControlLines.{outcome_is, why_accepted}
use Rattle.reg_desk_service.specs.Reasons.{kept_reason_text}
use Rattle.reg_desk_service.specs.declared.control_reply.LineOutcome.TheVariants.{Done}
use Rattle.reg_desk_service.proofs.reasons.reason_reply.Goals as goal

pub returns : goal.returns
returns c =
    outcome_is (kept_reason_text c.args.last_reason.now) Done _ _ (c.made.ensures _ c.why_reply.ensures) (why_accepted c.args.last_reason.now)
