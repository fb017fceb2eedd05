use Rattle.std.proofs.Common.{◌∷◌, ◌++◌, []}
use Rattle.reg_desk_service.specs.RowLookUps.{help_text}
use Rattle.reg_desk_service.specs.declared.control_reply.LineOutcome.TheVariants.{Done}
use Rattle.reg_desk_service.proofs.ControlLines.{outcome_is, help_accepted, meaning_in_fields}
use Rattle.reg_desk_service.proofs.show.answer_help.Goals as goal

pub returns-clause-reply_text : goal.returns-clause-reply_text
unfolding help_text
returns-clause-reply_text c = meaning_in_fields (help_text ++ 10 ∷ []) Done _ _ c.line.ensures

pub returns-clause-line_outcome : goal.returns-clause-line_outcome
unfolding help_text
returns-clause-line_outcome c = outcome_is (help_text ++ 10 ∷ []) Done _ _ c.line.ensures help_accepted
