use Rattle.reg_core_lists.specs.Texts.{row_text}
use Rattle.reg_core_lists.specs.declared.texts.Format.TheVariants.{Json}
use Rattle.reg_desk_service.specs.declared.control_reply.LineOutcome.TheVariants.{Done}
use Rattle.reg_desk_service.proofs.ControlLines.{outcome_is, row_accepted, meaning_in_fields}
use Rattle.reg_desk_service.proofs.show.answer_found.Goals as goal

pub returns-in-Ok-Some-clause-reply_text : goal.returns-in-Ok-Some-clause-reply_text
returns-in-Ok-Some-clause-reply_text c =
    rw (c.in-Ok-Some.is, c.in-Ok-Some.field-0-is) (meaning_in_fields (row_text Json c.in-Ok-Some.row) Done _ _ (c.made.ensures _ c.row_line.ensures))

pub returns-in-Ok-Some-clause-line_outcome : goal.returns-in-Ok-Some-clause-line_outcome
returns-in-Ok-Some-clause-line_outcome c =
    outcome_is (row_text Json c.in-Ok-Some.row) Done _ _ (c.made.ensures _ c.row_line.ensures) (row_accepted c.in-Ok-Some.row)
