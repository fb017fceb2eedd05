use Rattle.std.proofs.Common.{rules, subst}
use Rattle.reg_desk_service.specs.Confirmations.{AfterFirstLine}
use Rattle.reg_desk_service.specs.declared.confirmation.Confirmation.{Confirmation}
use Rattle.reg_desk_service.proofs.desks.DeskHandler.answer_deferred.Goals as goal

pub returns-in-Some-clause-ok : goal.returns-in-Some-clause-ok
returns-in-Some-clause-ok g c =
    let moment = c.in-Some.signature.moment in (
      c.requires.control,
      search rules,
      c.answer_with_signature-text.ensures.admission,
      search rules,
      (
        moment,
        subst (λ (before : Confirmation). AfterFirstLine c.args.line.now moment before c.first_lines_answered.new.self)
            c.answer_with_signature-text.ensures.confirmation c.first_lines_answered.ensures,
      ),
    )
