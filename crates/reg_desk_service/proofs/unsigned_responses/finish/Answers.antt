use Rattle.std.proofs.Common.{◌∙◌}
use Rattle.reg_office_api.specs.Items.{items_of}
use Rattle.reg_desk_service.proofs.Finishing.{items_made}
use Rattle.reg_desk_service.proofs.unsigned_responses.finish.Goals as goal

pub returns-clause-finished : goal.returns-clause-finished
returns-clause-finished c = record {
  given = items_of c.response-response.result;
  made = items_made c.args.unsigned.now.draft c.response-response.result _ _ c.slice_of.ensures c.response-response.ensures;
  answer_text = c.finished.ensures.answer_text;
  signature_outcome = c.finished.ensures.effects.0 ∙ c.signature_outcome_of-signature_outcome.ensures;
  store = c.finished.ensures.effects.1;
}
