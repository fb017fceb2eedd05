use Rattle.std.proofs.Common.{◌≡◌, ◌+◌, ◌∙◌, ap, inl, refl}
use Rattle.std.specs.Prelude.{option_copied, unwrap_or}
use Rattle.reg_core.specs.Issuer as core
use Rattle.reg_ocsp.specs.Response.{response_data}
use Rattle.reg_ocsp.specs.Views.{answered, answers_model}
use Rattle.reg_ocsp.proofs.PublicLaws.{answers_fit}
use Rattle.reg_store_tables.proofs.PublicLaws.{and_so, by_none, looked_then, so}
use Rattle.reg_office_reads.specs.declared.ocsp_faults.ResponseFault.TheVariants.{Memory}
use Rattle.reg_office_reads.proofs.Beginning.{no_message}
use Rattle.reg_office_reads.proofs.Responding.{each_answer}
use Rattle.reg_office_reads.proofs.ocsp_answer.ocsp_data.Goals as goal

pub response_data_by-requires : goal.response_data_by-requires
response_data_by-requires g c =
    answers_fit c.deref-2.result.now c.args.asked.now.ids.items (option_copied c.args.asked.now.nonce) (ap answered c.deref-2.ensures.value ∙ c.in_ok-answers.ensures.ids ∙ c.deref.ensures.value) c.requires

pub returns-in_err-answers-clause-looks : goal.returns-in_err-answers-clause-looks
returns-in_err-answers-clause-looks g c =
    by_none (looked_then c.issuer_and_next_update.ensures.looked c.answers.ensures.looks.looked) (λ records.
    no_message _ records c.args.now _ _ c.from_residual-in_err-answers.result c.in_err-answers.field-0.0 c.from_residual-in_err-answers.ensures.1
    c.in_err-answers.ensures.faults)

pub returns-in_err-response_data_by-clause-looks : goal.returns-in_err-response_data_by-clause-looks
returns-in_err-response_data_by-clause-looks g c =
    by_none (looked_then c.issuer_and_next_update.ensures.looked c.answers.ensures.looks.looked) (λ records.
    no_message _ records c.args.now _ _ c.from_residual-in_err-response_data_by.result Memory c.from_residual-in_err-response_data_by.ensures.1 (inl refl))

pub returns-clause-looks : goal.returns-clause-looks
returns-clause-looks g c = so (and_so c.in_ok-issuer.ensures c.in_ok-answers.ensures.looks) (λ records sound both.
    let issuer = both.0.1 in
    let asked : answered c.in_ok-answers.answers.items ≡ c.args.asked.now.ids.items = c.in_ok-answers.ensures.ids ∙ c.deref.ensures.value in
    let own = option_copied c.args.own_key in
    let key_is : c.key_of-key.result.now ≡ unwrap_or own records.issuer.key =
    c.key_of-key.ensures ∙ ap (λ (it : core.Issuer). unwrap_or own it.key) issuer in
    let spelled : c.in_ok-response_data_by.field-0.items ≡ response_data (unwrap_or own records.issuer.key) c.args.now (c.args.now + records.policy.ocsp_life) (answers_model c.in_ok-answers.answers.items) (option_copied c.args.asked.now.nonce) =
    c.in_ok-response_data_by.ensures.data ∙ (λ i. response_data (key_is i) c.args.now (both.0.2 i) (answers_model (c.deref-2.ensures.value i)) (option_copied c.args.asked.now.nonce)) in (
      both.0.0,
      record {
        answers = answers_model c.in_ok-answers.answers.items;
        each = each_answer records c.args.now c.args.asked.now.ids.items c.in_ok-answers.answers.items asked (both.1 issuer);
        spelled = spelled;
      },
    ))
