use Rattle.std.proofs.Common.{ap, inl, inr, refl}
use Rattle.std.specs.Prelude.{Err, option_copied}
use Rattle.reg_core.specs.Checks.{clock_checks, first_refusal}
use Rattle.reg_ocsp.specs.Response.{refusal_response}
use Rattle.reg_ocsp.specs.Views.{ids_model}
use Rattle.reg_ocsp.specs.declared.response.RefusalStatus.TheVariants as status
use Rattle.reg_office_api.specs.Ocsp.{IsNoOcspRequest}
use Rattle.reg_office_api.specs.declared.response.ResponseKind.TheVariants.{Malformed, TryLater, StoreFailure}
use Rattle.reg_office_reads.specs.Answering.{responder_named}
use Rattle.reg_store_tables.proofs.PublicLaws.{by_none, looked_none, so}
use Rattle.reg_office_reads.proofs.Beginning.{late_apart, malformed_apart, message_begun, message_refuses, no_malformed, ready_begun, ready_refuses, store_apart, the_refusal, unasked_counts}
use Rattle.reg_office_reads.proofs.Responding.{internal_apart, try_later_apart}
use Rattle.reg_office_reads.proofs.ocsp_answer.begin.Goals as goal

pub returns-in-Err-Malformed-clause-looks : goal.returns-in-Err-Malformed-clause-looks
returns-in-Err-Malformed-clause-looks g c =
    let unread = c.in-Err-Malformed.ensures.malformed (ap Err c.in-Err-Malformed.field-0-is) in
    by_none looked_none (λ records. ready_begun g.S.Signer.signs _ records c.args.now c.args.request.now _ _ c.refused.result (inl (unread, refl, refl)) c.refused.ensures)

pub returns-in-Err-Malformed-clause-refuses : goal.returns-in-Err-Malformed-clause-refuses
returns-in-Err-Malformed-clause-refuses g c =
    let unread = c.in-Err-Malformed.ensures.malformed (ap Err c.in-Err-Malformed.field-0-is) in
    ready_refuses c.args.request.now Malformed _ c.refused.result ((λ same. unread), (λ again. refl)) (λ failed. absurd (malformed_apart failed)) c.refused.ensures

pub returns-in-Err-Malformed-clause-counts : goal.returns-in-Err-Malformed-clause-counts
returns-in-Err-Malformed-clause-counts g c = unasked_counts Malformed _ c.refused.result _ malformed_apart c.refused.ensures

pub returns-in-Ok-ocsp_data-clause-looks : goal.returns-in-Ok-ocsp_data-clause-looks
returns-in-Ok-ocsp_data-clause-looks g c =
    so c.in-Ok-ocsp_data.ensures.looks (λ records sound it.
    message_begun g.S.Signer.signs _ records c.args.now c.args.request.now (ids_model c.in-Ok.asked.ids.items) (option_copied c.in-Ok.asked.nonce) c.in-Ok-ocsp_data.message.items c.respond.result
    c.in-Ok.ensures.found it.0 it.1 (rw c.deref.ensures.value at c.respond.ensures.responds))

pub returns-in-Ok-ocsp_data-clause-refuses : goal.returns-in-Ok-ocsp_data-clause-refuses
returns-in-Ok-ocsp_data-clause-refuses g c =
    message_refuses g.S.Signer.signs _ c.args.request.now c.deref.result.now c.respond.result
    (λ unread. unread (ids_model c.in-Ok.asked.ids.items) (option_copied c.in-Ok.asked.nonce) c.in-Ok.ensures.found) c.respond.ensures.responds

pub returns-in-Err-Clock-clause-looks : goal.returns-in-Err-Clock-clause-looks
returns-in-Err-Clock-clause-looks g c =
    so (rw c.in-Err-Clock.field-0-is at c.in-Err-Clock.ensures.looks) (λ records sound it.
    let refusal = the_refusal (first_refusal (clock_checks c.args.now records.last)) it in
    ready_begun g.S.Signer.signs _ records c.args.now c.args.request.now _ _ c.refused-in-Err-Clock.result
    (inr (ids_model c.in-Ok.asked.ids.items, option_copied c.in-Ok.asked.nonce, c.in-Ok.ensures.found, (refusal, refl))) c.refused-in-Err-Clock.ensures)

pub returns-in-Err-Clock-clause-refuses : goal.returns-in-Err-Clock-clause-refuses
returns-in-Err-Clock-clause-refuses g c =
    let read : ¬ (IsNoOcspRequest c.args.request.now) = λ unread. unread (ids_model c.in-Ok.asked.ids.items) (option_copied c.in-Ok.asked.nonce) c.in-Ok.ensures.found in
    ready_refuses c.args.request.now TryLater _ c.refused-in-Err-Clock.result (no_malformed c.args.request.now _ read try_later_apart) (λ failed. absurd (late_apart failed)) c.refused-in-Err-Clock.ensures

pub returns-in-Err-Clock-clause-counts : goal.returns-in-Err-Clock-clause-counts
returns-in-Err-Clock-clause-counts g c = unasked_counts TryLater _ c.refused-in-Err-Clock.result _ late_apart c.refused-in-Err-Clock.ensures

pub returns-in-Err-Store-clause-looks : goal.returns-in-Err-Store-clause-looks
returns-in-Err-Store-clause-looks g c =
    so c.in-Err-Store.ensures.looks (λ records sound it.
    ready_begun g.S.Signer.signs _ records c.args.now c.args.request.now _ _ c.refused-in-Err-Store.result
    (inr (ids_model c.in-Ok.asked.ids.items, option_copied c.in-Ok.asked.nonce, c.in-Ok.ensures.found, refl)) c.refused-in-Err-Store.ensures)

pub returns-in-Err-Store-clause-refuses : goal.returns-in-Err-Store-clause-refuses
returns-in-Err-Store-clause-refuses g c =
    let read : ¬ (IsNoOcspRequest c.args.request.now) = λ unread. unread (ids_model c.in-Ok.asked.ids.items) (option_copied c.in-Ok.asked.nonce) c.in-Ok.ensures.found in
    ready_refuses c.args.request.now StoreFailure _ c.refused-in-Err-Store.result (no_malformed c.args.request.now _ read internal_apart) (λ failed. refl) c.refused-in-Err-Store.ensures

pub returns-in-Err-Store-clause-counts : goal.returns-in-Err-Store-clause-counts
returns-in-Err-Store-clause-counts g c = unasked_counts StoreFailure _ c.refused-in-Err-Store.result _ store_apart c.refused-in-Err-Store.ensures
