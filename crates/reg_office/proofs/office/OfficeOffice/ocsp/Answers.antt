use Rattle.std.proofs.Common.{Ok, refl}
use Rattle.reg_store_tables.proofs.PublicLaws.{ok_then}
use Rattle.reg_office_reads.proofs.PublicLaws.{replied, signed_malformed}
use Rattle.reg_office.proofs.Leading.{gives_nothing, response_leads, signed_looks, then_signed}
use Rattle.reg_office.proofs.office.OfficeOffice.ocsp.Goals as goal

pub returns-in_err-response-clause-looks : goal.returns-in_err-response-clause-looks
returns-in_err-response-clause-looks g c =
    then_signed g.C.Store g.S.Signer _ _ _ _ c.begin_ocsp.ensures.looks refl refl
    (λ records reported. gives_nothing _ _ c.from_residual.result c.from_residual.ensures.1)

pub returns-in_err-response-clause-answers : goal.returns-in_err-response-clause-answers
returns-in_err-response-clause-answers g c =
    response_leads g.C.Store g.S.Signer _ _ c.args.now c.args.request.now c.from_residual.result (returns-in_err-response-clause-looks g c)

pub returns-in-Ready-clause-looks : goal.returns-in-Ready-clause-looks
returns-in-Ready-clause-looks g c =
    let response = c.in-Ready.response in
    then_signed g.C.Store g.S.Signer _ _ _ _ (rw c.in-Ready.is at c.in_ok-response.ensures.looks) refl refl
    (λ records reported. replied g.S.Signer.signs _ records c.args.now c.args.request.now response.kind response.bytes.items reported)

pub returns-in-Ready-clause-answers : goal.returns-in-Ready-clause-answers
returns-in-Ready-clause-answers g c =
    response_leads g.C.Store g.S.Signer _ _ c.args.now c.args.request.now (Ok c.in-Ready.response.bytes) (returns-in-Ready-clause-looks g c)

pub returns-in-Unsigned-clause-malformed : goal.returns-in-Unsigned-clause-malformed
returns-in-Unsigned-clause-malformed g c =
    ok_then c.sign_draft.result c.sign_draft.ensures.signed (λ bytes signed.
    signed_malformed g.S.Signer.signs _ c.args.request.now c.in-Unsigned.draft bytes.items (rw c.in-Unsigned.is at c.in_ok-response.ensures.refuses) signed)

pub returns-in-Unsigned-clause-looks : goal.returns-in-Unsigned-clause-looks
returns-in-Unsigned-clause-looks g c =
    signed_looks g.C.Store g.S.Signer _ _ c.args.now c.args.request.now c.in-Unsigned.draft c.sign_draft.result
    (rw c.in-Unsigned.is at c.in_ok-response.ensures.looks) refl c.sign_draft.ensures.same c.sign_draft.ensures.signed

pub returns-in-Unsigned-clause-answers : goal.returns-in-Unsigned-clause-answers
returns-in-Unsigned-clause-answers g c =
    response_leads g.C.Store g.S.Signer _ _ c.args.now c.args.request.now c.sign_draft.result (returns-in-Unsigned-clause-looks g c)
