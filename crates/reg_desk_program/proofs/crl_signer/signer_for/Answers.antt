use Rattle.std.proofs.Common.{sym, subst}
use Rattle.std.proofs.lemmas.Result.{IfOk-weaker}
use Rattle.reg_desk_service.specs.Signers.{IsSigning}
use Rattle.reg_desk_service.specs.declared.crl_signer.CrlSignerChoice.{CrlSignerChoice}
use Rattle.reg_store_tables.proofs.PublicLaws.{looked_then}
use Rattle.reg_desk_program.proofs.Signers.{signs_for}
use Rattle.reg_desk_program.proofs.crl_signer.signer_for.Goals as goal

pub returns-in-KeyAt-clause-signs : goal.returns-in-KeyAt-clause-signs
returns-in-KeyAt-clause-signs g c =
    IfOk-weaker c.signer_after.result _ _
    (λ signer it. signs_for g.C.Store _ _ _ _ _ c.args.crls.now _ _
    (λ key signers same. subst (λ (s : CrlSignerChoice). IsSigning s key signers) (sym c.in-KeyAt.is) same)
    c.latest_crl.ensures.looked c.signer_after.ensures.looked c.in_ok-latest.ensures.found it)
    c.signer_after.ensures.signs

pub returns-in-KeyAt-clause-looked : goal.returns-in-KeyAt-clause-looked
returns-in-KeyAt-clause-looked g c = looked_then c.latest_crl.ensures.looked c.signer_after.ensures.looked

pub returns-in-Digest-clause-signs : goal.returns-in-Digest-clause-signs
returns-in-Digest-clause-signs g c =
    IfOk-weaker c.signer_after-in-Digest.result _ _
    (λ signer it. signs_for g.C.Store _ _ _ _ _ c.args.crls.now _ _
    (λ key signers same. subst (λ (s : CrlSignerChoice). IsSigning s key signers) (sym c.in-Digest.is) same)
    c.latest_crl.ensures.looked c.signer_after-in-Digest.ensures.looked c.in_ok-latest.ensures.found it)
    c.signer_after-in-Digest.ensures.signs

pub returns-in-Digest-clause-looked : goal.returns-in-Digest-clause-looked
returns-in-Digest-clause-looked g c = looked_then c.latest_crl.ensures.looked c.signer_after-in-Digest.ensures.looked

pub returns-clause-signs : goal.returns-clause-signs
returns-clause-signs g c =
    IfOk-weaker c.signer_without_process.result _ _
    (λ signer it. signs_for g.C.Store _ _ _ _ _ c.args.crls.now it.0 _
    (λ key signers same. subst (λ (s : CrlSignerChoice). IsSigning s key signers) (sym c.in-NoSigner.is) (it.0, same))
    c.latest_crl.ensures.looked c.signer_without_process.ensures.looked c.in_ok-latest.ensures.found it.1)
    c.signer_without_process.ensures.signs

pub returns-clause-looked : goal.returns-clause-looked
returns-clause-looked g c = looked_then c.latest_crl.ensures.looked c.signer_without_process.ensures.looked
