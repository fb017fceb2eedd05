use Rattle.std.proofs.Common.{refl}
use Rattle.reg_office_reads.specs.Answering.{answers_by}
use Rattle.reg_desk_program.proofs.Expecting.{expects_key, expects_none}
use Rattle.reg_desk_program.proofs.crl_signer.replace_signer.Goals as goal

pub returns-in-Ok : goal.returns-in-Ok
returns-in-Ok g c =
    expects_key g.C.Store _ _ _ c.signer_for.ensures.looked (λ signers. answers_by _ signers c.args.responder.now) _ c.args.algorithm
    (rw c.unreachable-expected.ensures at c.in-Ok.ensures.signs) c.a_key_follows_the_digest.ensures c.without_a_key_only_digests_are_made.ensures _ _
    c.requires.digest (c.requires.answers _ _)

pub returns-in-Err : goal.returns-in-Err
returns-in-Err g c = expects_none g.C.Store _ _ _ c.signer_for.ensures.looked _ _ refl
