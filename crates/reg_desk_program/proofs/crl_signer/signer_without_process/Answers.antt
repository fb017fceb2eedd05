use Rattle.std.specs.Prelude.{option_copied}
use Rattle.reg_desk_program.proofs.crl_signer.signer_without_process.Goals as goal

pub returns-in-Ok-clause-signs : goal.returns-in-Ok-clause-signs
returns-in-Ok-clause-signs g c = (
  option_copied c.as_ref.result,
  record {
    identity_is = λ records shown clean. rw c.without_digest.ensures.same_identity (c.in-Ok.ensures.signs.identity_is records shown clean);
    follows = λ crl is other under. rw c.without_digest.ensures.same_identity (c.in-Ok.ensures.signs.follows crl is other under);
    embeds = c.in-Ok.ensures.signs.embeds;
  },
)
