use Rattle.std.proofs.Common.{List, ℕ, rules, subst}
use Rattle.reg_desk_service.specs.Signers.{MayFollow}
use Rattle.reg_store_tables.proofs.PublicLaws.{shows_until}
use Rattle.reg_desk_program.proofs.crl_signer.signer_after.Goals as goal

pub returns-in-None-clause-signs : goal.returns-in-None-clause-signs
returns-in-None-clause-signs g c = record {
  identity_is = λ records shown clean.
      let found = c.in_ok-issuer.ensures.found records (shows_until _ shown) clean in
      search rules;
  follows = λ crl is other under.
      let P : List ℕ → Type 0 = λ algorithm. MayFollow algorithm other in
      subst P c.algorithm.ensures.value (c.in-None.ensures crl is other under);
  embeds = λ records shown clean.
      let found = c.in_ok-issuer.ensures.found records (shows_until _ shown) clean in
      search rules;
}
