use Rattle.std.proofs.Common.{◌∙◌, inl, inr, refl, sym}
use Rattle.std.proofs.lemmas.Bool.{iff_false}
use Rattle.reg_desk_program.proofs.crl_signer.may_follow.Goals as goal

pub returns-then-is_same : goal.returns-then-is_same
returns-then-is_same c = (λ _. inr (c.is_same.ensures.0 c.if-is_same.true ∙ c.algorithm.ensures.value), λ _. refl)

pub returns : goal.returns
returns c = (
  λ yes. inl (c.is_same-2.ensures.0 yes),
  λ follows. elim follows [
    | inl same ↦ c.is_same-2.ensures.1 same
    | inr has_placeholder_digest ↦ absurd (iff_false c.is_same.ensures c.if-is_same.false (has_placeholder_digest ∙ sym c.algorithm.ensures.value))
  ],
)
