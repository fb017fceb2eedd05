use Rattle.std.proofs.Common.{◌≡◌, ◌∙◌, ◌+◌, ℕ, inl, inr, refl, sym, subst, arith}
use Rattle.reg_der.specs.Authority.{key_identifier_at}
use Rattle.reg_office.proofs.FollowLookUps.{up_to}
use Rattle.reg_office.proofs.follow.has_same_identifiers.Goals as goal

pub loop-count-init : goal.loop-count-init
loop-count-init c number one none = absurd (omega arith)

pub loop-count-preserved : goal.loop-count-preserved
loop-count-preserved c number one within = elim (up_to number c.loop-count.count within) [
  | inl earlier ↦ c.loop-count.invariant number one earlier
  | inr last ↦
      let here : key_identifier_at c.args.given.now (c.loop-count.count + 1) ≡ key_identifier_at c.args.own.now (c.loop-count.count + 1) =
      sym c.key_identifier-in-loop-count.ensures.identifier ∙ c.is_same_identifier.ensures.0 c.if-not-is_same_identifier.false ∙ c.key_identifier.ensures.identifier in
      subst (λ (n : ℕ). key_identifier_at c.args.given.now n ≡ key_identifier_at c.args.own.now n) (sym last) here
]

pub returns : goal.returns
returns c = (λ is number one within. c.loop-count.invariant number one (omega arith), λ all. refl)
