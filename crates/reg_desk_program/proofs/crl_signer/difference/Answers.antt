use Rattle.std.proofs.Common.{inl, inr, refl}
use Rattle.std.proofs.lemmas.Bool.{iff_false}
use Rattle.reg_desk_program.proofs.crl_signer.difference.Goals as goal

pub returns-then-may_follow : goal.returns-then-may_follow
returns-then-may_follow c = c.may_follow.ensures.0 c.if-may_follow.true

pub returns-then-is_known : goal.returns-then-is_known
returns-then-is_known c = (iff_false c.may_follow.ensures c.if-may_follow.false, inl (refl, c.is_known.ensures.0 c.if-is_known.true))

pub returns-else-is_known : goal.returns-else-is_known
returns-else-is_known c = (iff_false c.may_follow.ensures c.if-may_follow.false, inr (refl, iff_false c.is_known.ensures c.if-is_known.false))
