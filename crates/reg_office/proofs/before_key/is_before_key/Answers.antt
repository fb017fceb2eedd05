use Rattle.std.proofs.Common.{subst, sym}
use Rattle.reg_store_tables.proofs.PublicLaws.{by_none, so}
use Rattle.reg_office.specs.Replays.{HasAlgorithm}
use Rattle.reg_office.proofs.BeforeKey.{before_by, before_none}
use Rattle.reg_office.proofs.before_key.is_before_key.Goals as goal

pub returns-in-Ok : goal.returns-in-Ok
returns-in-Ok g c =
    so c.in-Ok.ensures.looks
    (λ records sound given is. before_by c.args.algorithm.now c.in-Ok.der.items records given
    (subst (λ b. ¬ HasAlgorithm b c.args.algorithm.now) c.deref.ensures.value (c.has_other_algorithm.ensures is)))
