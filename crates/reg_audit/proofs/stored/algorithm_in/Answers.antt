use Rattle.std.proofs.Common.{◌≡◌, List, ℕ, subst}
use Rattle.std.specs.Prelude.{IsSomeAnd}
use Rattle.reg_audit.proofs.Algorithms.{algorithm_again, algorithm_stands}
use Rattle.reg_audit.proofs.stored.algorithm_in.Goals as goal

pub returns-in-None-clause-one : goal.returns-in-None-clause-one
returns-in-None-clause-one c list is = let there = algorithm_again list c.args.crl.now is in let none = c.in-None.ensures.exact in cc

pub returns-in-Some-clause-one : goal.returns-in-Some-clause-one
returns-in-Some-clause-one c list is =
    let value = c.in-Some.value in
    let stands = algorithm_stands list c.args.crl.now value.raw.now value.contents.now value.tag is c.in-Some.ensures.exact c.in-Some.ensures.value in
    subst (λ (raw : List ℕ). IsSomeAnd c.as_algorithm.result (λ found. found.now ≡ raw)) stands.same (c.as_algorithm.ensures.one stands.sequence stands.short)
