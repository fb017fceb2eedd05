use Rattle.std.proofs.Common.{subst}
use Rattle.std.proofs.lemmas.Bool.{false≢true}
use Rattle.std.proofs.lemmas.Result.{IfOk-weaker}
use Rattle.reg_store_tables.proofs.PublicLaws.{by_none, looked_none, so}
use Rattle.reg_office.specs.Replays.{IsBeforeKey}
use Rattle.reg_office.proofs.before_key.may_have_digest.Goals as goal

pub returns-then-has_other_algorithm : goal.returns-then-has_other_algorithm
returns-then-has_other_algorithm g c =
    so c.is_before_key.ensures
    (λ records sound before. IfOk-weaker c.is_before_key.result _ _ (λ may holds is. subst (λ a. IsBeforeKey a records) c.algorithm-then-has_other_algorithm.ensures.value (holds is)) before)
