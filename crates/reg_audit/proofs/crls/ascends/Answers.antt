use Rattle.std.proofs.Common.{rules}
use Rattle.std.proofs.lemmas.List.Sorted.{answers_always}
use Rattle.std.specs.Ordering.{nat_cmp, is_lt}
use Rattle.reg_store_tables.proofs.PublicLaws.{ascends_tested}
use Rattle.reg_audit.proofs.crls.ascends.Goals as goal

pub returns : goal.returns
returns c =
    ascends_tested c.args.entries.now c.is_sorted_by.result
    (c.is_sorted_by.ensures.cases (λ earlier later. is_lt (nat_cmp earlier.serial later.serial)) (answers_always _ _ _ (λ f a r g called. search rules)))
