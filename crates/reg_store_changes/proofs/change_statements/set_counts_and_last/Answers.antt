use Rattle.reg_store_tables.specs.DerivedRows.{with_counts}
use Rattle.reg_store_tables.proofs.PublicLaws.{writes_on, then_moves}
use Rattle.reg_store_changes.proofs.Within.{steps_clean}
use Rattle.reg_store_changes.proofs.change_statements.set_counts_and_last.Goals as goal

pub returns-clause-made : goal.returns-clause-made
returns-clause-made g c within clean =
    let first = c.in_ok-set_counts.ensures.made within (steps_clean c.set_last.ensures.stepped clean) in
    then_moves _ _ _ _ _ _ c.set_last.result first (c.set_last.ensures.made (c.set_counts.ensures.stepped.within within) clean)
    (λ _ on. (λ records columns both. on.0 records (with_counts c.args.counts columns) (first.tables.0 records columns both), writes_on first.tables.1 on.1))
