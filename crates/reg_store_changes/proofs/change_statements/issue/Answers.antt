use Rattle.reg_core.specs.Changes.{with_crl}
use Rattle.reg_store_tables.proofs.PublicLaws.{then_moves}
use Rattle.reg_store_changes.specs.ChangeEffects.{crl_of}
use Rattle.reg_store_changes.proofs.Within.{steps_clean}
use Rattle.reg_store_changes.proofs.change_statements.issue.Goals as goal

pub returns-clause-made : goal.returns-clause-made
returns-clause-made g c within clean =
    let first = c.in_ok-put_crl.ensures.made within (steps_clean c.set_last_listed.ensures.stepped clean) in
    then_moves _ _ _ _ _ _ c.set_last_listed.result first (c.set_last_listed.ensures.made (c.put_crl.ensures.stepped.within within) clean)
    (λ _ on records columns next both. on (with_crl records records.last (crl_of c.args.row c.args.der.now)) columns (first.tables records columns next both))
