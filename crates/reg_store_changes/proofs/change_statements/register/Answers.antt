use Rattle.reg_core.specs.Changes.{with_certificate}
use Rattle.reg_store_tables.proofs.PublicLaws.{then_moves}
use Rattle.reg_store_changes.proofs.Within.{steps_clean}
use Rattle.reg_store_changes.proofs.change_statements.register.Goals as goal

pub returns-clause-made : goal.returns-clause-made
returns-clause-made g c within clean =
    let first = c.in_ok-put_cert.ensures.made within (steps_clean c.put_letter.ensures.stepped clean) in
    then_moves _ _ _ _ _ _ c.put_letter.result first (c.put_letter.ensures.made (c.put_cert.ensures.stepped.within within) clean)
    (λ _ on records columns both. on (with_certificate records records.last c.args.row) columns (first.tables records columns both))
