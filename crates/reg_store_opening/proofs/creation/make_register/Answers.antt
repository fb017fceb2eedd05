use Rattle.reg_store_tables.proofs.PublicLaws.{stepped_clean, then_moves}
use Rattle.reg_store_opening.proofs.creation.make_register.Goals as goal

pub returns-clause-made : goal.returns-clause-made
returns-clause-made g c clean =
    let first = c.in_ok-make_empty_tables.ensures.made (stepped_clean c.fill.ensures.stepped clean) in
    then_moves _ _ _ _ _ _ c.fill.result first (c.fill.ensures.made clean) (λ _ fills blank. fills (first.tables blank))
