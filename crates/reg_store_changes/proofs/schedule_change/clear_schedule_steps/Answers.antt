use Rattle.reg_store_tables.proofs.PublicLaws.{deletes_rows, moves}
use Rattle.reg_store_changes.proofs.Meaning.{clear_steps_means}
use Rattle.reg_store_changes.proofs.Stages.{clears}
use Rattle.reg_store_changes.proofs.schedule_change.clear_schedule_steps.Goals as goal

pub returns-clause-made : goal.returns-clause-made
returns-clause-made g c clean =
    let ran = c.in_ok-write.ensures.ran clean in
    moves ran (clears _ _ _ ran, deletes_rows ran clear_steps_means.plain clear_steps_means.is)
