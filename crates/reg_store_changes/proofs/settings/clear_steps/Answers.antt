use Rattle.std.proofs.Common.{refl}
use Rattle.reg_store_tables.proofs.PublicLaws.{deletes_rows, moves}
use Rattle.reg_store_changes.proofs.Meaning.{clear_steps_means}
use Rattle.reg_store_changes.proofs.Stages.{clears}
use Rattle.reg_store_changes.proofs.Within.{writing}
use Rattle.reg_store_changes.proofs.settings.clear_steps.Goals as goal

pub returns-clause-made : goal.returns-clause-made
returns-clause-made g c within clean =
    let ran = c.in_ok-write.ensures.ran (writing clear_steps_means refl) within clean in
    moves ran (clears _ _ _ ran, deletes_rows ran clear_steps_means.plain clear_steps_means.is)

pub returns-clause-stepped : goal.returns-clause-stepped
returns-clause-stepped g c = c.write.ensures.stepped (writing clear_steps_means refl)

pub returns-in_err-write-clause-stepped : goal.returns-in_err-write-clause-stepped
returns-in_err-write-clause-stepped g c = c.write.ensures.stepped (writing clear_steps_means refl)
