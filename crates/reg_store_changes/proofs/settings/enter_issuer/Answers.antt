use Rattle.std.proofs.Common.{refl}
use Rattle.reg_store_tables.proofs.PublicLaws.{moves, updates_rows}
use Rattle.reg_store_changes.proofs.Meaning.{set_name_means}
use Rattle.reg_store_changes.proofs.Sweeping.{sets_name}
use Rattle.reg_store_changes.proofs.Within.{writing}
use Rattle.reg_store_changes.proofs.settings.enter_issuer.Goals as goal

pub returns-clause-made : goal.returns-clause-made
returns-clause-made g c within clean =
    let ran = c.in_ok-write.ensures.ran (writing set_name_means refl) within clean in
    moves ran (sets_name _ _ _ c.args.issuer.now ran c.stored_name.ensures.stored_name, updates_rows ran set_name_means.plain set_name_means.is)

pub returns-clause-stepped : goal.returns-clause-stepped
returns-clause-stepped g c = c.write.ensures.stepped (writing set_name_means refl)

pub returns-in_err-write-clause-stepped : goal.returns-in_err-write-clause-stepped
returns-in_err-write-clause-stepped g c = c.write.ensures.stepped (writing set_name_means refl)
