use Rattle.reg_store_tables.proofs.PublicLaws.{updates_rows, moves}
use Rattle.reg_store_changes.proofs.Meaning.{set_name_means}
use Rattle.reg_store_changes.proofs.Sweeping.{sets_name}
use Rattle.reg_store_changes.proofs.issuer_change.set_name.Goals as goal

pub returns-clause-made : goal.returns-clause-made
returns-clause-made g c clean =
    let ran = c.in_ok-write.ensures.ran clean in
    moves ran (sets_name _ _ _ c.args.issuer.now ran c.stored_name.ensures.stored_name, updates_rows ran set_name_means.plain set_name_means.is)
