use Rattle.std.proofs.Common.{refl}
use Rattle.reg_store_tables.proofs.PublicLaws.{moves}
use Rattle.reg_store_changes.proofs.Sweeping.{sets_declined}
use Rattle.reg_store_changes.proofs.Meaning.{set_declined_means}
use Rattle.reg_store_changes.proofs.Within.{writing}
use Rattle.reg_store_changes.proofs.statements.set_declined.Goals as goal

pub returns-clause-made : goal.returns-clause-made
returns-clause-made g c within clean = let ran = c.in_ok-write.ensures.ran (writing set_declined_means refl) within clean in moves ran (sets_declined _ _ _ c.args.id ran c.in_ok-id.ensures.value)

pub returns-clause-stepped : goal.returns-clause-stepped
returns-clause-stepped g c = c.write.ensures.stepped (writing set_declined_means refl)

pub returns-in_err-write-clause-stepped : goal.returns-in_err-write-clause-stepped
returns-in_err-write-clause-stepped g c = c.write.ensures.stepped (writing set_declined_means refl)
