use Rattle.reg_store_tables.proofs.PublicLaws.{moves}
use Rattle.reg_store_migration.proofs.Defining.{defines}
use Rattle.reg_store_migration.proofs.missing_tables.define.Goals as goal

pub returns-clause-made : goal.returns-clause-made
returns-clause-made g c clean = let ran = c.in_ok-write.ensures.ran clean in moves ran (defines _ _ _ _ ran)
