use Rattle.std.proofs.Common.{refl}
use Rattle.reg_store_tables.proofs.PublicLaws.{moves, params-ok_then as ok_then}
use Rattle.reg_store_changes.proofs.Sweeping.{sweeps}
use Rattle.reg_store_changes.proofs.Meaning.{sweep_means}
use Rattle.reg_store_changes.proofs.Within.{writing}
use Rattle.reg_store_changes.proofs.statements.expire_ended.Goals as goal

pub returns-clause-made : goal.returns-clause-made
returns-clause-made g c within clean = ok_then _ _ c.write.result (λ count ran. moves ran (sweeps _ _ count c.args.now ran c.sql_moment.ensures)) (c.write.ensures.ran (writing sweep_means refl) within clean)

pub returns-clause-stepped : goal.returns-clause-stepped
returns-clause-stepped g c = c.write.ensures.stepped (writing sweep_means refl)
