use Rattle.std.proofs.Common.{refl}
use Rattle.reg_store_tables.proofs.PublicLaws.{moves}
use Rattle.reg_store_changes.proofs.Sweeping.{marks_listed}
use Rattle.reg_store_changes.proofs.Meaning.{mark_listed_means}
use Rattle.reg_store_changes.proofs.Within.{writing}
use Rattle.reg_store_changes.proofs.statements.set_last_listed.Goals as goal

pub returns-clause-made : goal.returns-clause-made
returns-clause-made g c within clean = let ran = c.in_ok-write.ensures.ran (writing mark_listed_means refl) within clean in moves ran (marks_listed _ _ _ c.args.number c.args.this_update ran c.in_ok-number.ensures.value c.sql_moment-this_update.ensures)

pub returns-clause-stepped : goal.returns-clause-stepped
returns-clause-stepped g c = c.write.ensures.stepped (writing mark_listed_means refl)

pub returns-in_err-write-clause-stepped : goal.returns-in_err-write-clause-stepped
returns-in_err-write-clause-stepped g c = c.write.ensures.stepped (writing mark_listed_means refl)
