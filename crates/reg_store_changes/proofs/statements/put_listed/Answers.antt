use Rattle.std.proofs.Common.{refl}
use Rattle.reg_store_tables.proofs.PublicLaws.{moves}
use Rattle.reg_store_changes.proofs.Putting.{puts_listed}
use Rattle.reg_store_changes.proofs.Meaning.{put_listed_means}
use Rattle.reg_store_changes.proofs.Within.{writing}
use Rattle.reg_store_changes.proofs.statements.put_listed.Goals as goal

pub returns-clause-made : goal.returns-clause-made
returns-clause-made g c within clean = let ran = c.in_ok-write.ensures.ran (writing put_listed_means refl) within clean in moves ran (puts_listed _ _ _ c.args.row c.args.not_after ran c.bytes20-serial.ensures.bytes c.sql_moment-at.ensures c.sql_reason-reason.ensures c.in_ok-first_crl.ensures.value c.sql_moment-not_after.ensures c.bytes20-serial.ensures.in_range)

pub returns-clause-stepped : goal.returns-clause-stepped
returns-clause-stepped g c = c.write.ensures.stepped (writing put_listed_means refl)

pub returns-in_err-write-clause-stepped : goal.returns-in_err-write-clause-stepped
returns-in_err-write-clause-stepped g c = c.write.ensures.stepped (writing put_listed_means refl)
