use Rattle.std.proofs.Common.{refl}
use Rattle.reg_store_tables.proofs.PublicLaws.{moves}
use Rattle.reg_store_changes.proofs.Putting.{puts_revocation}
use Rattle.reg_store_changes.proofs.Meaning.{put_revocation_means}
use Rattle.reg_store_changes.proofs.Within.{writing}
use Rattle.reg_store_changes.proofs.statements.put_revocation.Goals as goal

pub returns-clause-made : goal.returns-clause-made
returns-clause-made g c within clean = let ran = c.in_ok-write.ensures.ran (writing put_revocation_means refl) within clean in moves ran (puts_revocation _ _ _ c.args.row ran c.bytes20-serial.ensures.bytes c.sql_moment-at.ensures c.sql_reason-reason.ensures c.in_ok-request.ensures.value c.in_ok-first_crl.ensures.value c.bytes20-serial.ensures.in_range)

pub returns-clause-stepped : goal.returns-clause-stepped
returns-clause-stepped g c = c.write.ensures.stepped (writing put_revocation_means refl)

pub returns-in_err-write-clause-stepped : goal.returns-in_err-write-clause-stepped
returns-in_err-write-clause-stepped g c = c.write.ensures.stepped (writing put_revocation_means refl)
