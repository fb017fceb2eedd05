use Rattle.std.proofs.Common.{refl}
use Rattle.reg_store_tables.proofs.PublicLaws.{moves}
use Rattle.reg_store_changes.proofs.Putting.{puts_request}
use Rattle.reg_store_changes.proofs.Meaning.{put_request_means}
use Rattle.reg_store_changes.proofs.Within.{writing}
use Rattle.reg_store_changes.proofs.statements.put_request.Goals as goal

pub returns-clause-made : goal.returns-clause-made
returns-clause-made g c within clean = let ran = c.in_ok-write.ensures.ran (writing put_request_means refl) within clean in moves ran (puts_request _ _ _ c.args.row ran c.in_ok-id.ensures.value c.bytes20-serial.ensures.bytes c.sql_ground-ground.ensures c.sql_moment-received.ensures c.sql_flag-declined.ensures c.bytes20-serial.ensures.in_range)

pub returns-clause-stepped : goal.returns-clause-stepped
returns-clause-stepped g c = c.write.ensures.stepped (writing put_request_means refl)

pub returns-in_err-write-clause-stepped : goal.returns-in_err-write-clause-stepped
returns-in_err-write-clause-stepped g c = c.write.ensures.stepped (writing put_request_means refl)
