use Rattle.std.proofs.Common.{refl}
use Rattle.reg_store_tables.proofs.PublicLaws.{moves}
use Rattle.reg_store_changes.proofs.Putting.{puts_subscriber}
use Rattle.reg_store_changes.proofs.Meaning.{put_subscriber_means}
use Rattle.reg_store_changes.proofs.Within.{writing}
use Rattle.reg_store_changes.proofs.statements.put_subscriber.Goals as goal

pub returns-clause-made : goal.returns-clause-made
returns-clause-made g c within clean = let ran = c.in_ok-write.ensures.ran (writing put_subscriber_means refl) within clean in moves ran (puts_subscriber _ _ _ c.args.row ran c.in_ok-id.ensures.value c.as_bytes.ensures.bytes)

pub returns-clause-stepped : goal.returns-clause-stepped
returns-clause-stepped g c = c.write.ensures.stepped (writing put_subscriber_means refl)

pub returns-in_err-write-clause-stepped : goal.returns-in_err-write-clause-stepped
returns-in_err-write-clause-stepped g c = c.write.ensures.stepped (writing put_subscriber_means refl)
