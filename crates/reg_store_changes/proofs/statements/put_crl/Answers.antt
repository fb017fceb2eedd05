use Rattle.std.proofs.Common.{refl}
use Rattle.reg_store_changes.specs.ChangeEffects.{crl_of}
use Rattle.reg_store_tables.proofs.PublicLaws.{moves}
use Rattle.reg_store_changes.proofs.Putting.{puts_crl}
use Rattle.reg_store_changes.proofs.Meaning.{put_crl_means}
use Rattle.reg_store_changes.proofs.Within.{writing}
use Rattle.reg_store_changes.proofs.statements.put_crl.Goals as goal

pub returns-clause-made : goal.returns-clause-made
returns-clause-made g c within clean = let ran = c.in_ok-write.ensures.ran (writing put_crl_means refl) within clean in moves ran (puts_crl _ _ _ (crl_of c.args.row c.args.der.now) ran refl c.in_ok-number.ensures.value c.sql_moment-this_update.ensures)

pub returns-clause-stepped : goal.returns-clause-stepped
returns-clause-stepped g c = c.write.ensures.stepped (writing put_crl_means refl)

pub returns-in_err-write-clause-stepped : goal.returns-in_err-write-clause-stepped
returns-in_err-write-clause-stepped g c = c.write.ensures.stepped (writing put_crl_means refl)
