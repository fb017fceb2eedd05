use Rattle.std.proofs.Common.{refl}
use Rattle.reg_store_tables.proofs.PublicLaws.{moves, params-ok_then as ok_then}
use Rattle.reg_store_changes.proofs.Sweeping.{marks_revoked}
use Rattle.reg_store_changes.proofs.Meaning.{mark_revoked_means}
use Rattle.reg_store_changes.proofs.Within.{writing}
use Rattle.reg_store_changes.proofs.statements.mark_revoked.Goals as goal

pub returns-clause-made : goal.returns-clause-made
returns-clause-made g c within clean = ok_then _ _ c.write.result (λ count ran. moves ran (marks_revoked _ _ count c.args.serial ran c.bytes20-bytes.ensures.bytes c.bytes20-bytes.ensures.in_range)) (c.write.ensures.ran (writing mark_revoked_means refl) within clean)

pub returns-clause-stepped : goal.returns-clause-stepped
returns-clause-stepped g c = c.write.ensures.stepped (writing mark_revoked_means refl)
