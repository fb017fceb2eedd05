use Rattle.std.proofs.Common.{None, rules, subst}
use Rattle.sqlite.specs.Files.{over_files}
use Rattle.reg_core.specs.Records.{Records}
use Rattle.reg_crl_signer.specs.KeyOrDigestSignatures.{digest}
use Rattle.reg_desk_jobs.specs.Digest.{digests}
use Rattle.reg_office.specs.AfterStoppedCommand.{LeavesReported}
use Rattle.reg_office.specs.Stands.{Stands}
use Rattle.reg_desk_program.proofs.Clean.{sample_made}
use Rattle.reg_desk_program.proofs.memory.office_in_memory.Goals as goal

pub returns-in-Ok-create_over-clause-ok : goal.returns-in-Ok-create_over-clause-ok
returns-in-Ok-create_over-clause-ok c =
    subst (λ (records : Records). Stands over_files digests c.in-Ok-create_over.office.store digest records)
    (sample_made c.in-Ok.issuer c.usual.result (search rules) (search rules) c.usual.ensures) c.in-Ok-create_over.ensures.made.stands

pub returns-in-Ok-create_over-clause-leaves : goal.returns-in-Ok-create_over-clause-leaves
returns-in-Ok-create_over-clause-leaves c =
    subst (λ (records : Records). LeavesReported over_files digests c.in-Ok-create_over.office.store digest records None)
    (sample_made c.in-Ok.issuer c.usual.result (search rules) (search rules) c.usual.ensures)
    (c.in-Ok-create_over.ensures.made.leaves c.in-Ok-empty_database.ensures.opened)
