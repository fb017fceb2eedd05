-- An audit of files, by one of a connection that finds what they stand for.
use Rattle.std.proofs.Common.{◌≡◌, sym, subst}
use Rattle.std.specs.Prelude.{Result, IfOk}
use Rattle.std.proofs.lemmas.Result.{IfOk-weaker}
use Rattle.sqlite.specs.Files.{file_state}
use Rattle.sqlite.specs.Held.{Held}
use Rattle.sqlite.specs.Start.{FindsIn}
use Rattle.sqlite.specs.State.{HasCleanDisk}
use Rattle.sqlite_disk.specs.declared.Disk as disk
use Rattle.sqlite_store.specs.declared.store.FileStore.{FileStore}
use Rattle.sqlite_wal.specs.Recovery.{Image}
use Rattle.reg_core.specs.declared.audit_result.AuditResult.{AuditResult}
use Rattle.reg_desk_cli.specs.declared.failure.Failure.{Failure}
use Rattle.reg_desk_program.specs.Files.{IsAudited, IsAuditOf}

pub audits_files : {D : Type 0} (g : disk.Ghosts D) (image : Image) (connection : Held (FileStore D g)) (result : Result AuditResult Failure)
    → (HasCleanDisk (file_state connection) → FindsIn image (file_state connection))
    → IfOk result (λ audit_result. (audited : IsAudited g audit_result) × (audited.connection ≡ connection))
    → IfOk result (IsAuditOf g image)
audits_files {D} g image connection result found audited =
    let Finds : Held (FileStore D g) → Type 0 = λ held. HasCleanDisk (file_state held) → FindsIn image (file_state held) in
    IfOk-weaker result _ _ (λ audit_result it. record { audited = it.0; found = subst Finds (sym it.1) found }) audited
