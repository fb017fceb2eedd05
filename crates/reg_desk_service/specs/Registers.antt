-- A register is opened, created and audited on a machine. Each relation leads from the machine before to the machine after.
use Rattle.std.specs.Prelude.{◌≡◌, ◌⊎◌, ℕ, List}
use Rattle.reg_desk_cli.specs.declared.failure.Failure.{Failure}
use Rattle.reg_core.specs.declared.audit_result.AuditResult.{AuditResult}
use Rattle.reg_desk_service.specs.Signers.{HasCertificate, Signing}
use Rattle.reg_desk_service.specs.declared.machine.Machine.{Ghosts as Machine}

module _ {M O D S R : Type 0} (machines : Machine M O D S R) (machine : M) (path : List ℕ) where
  -- The file at a path was opened as this database, over which no statement ran yet, and this is the machine after that.
  abbrev pub Connects : D → M → Type 0
  Connects database machine' = machines.connected machine path database machine' × machines.fresh database

  -- The register at a path was opened for these signatures: a database was opened there, and this office is over it.
  pub record Opened (signing : Signing) (office : O) (machine' : M) : Type 0 where
    pub responder : R
    pub database : D
    pub certified : machines.certified signing.1 responder
    pub begun : machines.begun machine path
    pub connects : Connects database machine'
    pub opened : machines.opened database signing.0 responder office

  -- The register was not opened, for this reason: a certificate, which is read first, could not be used; the files at the path could not be read, or
  -- not be opened as a database; or the database has no register for which these signers may sign.
  abbrev pub Unopened : Signing → Failure → M → Type 0
  Unopened signing why machine' =
      ((HasCertificate signing.1 ⊎ machines.read_failed machine path why) × (machine' ≡ machine))
      ⊎ (machines.connect_failed machine path why machine' ⊎ ((database : D) × Connects database machine'))

  -- A register was created in a file at a path, and this is the office over it.
  pub record Created (office : O) (machine' : M) : Type 0 where
    pub database : D
    pub taken : machines.taken machine path
    pub connects : Connects database machine'
    pub made : machines.made database office

  -- No register was created, for this reason: there is no file at the path, the file could not be opened as a database, or no register could be
  -- created in it.
  abbrev pub NotCreated : Failure → M → Type 0
  NotCreated why machine' =
      (machines.absent machine path × (machine' ≡ machine))
      ⊎ (machines.connect_failed machine path why machine' ⊎ ((database : D) × Connects database machine'))

  -- An audit of the register at a path had this result. The files were opened read-only.
  pub record Audits (audit_result : AuditResult) : Type 0 where
    pub sources : S
    pub read : machines.read machine path sources
    pub audited : machines.audited sources audit_result

  -- The register was not audited, for this reason: the files at the path, or the database in them, could not be read.
  abbrev pub Unaudited : Failure → Type 0
  Unaudited why = machines.read_failed machine path why ⊎ ((sources : S) × machines.read machine path sources)
