-- Runs of a follower over the register in a file, with a stop after each.
use Rattle.std.specs.Prelude.{◌≡◌, ◌≤◌, ℕ, zero, suc, List, Option}
use Rattle.sqlite.specs.Files.{file_state, over_files}
use Rattle.sqlite.specs.Held.{Held}
use Rattle.sqlite.specs.State.{HasCleanDisk}
use Rattle.sqlite_disk.specs.declared.Disk as disk
use Rattle.sqlite_store.specs.declared.store.FileStore.{FileStore}
use Rattle.reg_core.specs.Records.{Records}
use Rattle.reg_core_lists.specs.declared.positions.Positions.{Positions}
use Rattle.reg_crl.specs.Signing.{Identity}
use Rattle.reg_desk_service.specs.declared.crl_signer.CrlSignerChoice.{CrlSignerChoice}
use Rattle.reg_office.specs.Stands.{SoundFor, Stands}
use Rattle.reg_office.specs.StoppedFollowers.{AreFollowerCalls}
use Rattle.reg_office_api.specs.FollowedLeaders.{FollowCall, IsLeader}
use Rattle.reg_office_api.specs.Follows.{ArePositionsOf}
use Rattle.reg_office_api.specs.Signers.{OfficeSigners, Signs}
use Rattle.reg_store.specs.OpenedAgain.{IsOpenedAgain}
use Rattle.reg_store_tables.specs.Schema.{register_schema}
use Rattle.reg_desk_program.specs.Files.{IsOpenedFrom}

-- A connection to a file, and the signer of CRLs for which the records in it are sound.
abbrev pub FollowedFile : {D : Type 0} → disk.Ghosts D → Type 0
FollowedFile {D = D} g = Held (FileStore D g) × Identity

module _ {D : Type 0} (g : disk.Ghosts D) (signs : Signs) (leader : ℕ → Records) where
  -- One run: a register is opened over this connection, and gets calls of a follower, from the positions of its records on. The machine stops in the
  -- last one, or after it. What the disk kept is opened again, with a register's schema.
  pub record IsRunOverFile (since until : ℕ) (found again : FollowedFile g) : Type 0 where
    pub signing : CrlSignerChoice
    pub first : Held (FileStore D g) × OfficeSigners
    pub last : Held (FileStore D g) × OfficeSigners
    pub opened : IsOpenedFrom signing first.0 first.1
    pub over : opened.connection ≡ found.0
    pub sound : (records : Records) → SoundFor signs found.1 records → SoundFor signs first.1.crls records
    pub own : Positions
    pub own_is : (records : Records) → Stands over_files signs first.0 first.1.crls records
        → HasCleanDisk (file_state last.0) → ArePositionsOf records own
    pub calls : List (Option FollowCall)
    pub called : AreFollowerCalls over_files signs leader since until own first calls last
    pub kept : IsOpenedAgain over_files last.0 again.0
    pub schema : (file_state again.0).committed.schema ≡ register_schema
    pub signer : again.1 ≡ last.1.crls

  -- so many runs, each over what the one before left
  abbrev pub AreRunsOverFile : ℕ → ℕ → ℕ → FollowedFile g → FollowedFile g → Type 0
  AreRunsOverFile zero since until found again = (again ≡ found) × (until ≡ since)
  AreRunsOverFile (suc runs) since until found again =
      (middle : ℕ) × (next : FollowedFile g) × IsRunOverFile since middle found next
      × AreRunsOverFile runs middle until next again

-- A file has records that the leader had in the state `had`. After any runs of a follower, each of which ended at any moment, it has records that the
-- leader had in that state or a later one, up to `until` (as in `AreFollowerCalls`).
abbrev pub RunsKeepFollowing : {D : Type 0} → disk.Ghosts D → Signs → Type 0
RunsKeepFollowing g signs =
    (leader : ℕ → Records)
    (had since until runs : ℕ)
    (found again : FollowedFile g)
    → IsLeader leader
    → had ≤ since
    → Stands over_files signs found.0 found.1 (leader had)
    → AreRunsOverFile g signs leader runs since until found again
    → ∥ ((at : ℕ) × (had ≤ at) × (at ≤ until) × Stands over_files signs again.0 again.1 (leader at)) ∥₁
