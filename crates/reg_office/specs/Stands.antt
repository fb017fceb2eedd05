-- The records of an office. The derived tables (`standing`, `kept`, `listed`) hold statuses, their counts and CRL entries, which follow
-- from the records.
use Rattle.std.specs.Prelude.{◌≡◌, ℕ, ◌≤◌, List, ◌++◌, Result, OnOk}
use Rattle.sqlite_trees.specs.declared.store.Store.{Ghosts}
use Rattle.sqlite.specs.Held.{Held}
use Rattle.reg_core.specs.Crls.{next_number}
use Rattle.reg_core.specs.Records.{Records}
use Rattle.reg_core.specs.Sound.{CrlsSigned, SoundRows}
use Rattle.reg_core.specs.declared.command.Command.{Command}
use Rattle.reg_core.specs.declared.command.Reply.{Reply}
use Rattle.reg_core.specs.declared.refusal.Fault.{Fault}
use Rattle.reg_crl.specs.Signing.{Identity, signed_since, signed_by}
use Rattle.reg_office_api.specs.Signers.{Signs}
use Rattle.reg_store_tables.specs.Kept.{ShowsKept}
use Rattle.reg_core_laws.specs.Run.{Happens, Run}

-- The records are sound, and each CRL is signed over its entries by the office's signer, from the number `since` on, which is at most that of
-- the next CRL. CRLs below it have the placeholder digest, from before the register had a key. Without a key the signer's signature is that digest.
pub record SoundFor (signs : Signs) (identity : Identity) (records : Records) : Type 0 where
  pub since : ℕ
  pub reached : since ≤ next_number records.crls
  pub rows : SoundRows records
  pub signatures : CrlsSigned (signed_since since signs identity) records

-- while the connection is open, the tables show the records, and the derived tables match them; the records are sound for the office's signer
pub record Stands {C : Type 0} (g : Ghosts C) (signs : Signs) (held : Held C) (identity : Identity)
    (records : Records) : Type 0 where
  pub shown : ShowsKept g held records
  pub sound : SoundFor signs identity records

-- a command at a moment had this outcome over the records, and the store shows the records after it
pub record HasOutcome {C : Type 0} (g : Ghosts C) (signs : Signs) (held : Held C) (identity : Identity)
    (records : Records) (now : ℕ) (command : Command) (outcome : Result Reply Fault) : Type 0 where
  pub after : Records
  pub happens : Happens (signed_by signs identity) records now command outcome after
  pub stands : Stands g signs held identity after

-- commands, each at its moment, had these outcomes, one for each and in order, and the store shows the records after them
pub record HasRun {C : Type 0} (g : Ghosts C) (signs : Signs) (held : Held C) (identity : Identity)
    (records : Records) (commands : List (ℕ × Command)) (outcomes : List (Result Reply Fault)) : Type 0 where
  pub after : Records
  pub run : Run (signed_by signs identity) records commands outcomes after
  pub stands : Stands g signs held identity after

-- if the call succeeds, it appended outcomes of which `Holds` holds
abbrev pub Appends : {E : Type 0} → Result (Unit {0}) E → List (Result Reply Fault)
    → List (Result Reply Fault) → (List (Result Reply Fault) → Type 0) → Type 0
Appends result old new Holds =
    OnOk result ((came : List (Result Reply Fault)) × (new ≡ old ++ came) × Holds came)
