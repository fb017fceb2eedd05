-- Registers in files, whose offices cache undecided requests.
use Rattle.std.proofs.Common.{◌≡◌, sym, subst}
use Rattle.sqlite.specs.Files.{over_files}
use Rattle.sqlite.specs.Held.{Held, state}
use Rattle.sqlite.specs.State.{HasCleanDisk}
use Rattle.sqlite_disk.specs.declared.Disk as disk
use Rattle.sqlite_store.specs.declared.store.FileStore.{FileStore}
use Rattle.sqlite_trees.specs.declared.store.Store.{Ghosts}
use Rattle.reg_core.specs.Records.{Records}
use Rattle.reg_crl.specs.Signing.{Identity}
use Rattle.reg_crl.specs.declared.signer.Signer.{Ghosts as Signer}
use Rattle.reg_desk_program.specs.Files.{IsMadeFrom, OpensFor, OpensOver}
use Rattle.reg_desk_service.specs.declared.crl_signer.CrlSignerChoice.{CrlSignerChoice}
use Rattle.reg_office.specs.Calls.{StandsFor, seen}
use Rattle.reg_office.specs.declared.office.Office.{Office}
use Rattle.reg_office_api.specs.CallSteps.{Signs}
use Rattle.reg_office_api.specs.Signers.{OfficeSigners}
use Rattle.reg_office_cache.specs.Undecided.{AreUndecided}
use Rattle.reg_office_cache.specs.declared.undecided.UndecidedRequests.{UndecidedRequests}
use Rattle.reg_office_reads.specs.declared.responder.Responder.{Responder}

-- the office that was opened is the one that is held
pub opened_for : {D S : Type 0} {g : disk.Ghosts D} {signer : Signer S} {connection : Held (FileStore D g)} {crls : CrlSignerChoice} {responder : Responder S}
    {office held : Office (FileStore D g) S} → held ≡ office → OpensOver over_files connection crls office.store (seen signer office).1
    → office.responder ≡ responder → OpensFor signer connection crls responder held
opened_for {signer = signer} {connection = connection} {crls = crls} {responder = responder} same opens answers =
    subst (λ it. OpensFor signer connection crls responder it) (sym same) (record { opens = opens; answers = answers })

pub made_from : {D : Type 0} {g : disk.Ghosts D} {connection store held : Held (FileStore D g)} → held ≡ store → IsMadeFrom connection store → IsMadeFrom connection held
made_from {connection = connection} same made = subst (λ it. IsMadeFrom connection it) (sym same) made

-- another signer of CRLs
pub cached_expects : {C : Type 0} {g : Ghosts C} {signs : Signs} {old new : Held C} {was becomes : OfficeSigners} (known : UndecidedRequests)
    → (HasCleanDisk (state g new) → HasCleanDisk (state g old))
    × ((signers : OfficeSigners) (before : Records) → StandsFor g signs (old, was) signers before → HasCleanDisk (state g new)
    → (crls : Identity) × (after : Records) × (after ≡ before)
    × StandsFor g signs (new, becomes) (record { crls = crls; answers = signers.answers }) after)
    → (HasCleanDisk (state g new) → HasCleanDisk (state g old))
    × ((signers : OfficeSigners) (before : Records) → StandsFor g signs (old, was) signers before × AreUndecided before known
    → HasCleanDisk (state g new)
    → (crls : Identity) × (after : Records) × (after ≡ before)
    × (StandsFor g signs (new, becomes) (record { crls = crls; answers = signers.answers }) after × AreUndecided after known))
cached_expects known expects = (
  expects.0,
  (λ signers before stood clean.
      let (crls, after, same, stands) = expects.1 signers before stood.0 clean in
      (crls, after, same, (stands, subst (λ (records : Records). AreUndecided records known) (sym same) stood.1))),
)
