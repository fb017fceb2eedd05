-- Registers in files, as they were opened.
use Rattle.std.proofs.Common.{◌≡◌, List, ℕ, refl, sym, subst}
use Rattle.sqlite.specs.Held.{Held, state}
use Rattle.sqlite.specs.State.{HasCleanDisk}
use Rattle.sqlite_trees.specs.declared.store.Store.{Ghosts}
use Rattle.reg_office_api.specs.CallSteps.{Signs}
use Rattle.reg_office_api.specs.Signers.{OfficeSigners, Responder}
use Rattle.reg_core.specs.Records.{Records}
use Rattle.reg_crl.specs.Signing.{Identity}
use Rattle.reg_desk_service.specs.Signers.{EmbeddedKeyFits}
use Rattle.reg_desk_service.specs.declared.crl_signer.CrlSignerChoice.{CrlSignerChoice}
use Rattle.reg_office.specs.Calls.{StandsFor}
use Rattle.reg_office_reads.specs.Answering.{answers_by}
use Rattle.reg_office_reads.specs.declared.responder.Responder.{Responder as Held_by}
use Rattle.reg_desk_program.specs.StoreSigners.{FitsRegister, MayExpectCrls}
use Rattle.reg_store_tables.specs.Stays.{Looked}

-- a certificate that stands with answers is of the issuer's key, whoever signs CRLs
pub embeds_as : {S : Type 0} (identity : S → Identity) (key : List ℕ) (crls : Identity) (read held : Held_by S) → held ≡ read
    → ((crls : Identity) → EmbeddedKeyFits key (answers_by identity crls read))
    → EmbeddedKeyFits key (answers_by identity crls held)
embeds_as {S} identity key crls read held same embeds =
    subst (λ (r : Held_by S). EmbeddedKeyFits key (answers_by identity crls r)) (sym same) (embeds crls)

-- what is looked up in the tables that a store lends is looked up in the store
module _ {C : Type 0} {g : Ghosts C} {store tables new : Held C} (same : tables ≡ store) where
  pub lent_looked : Looked g tables new → Looked g store new
  lent_looked looked = subst (λ those. Looked g those new) same looked

  pub lent_signs : {answers : Identity → Responder} {identity : Identity} {crls : CrlSignerChoice}
      → FitsRegister g tables new answers identity crls → FitsRegister g store new answers identity crls
  lent_signs {answers} {identity} {crls} signs = subst (λ those. FitsRegister g those new answers identity crls) same signs

  -- the same, whichever call was interrupted
  pub lent_expects : (signs : Signs) (was becomes : OfficeSigners) → MayExpectCrls g signs tables new was becomes
      → (HasCleanDisk (state g new) → HasCleanDisk (state g store))
      × ((signers : OfficeSigners) (before : Records) → StandsFor g signs (store, was) signers before → HasCleanDisk (state g new)
      → (crls : Identity) × (after : Records) × (after ≡ before) × StandsFor g signs (new, becomes) (record { crls = crls; answers = signers.answers }) after)
  lent_expects signs was becomes expects =
      let looks = subst (λ (those : Held C). MayExpectCrls g signs those new was becomes) same expects in
      (looks.0, (λ signers before (interrupted, stands) clean. (becomes.crls, before, refl, (interrupted, looks.1 signers before interrupted stands clean))))
