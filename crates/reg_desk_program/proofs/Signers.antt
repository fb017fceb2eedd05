-- The signer with which a register is opened.
use Rattle.std.proofs.Common.{◌≡◌, ◌∙◌, ℕ, List, get_or, Option, sym, ap, subst, arith}
use Rattle.std.specs.Prelude.{option_map}
use Rattle.sqlite.specs.Held.{Held, state}
use Rattle.sqlite.specs.State.{HasCleanDisk}
use Rattle.sqlite_trees.specs.declared.store.Store.{Ghosts}
use Rattle.reg_office_api.specs.Signers.{Responder}
use Rattle.reg_core.specs.Crls.{latest}
use Rattle.reg_core.specs.Records.{Crl, Records}
use Rattle.reg_core.specs.Sound.{SoundRows}
use Rattle.reg_crl.specs.Signing.{Identity, sha1_algorithm}
use Rattle.reg_der.specs.Der.{tlv, length_octets}
use Rattle.reg_desk_service.specs.Signers.{IsSigning, identity_of_signer}
use Rattle.reg_desk_service.specs.declared.crl_signer.CrlSignerChoice.{CrlSignerChoice}
use Rattle.reg_desk_program.specs.StoreSigners.{FitsLatest, FitsRegister}
use Rattle.reg_crl_signer.specs.Algorithms.{identifier_of}
use Rattle.reg_crl_signer.specs.declared.algorithm.Algorithm.{Algorithm}
use Rattle.reg_crl_signer.specs.declared.algorithm.Algorithm.TheVariants.{EcdsaSha256, EcdsaSha384, RsaSha256, Ed25519}
use Rattle.reg_store_tables.proofs.PublicLaws.{looked_shows, was_clean}
use Rattle.reg_store_tables.specs.Shows.{Shows}
use Rattle.reg_store_tables.specs.Stays.{Looked}
use Rattle.reg_desk_cli.specs.declared.job.SignerAddress.{SignerAddress}

-- A store before its latest CRL was looked up, after that, and after its issuer was looked up.
module _ {C : Type 0} (g : Ghosts C) (old between new : Held C) (answers : Identity → Responder) (identity : Identity) where
  -- a signer that fits the issuer and the latest CRL fits the register
  pub signs_for : (crls : CrlSignerChoice) (address : Option SignerAddress) (last : Option (List ℕ))
      → ((key : List ℕ) (signers : Identity) → signers ≡ identity_of_signer address key → IsSigning crls key signers)
      → Looked g old between → Looked g between new
      → ((records : Records) → Shows g old records → SoundRows records → HasCleanDisk (state g between)
      → last ≡ option_map (λ crl. crl.bytes) (latest records.crls))
      → FitsLatest g between new answers identity address last → FitsRegister g old new answers identity crls
  signs_for crls address last signing first second found it = record {
    is_signing = λ records shown clean. signing records.issuer.key identity (it.identity_is records (looked_shows first records shown) clean);
    follows = λ records shown sound clean crl is other under.
        it.follows crl.bytes
        (found records shown sound (was_clean (state g between) (state g new) second.survives.clean clean)
        ∙ ap (option_map (λ (crl : Crl). crl.bytes)) is)
        other under;
    embeds = λ records shown clean crls. it.embeds records (looked_shows first records shown) clean crls;
  }

-- the AlgorithmIdentifier of the digest is that of no key: they differ in their lengths
pub no_key : (algorithm : Algorithm) → sha1_algorithm ≡ identifier_of algorithm → ⊥
unfolding tlv length_octets
no_key EcdsaSha256 same =
    let lengths : ◌≡◌ {A = ℕ} 9 10 = ap (λ (bytes : List ℕ). get_or bytes 1 0) same in omega arith
no_key EcdsaSha384 same =
    let lengths : ◌≡◌ {A = ℕ} 9 10 = ap (λ (bytes : List ℕ). get_or bytes 1 0) same in omega arith
no_key RsaSha256 same =
    let lengths : ◌≡◌ {A = ℕ} 9 13 = ap (λ (bytes : List ℕ). get_or bytes 1 0) same in omega arith
no_key Ed25519 same =
    let lengths : ◌≡◌ {A = ℕ} 9 5 = ap (λ (bytes : List ℕ). get_or bytes 1 0) same in omega arith
