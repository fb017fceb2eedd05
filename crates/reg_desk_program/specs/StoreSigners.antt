-- Which signer of CRLs fits the register of a store.
use Rattle.std.specs.Prelude.{◌≡◌, ℕ, List, Option, Some, None}
use Rattle.sqlite.specs.Held.{Held, state}
use Rattle.sqlite.specs.State.{HasCleanDisk}
use Rattle.sqlite_trees.specs.declared.store.Store.{Ghosts}
use Rattle.reg_office.specs.StoppedFollowers.{LooksWithCrls}
use Rattle.reg_office_api.specs.CallSteps.{Signs}
use Rattle.reg_office_api.specs.Signers.{OfficeSigners, Responder}
use Rattle.reg_core.specs.Records.{Records}
use Rattle.reg_core.specs.Sound.{SoundRows}
use Rattle.reg_crl.specs.Signing.{Identity}
use Rattle.reg_desk_service.specs.Signers.{EmbeddedKeyFits, Follows, IsSigning, MayFollow, identity_of_signer}
use Rattle.reg_desk_service.specs.declared.crl_signer.CrlSignerChoice.{CrlSignerChoice}
use Rattle.reg_desk_service.specs.declared.crl_signer.CrlSignerChoice.TheVariants.{NoSigner, Digest, KeyAt}
use Rattle.reg_crl_signer.specs.Signed.{IsCrlWithAlgorithm}
use Rattle.reg_store_tables.specs.Shows.{Shows}
use Rattle.reg_desk_cli.specs.declared.job.SignerAddress.{SignerAddress}

-- the path of the socket of the signer of CRLs: `None` for the digest; any path or `None` for `NoSigner`
abbrev pub SignerAtPath : CrlSignerChoice → Option (List ℕ) → Type 0
SignerAtPath NoSigner path = Unit {0}
SignerAtPath Digest path = path ≡ None
SignerAtPath (KeyAt address) path = path ≡ Some address.socket

-- A store before and after the records were read; and the responder to OCSP requests, which may be the signer of CRLs.
module _ {C : Type 0} (g : Ghosts C) (old new : Held C) (answers : Identity → Responder)
    (identity : Identity) where
  -- The signer is the one at this address, with the issuer's key, or the digest; a CRL with its algorithm may follow the latest CRL; and the
  -- responder's certificate, if the issuer's key signs its responses, has that key.
  pub record FitsLatest (address : Option SignerAddress) (latest : Option (List ℕ)) : Type 0 where
    pub identity_is : (records : Records) → Shows g old records → HasCleanDisk (state g new)
        → identity ≡ identity_of_signer address records.issuer.key
    pub follows : (crl : List ℕ) → latest ≡ Some crl → (other : List ℕ) → IsCrlWithAlgorithm crl other
        → MayFollow identity.algorithm other
    pub embeds : (records : Records) → Shows g old records → HasCleanDisk (state g new)
        → (crls : Identity) → EmbeddedKeyFits records.issuer.key (answers crls)

  -- the same for the signer with which the register is opened, and the latest CRL of the records
  pub record FitsRegister (crls : CrlSignerChoice) : Type 0 where
    pub is_signing : (records : Records) → Shows g old records → HasCleanDisk (state g new)
        → IsSigning crls records.issuer.key identity
    pub follows : (records : Records) → Shows g old records → SoundRows records → HasCleanDisk (state g new)
        → Follows records identity.algorithm
    pub embeds : (records : Records) → Shows g old records → HasCleanDisk (state g new)
        → (crls : Identity) → EmbeddedKeyFits records.issuer.key (answers crls)

-- `LooksWithCrls`, over an office's store before and after look-ups, with its signers
abbrev pub MayExpectCrls : {C : Type 0} → Ghosts C → Signs → Held C → Held C → OfficeSigners → OfficeSigners → Type 0
MayExpectCrls g signs old new was becomes = LooksWithCrls g signs (old, was) (new, becomes)
