-- The signatures of a register's CRLs, if it switched from the placeholder digest to a key.
use Rattle.std.specs.Prelude.{◌≡◌, ℕ, List, Result}
use Rattle.sha1.specs.Sha1.{sha1}
use Rattle.sqlite_trees.specs.declared.store.Store.{Ghosts}
use Rattle.sqlite.specs.Held.{Held}
use Rattle.reg_core.specs.Records.{Records}
use Rattle.reg_core.specs.declared.command.Command.{Command}
use Rattle.reg_core.specs.declared.command.Reply.{Reply}
use Rattle.reg_core.specs.declared.refusal.Fault.{Fault}
use Rattle.reg_core.specs.Crls.{CertList}
use Rattle.reg_crl.specs.Signing.{Identity, signed_since, sha1_algorithm, signed_by}
use Rattle.reg_crl.specs.declared.signer.Signer.{Ghosts as Signer}
use Rattle.reg_office_api.specs.Signers.{Signs}
use Rattle.reg_core_laws.specs.Run.{Run}
use Rattle.reg_office.specs.Stands.{SoundFor, Stands}

-- a law about signed CRLs, for any signer, if the signer signed all of them
abbrev pub Signed : {S : Type 0} → Signer S → ((CertList → List ℕ → Type 0) → Type 0) → Type 0
Signed {S = S} signer Law = (it : S) → Law (signed_by signer.signs (signer.identity it))

-- a law about signed CRLs, for any signer, and any number below which CRLs have the placeholder digest
abbrev pub SignedOrDigest : {S : Type 0} → Signer S → ((CertList → List ℕ → Type 0) → Type 0) → Type 0
SignedOrDigest {S = S} signer Law =
    (it : S) (since : ℕ) → Law (signed_since since signer.signs (signer.identity it))

-- a run in which the signer signs each new CRL is also one over `signed_since`: CRLs below `since` have the digest, and were issued before the run
abbrev pub RunsSince : Signs → Identity → Type 0
RunsSince signs identity =
    (records after : Records) (commands : List (ℕ × Command)) (outcomes : List (Result Reply Fault))
    → (sound : SoundFor signs identity records)
    → Run (signed_by signs identity) records commands outcomes after
    → Run (signed_since sound.since signs identity) records commands outcomes after

-- this signer makes the placeholder digest: its AlgorithmIdentifier is that of SHA-1, and each signature is the SHA-1 of its message
pub record IsDigestSigner (signs : Signs) (identity : Identity) : Type 0 where
  pub algorithm : identity.algorithm ≡ sha1_algorithm
  pub signature_is_sha1 : (message signature : List ℕ) → signs identity message signature → signature ≡ sha1 message

-- records that are sound for the placeholder digest are sound for any next signer: all CRLs so far have the digest
abbrev pub FollowsDigest : {C : Type 0} → Ghosts C → Signs → Type 0
FollowsDigest {C = C} g signs =
    (held : Held C) (digest identity : Identity) (records : Records)
    → IsDigestSigner signs digest → Stands g signs held digest records → Stands g signs held identity records
