-- The placeholder digest instead of signatures.
use Rattle.std.specs.Prelude.{◌≡◌, ℕ, List}
use Rattle.sha1.specs.Sha1.{sha1}
use Rattle.reg_crl.specs.Signing.{Identity}
use Rattle.reg_office_api.specs.Signers.{OfficeSigners, signs_both}
use Rattle.reg_crl_signer.specs.KeyOrDigestSignatures.{digest}

-- the digest is used for both signatures: of CRLs and of OCSP responses
abbrev pub digest_alone : OfficeSigners
digest_alone = signs_both digest

-- its signature of a message: the SHA-1 of it
abbrev pub digests : Identity → List ℕ → List ℕ → Type 0
digests identity message signature = signature ≡ sha1 message
