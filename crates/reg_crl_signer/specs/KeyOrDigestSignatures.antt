-- Signatures with a key, or placeholder digests if there is no key.
use Rattle.std.specs.Prelude.{◌≡◌, ◌⊎◌, ℕ, List, []}
use Rattle.sha1.specs.Sha1.{sha1}
use Rattle.reg_crl.specs.Signing.{Identity, sha1_algorithm}
use Rattle.reg_crl_signer.specs.Forms.{HasForm}

-- the identity of a signer without a key: the AlgorithmIdentifier of SHA-1 (RFC 5280 4.1.1.2), and an empty key
abbrev pub digest : Identity
digest = record { algorithm = sha1_algorithm; public_key = [] }

-- Either the identity is that of a signer without a key, and the signature is the SHA-1 of the message; or the signature is an answer of a device
-- with the identity's key, and has the form of a signature.
abbrev pub SignsByKeyOrDigest : (List ℕ → List ℕ → List ℕ → Type 0) → Identity → List ℕ → List ℕ → Type 0
SignsByKeyOrDigest answers identity message signature =
    ((identity ≡ digest) × (signature ≡ sha1 message))
    ⊎ (answers identity.public_key message signature × HasForm identity signature)

-- Either the identity is that of a signer without a key, and the signature is the SHA-1 of the message; or the signature has the form of one by the
-- identity's algorithm and key.
abbrev pub FormsByKeyOrDigest : Identity → List ℕ → List ℕ → Type 0
FormsByKeyOrDigest identity message signature =
    ((identity ≡ digest) × (signature ≡ sha1 message)) ⊎ HasForm identity signature
