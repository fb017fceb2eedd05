-- The signer of a register: its issuer's key, the placeholder digest, or none.
use Rattle.std.specs.Prelude.{◌≡◌, ℕ, List, Option, Some, None, Result, Vec, option_map}
use Rattle.std.specs.Global.{Global}
use Rattle.reg_crl.specs.Signatures.{SignsOrFails}
use Rattle.reg_crl.specs.Signing.{Identity}
use Rattle.reg_crl.specs.declared.signer.SignFault.{SignFault}
use Rattle.reg_crl_signer.specs.KeyOrDigestSignatures.{SignsByKeyOrDigest, digest}
use Rattle.reg_crl_signer.specs.DeviceSigners.{device_identity}
use Rattle.reg_crl_signer.specs.declared.device.Device.{Ghosts}
use Rattle.reg_crl_signer.specs.declared.register_signer.RegisterSigner.{RegisterSigner}
use Rattle.reg_crl_signer.specs.declared.register_signer.RegisterSigner.TheVariants as by
use Rattle.reg_crl_signer.specs.declared.signer.DeviceSigner.{DeviceSigner}

module _ {D : Type 0} (g : Ghosts D) where
  -- the signer with the key, if there is a key
  abbrev pub key_of : RegisterSigner D g → Option (DeviceSigner D g)
  key_of (by.Key signer) = Some signer
  key_of (by.Digest placeholder) = None
  key_of (by.NoSigner placeholder failures) = None

  -- the algorithm and the public key of the signer; without a key, those of the placeholder digest
  abbrev pub register_signer_identity : RegisterSigner D g → Identity
  register_signer_identity (by.Key signer) = device_identity g signer
  register_signer_identity (by.Digest placeholder) = digest
  register_signer_identity (by.NoSigner placeholder failures) = digest

  -- how many failures the signer has counted; the placeholder digest counts none
  abbrev pub register_signer_failures : RegisterSigner D g → ℕ
  register_signer_failures (by.Key signer) = signer.failures
  register_signer_failures (by.Digest placeholder) = 0
  register_signer_failures (by.NoSigner placeholder failures) = failures

  -- there is no signer
  abbrev pub HasNoSigner : RegisterSigner D g → Type 0
  HasNoSigner (by.Key signer) = ⊥
  HasNoSigner (by.Digest placeholder) = ⊥
  HasNoSigner (by.NoSigner placeholder failures) = Unit {0}

  -- the path of the device with the key, if there is a key
  abbrev pub register_signer_path : RegisterSigner D g → Option (List ℕ)
  register_signer_path it = option_map (λ signer. g.device_path signer.device) (key_of it)

  -- the result of a call of `sign`: the signer before and after, the message, and the signature or fault
  abbrev pub SigningByRegisterSigner : RegisterSigner D g → RegisterSigner D g → List ℕ
      → Result (Vec ℕ Global) SignFault → Type 0
  SigningByRegisterSigner =
      SignsOrFails register_signer_identity (SignsByKeyOrDigest g.answers) register_signer_failures

  -- the signer has the same algorithm, key, path and count of failures as before
  pub record SignsAsBefore (old new : RegisterSigner D g) : Type 0 where
    pub same_identity : register_signer_identity new ≡ register_signer_identity old
    pub same_failures : register_signer_failures new ≡ register_signer_failures old
    pub same_path : register_signer_path new ≡ register_signer_path old
