-- The signer whose key is in a device.
use Rattle.std.specs.Prelude.{◌≡◌, ◌⊎◌, ℕ, ◌≤◌, List, length, Result, Vec, None, IfOk, IsErrOf}
use Rattle.std.specs.Global.{Global}
use Rattle.reg_crl.specs.Signatures.{SignsOrFails}
use Rattle.reg_crl.specs.Signing.{Identity}
use Rattle.reg_crl.specs.declared.signer.SignFault.{SignFault}
use Rattle.reg_crl.specs.declared.signer.SignFault.TheVariants.{Device}
use Rattle.reg_crl_signer.specs.Forms.{HasForm, HasKeyForm, HasSignatureForm, identity_of}
use Rattle.reg_crl_signer.specs.declared.algorithm.Algorithm.{Algorithm}
use Rattle.reg_crl_signer.specs.declared.device.Device.{Ghosts}
use Rattle.reg_crl_signer.specs.declared.signer.DeviceSigner.{DeviceSigner}

module _ {D : Type 0} (g : Ghosts D) where
  -- the algorithm and the public key of a signer
  abbrev pub device_identity : DeviceSigner D g → Identity
  device_identity it = identity_of it.algorithm (g.public_key it.device)

  -- The signer has this device and this algorithm, no failures and no preset. The device's key has the form of a key of the algorithm.
  pub record IsNew (device : D) (algorithm : Algorithm) (signer : DeviceSigner D g) : Type 0 where
    pub device_is : signer.device ≡ device
    pub algorithm_is : signer.algorithm ≡ algorithm
    pub failures : signer.failures ≡ 0
    pub preset_signature : signer.preset_signature ≡ None
    pub key : HasKeyForm algorithm (g.public_key device)

  -- a device with the identity's key gave this answer to the message, and the answer has the form of a signature
  abbrev pub SignsByDevice : Identity → List ℕ → List ℕ → Type 0
  SignsByDevice identity message signature =
      g.answers identity.public_key message signature × HasForm identity signature

  -- the result of a call of `sign`: the signer before and after, the message, and the signature or fault
  abbrev pub SigningByDevice : DeviceSigner D g → DeviceSigner D g → List ℕ
      → Result (Vec ℕ Global) SignFault → Type 0
  SigningByDevice = SignsOrFails device_identity SignsByDevice (λ it. it.failures)

  -- the device failed to answer the message, with room for `size` octets, or its answer doesn't have the form of a signature under its key
  abbrev pub FailsToSign : DeviceSigner D g → List ℕ → ℕ → DeviceSigner D g → Type 0
  FailsToSign it message size after =
      g.fails it.device message size after.device
      ⊎ ((answer : List ℕ) × g.answers (g.public_key it.device) message answer
      × ¬ (HasSignatureForm it.algorithm (g.public_key it.device) answer))

  -- Without a preset, the signature is an answer of the device at its path. With one, it is an answer that another caller got there. It has at most
  -- 4,096 bytes. Without a preset, the fault `Device` means that the device failed to sign. The path stays the same.
  pub record AsksAtItsPath (old new : DeviceSigner D g) (message : List ℕ)
      (result : Result (Vec ℕ Global) SignFault) : Type 0 where
    pub device_answered : old.preset_signature ≡ None
        → IfOk result (λ signature. g.device_answered (g.device_path old.device) message signature.items)
    pub given : ¬ (old.preset_signature ≡ None) → IfOk result
        (λ signature. ∥ g.answered_another_caller (g.device_path old.device) message signature.items ∥₁)
    pub within : IfOk result (λ signature. length signature.items ≤ 4096)
    pub why : old.preset_signature ≡ None → IsErrOf result Device → FailsToSign old message 4097 new
    pub same_path : g.device_path new.device ≡ g.device_path old.device
