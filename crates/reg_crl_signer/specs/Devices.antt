-- One exchange with a device that has a key.
use Rattle.std.specs.Prelude.{◌≡◌, ℕ, ◌<◌, List, length, take, Result, IfOk, OnErr}
use Rattle.reg_crl_signer.specs.declared.device.DeviceFault.{DeviceFault}

-- The result of a call of `exchange`. Either `room` begins with an answer to the message by the device with this key and at this path, and is
-- longer than the answer; or the device failed. The device's path and key stay the same.
pub record Exchanges {S : Type 0} (public_key device_path : S → List ℕ)
    (device_answered answers : List ℕ → List ℕ → List ℕ → Type 0)
    (fails : S → List ℕ → ℕ → S → Type 0) (old new : S) (message room : List ℕ)
    (result : Result ℕ DeviceFault) : Type 0 where
  pub answered : IfOk result (λ count. answers (public_key old) message (take count room))
  pub asked_there : IfOk result (λ count. device_answered (device_path old) message (take count room))
  pub short : IfOk result (λ count. count < length room)
  pub failed : OnErr result (fails old message (length room) new)
  pub same_path : device_path new ≡ device_path old
  pub same_key : public_key new ≡ public_key old
