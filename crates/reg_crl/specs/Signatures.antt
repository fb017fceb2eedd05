-- The result of a call of `Signer::sign`.
use Rattle.std.specs.Prelude.{◌≡◌, ℕ, ◌-◌, ◌^◌, ◌<◌, ◌≤◌, List, length, Result, Vec, IfOk, IsErrOf, OnOk}
use Rattle.std.specs.Global.{Global}
use Rattle.reg_crl.specs.Signing.{Identity}
use Rattle.reg_crl.specs.declared.signer.SignFault.{SignFault}
use Rattle.reg_crl.specs.declared.signer.SignFault.TheVariants.{Device, Memory}

-- The signer is `old` before the call and `new` after it. It returned a signature by its algorithm and key, or a fault. The count of
-- failures rises if the device failed, and stays otherwise. At u64::MAX it can't rise, so the signer doesn't report a failed device.
pub record SignsOrFails {S : Type 0} (identity : S → Identity) (signs : Identity → List ℕ → List ℕ → Type 0)
    (failure_count : S → ℕ)
    (old new : S) (message : List ℕ) (result : Result (Vec ℕ Global) SignFault) : Type 0 where
  pub signed : IfOk result (λ signature. signs (identity old) message signature.items)
  pub short : IfOk result (λ signature. length signature.items ≤ 65536)
  pub device : IsErrOf result Device → failure_count old < failure_count new
  pub exhausted : failure_count old ≡ 2 ^ 64 - 1 → ¬ (IsErrOf result Device)
  pub memory : IsErrOf result Memory → failure_count new ≡ failure_count old
  pub ok : OnOk result (failure_count new ≡ failure_count old)
  pub same_identity : identity new ≡ identity old
