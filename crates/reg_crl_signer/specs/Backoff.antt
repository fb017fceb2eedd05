-- The back-off from a signer: after a timeout the signer is not asked again for ten seconds.
use Rattle.std.specs.Prelude.{◌≡◌, ◌⊎◌, ◌-◌, ◌<◌, ℕ, List, Option, Some, None, Result}
use Rattle.std.specs.Duration.{as_nanos}
use Rattle.std.specs.declared.time.Duration.{Duration}
use Rattle.reg_crl_signer.specs.Devices.{Exchanges}
use Rattle.reg_crl_signer.specs.declared.backoff.BackoffDevice.{BackoffDevice}
use Rattle.reg_crl_signer.specs.declared.device.Device.{Ghosts}
use Rattle.reg_crl_signer.specs.declared.device.DeviceFault.{DeviceFault}

-- there was a timeout, and `now` is less than ten seconds after it, or before it
abbrev pub IsBackedOff : Option Duration → Duration → Type 0
IsBackedOff None now = ⊥
IsBackedOff (Some since) now = as_nanos now - as_nanos since < 10000000000

module _ {D C : Type 0} (g : Ghosts D) where
  -- the device failed to answer the message; or the back-off is active at some time, and nothing changed
  abbrev pub FailsOrIsBackedOff : BackoffDevice D C → List ℕ → ℕ → BackoffDevice D C → Type 0
  FailsOrIsBackedOff it message size after =
      g.fails it.device message size after.device
      ⊎ (((now : Duration) × IsBackedOff it.backoff.since now) × (after ≡ it))

  -- one exchange with the device, which fails only if the device fails or the back-off is active at some time
  abbrev pub ExchangesUnlessBackedOff : BackoffDevice D C → BackoffDevice D C → List ℕ → List ℕ
      → Result ℕ DeviceFault → Type 0
  ExchangesUnlessBackedOff =
      Exchanges (λ it. g.public_key it.device) (λ it. g.device_path it.device)
      g.device_answered g.answers FailsOrIsBackedOff
