-- A command is accepted if none of its checks gives a refusal.
use Rattle.std.proofs.Common.{◌≡◌, ℕ, ◌<◌, ◌≤◌, false, length, Some, None, IsFalse, IsSome, arith}
use Rattle.std.proofs.lemmas.Bool.Decides.{nat_tests}
use Rattle.reg_core.specs.Checks.{clock_end, is_too_long}
use Rattle.reg_core.specs.Records.{Records, order_in, certificate_in, certificate_of_order, request_in, revocation_in}
use Rattle.reg_core.specs.Sound.{SoundRows}
use Rattle.reg_core.specs.Step.{refusal, is_repeat}
use Rattle.reg_core.specs.declared.command.Command.{Command}
use Rattle.reg_core.specs.declared.command.Command.TheVariants.{Register, Revoke}
use Rattle.reg_core.specs.declared.rows.CertRow.{CertRow}
use Rattle.reg_core.specs.declared.rows.OrderRow.{OrderRow}
use Rattle.reg_core.specs.declared.rows.RequestRow.{RequestRow}
use Rattle.reg_core_laws.proofs.Lists.{all_found}

-- the clock of an accepted command
pub record OnClock (records : Records) (now : ℕ) : Type 0 where
  pub before_end : now < clock_end
  pub not_back : records.last ≤ now

pub accepted_clock : (records : Records) (now : ℕ) (command : Command) → refusal records now command ≡ None → OnClock records now
accepted_clock records now command none = record { before_end = grind (arith, nat_tests); not_back = grind (arith, nat_tests) }

-- a certificate is registered that did not stand registered
pub record RegisterAccepted (records : Records) (now : ℕ) (wanted : CertRow) : Type 0 where
  pub clock : OnClock records now
  pub row : OrderRow
  pub found : order_in records.orders wanted.order ≡ Some row
  pub free_order : certificate_of_order records.certificates wanted.order ≡ None
  pub free_serial : certificate_in records.certificates wanted.serial ≡ None
  pub ordered : wanted.not_before ≤ wanted.not_after
  pub within_days : IsFalse (is_too_long records.policy wanted row)
  pub live : now ≤ wanted.not_after
  pub room : length records.certificates < records.policy.cap

pub accepted_register : (records : Records) (now order serial not_before not_after : ℕ)
    → refusal records now (Register order serial not_before not_after) ≡ None
    → is_repeat records (Register order serial not_before not_after) ≡ false
    → RegisterAccepted records now (record { serial = serial; order = order; not_before = not_before; not_after = not_after })
accepted_register records now order serial not_before not_after none fresh = grind (arith, nat_tests)

-- a request is decided: declined, or its certificate revoked
pub record SettleAccepted (records : Records) (now id : ℕ) : Type 0 where
  pub clock : OnClock records now
  pub request : RequestRow
  pub found : request_in records.requests id ≡ Some request
  pub not_declined : IsFalse request.declined
  pub certificate : CertRow
  pub registered : certificate_in records.certificates request.serial ≡ Some certificate
  pub not_revoked : revocation_in records.revocations request.serial ≡ None
  pub live : now ≤ certificate.not_after

-- the same checks are made of a decline
pub accepted_revoke : (records : Records) (now id : ℕ) → SoundRows records → refusal records now (Revoke id) ≡ None → SettleAccepted records now id
accepted_revoke records now id sound none = settled exists
  where
    exists : (request : RequestRow) → request_in records.requests id ≡ Some request → IsSome (certificate_in records.certificates request.serial)
    exists request found = all_found _ _ records.requests request found sound.requests.certificates_exist

    settled : ((request : RequestRow) → request_in records.requests id ≡ Some request → IsSome (certificate_in records.certificates request.serial))
        → SettleAccepted records now id
    settled exist = grind (arith, nat_tests, exist)
