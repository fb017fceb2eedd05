-- A CertID identifies at most one certificate of an issuer.
use Rattle.std.proofs.Common.{◌≡◌, ℕ, List, Option, Some, None, sym, ap, ◌∙◌, arith}
use Rattle.std.specs.Prelude.{◌≢◌, MatchOption}
use Rattle.reg_core.specs.Integer.{IsInteger, integer}
use Rattle.reg_core.specs.Serial.{IsSerial}
use Rattle.reg_core.proofs.PublicLaws.{one_number}

-- what is read of octets that spell a serial number is this number
pub only_match : (octets : List ℕ) (outcome : Option ℕ) → MatchOption outcome ((n : ℕ) → IsSerial n → octets ≢ integer n) (λ n. octets ≡ integer n)
    → MatchOption outcome ((n : ℕ) → IsSerial n → ¬ (IsInteger octets n)) (λ n. IsSerial n × IsInteger octets n)
    → (serial : ℕ) → IsSerial serial → octets ≡ integer serial → outcome ≡ Some serial
only_match octets (Some found) exact read serial in_range spelled =
    let below = in_range.1 in
    let below_found = read.0.1 in
    ap (λ (n : ℕ). Some n) (one_number found serial (omega arith) (omega arith) (sym exact ∙ spelled))
only_match octets None exact read serial in_range spelled = absurd (exact serial in_range spelled)
