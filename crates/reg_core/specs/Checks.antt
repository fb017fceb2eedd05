-- The checks of each command, in their order. A check that fails gives a refusal, else `None`; the command is refused with the
-- first refusal. `full`: the table to which the command would add a row has as many rows as the policy allows, or more; checked last.
use Rattle.std.specs.Prelude.{ℕ, Bool, true, not, cond, ◌||◌, ◌==◌, ◌+◌, ◌-◌, ◌*◌, min, nat_le, nat_lt, List, [], ◌∷◌, ◌++◌, Option, Some, None, Result, Ok, Err}
pub use Rattle.reg_core.specs.Calendar.{clock_end}
use Rattle.reg_core.specs.Label.{is_name}
use Rattle.reg_core.specs.Grounds.{ground_or_refusal}
use Rattle.reg_core.specs.Policy.{Terms}
use Rattle.reg_core.specs.Schedule.{longest_at, greatest_of}
use Rattle.reg_core.specs.declared.grounds.Ground.{Ground}
use Rattle.reg_core.specs.declared.rows.SubscriberRow.{SubscriberRow}
use Rattle.reg_core.specs.declared.rows.OrderRow.{OrderRow}
use Rattle.reg_core.specs.declared.rows.CertRow.{CertRow}
use Rattle.reg_core.specs.declared.rows.RequestRow.{RequestRow}
use Rattle.reg_core.specs.declared.rows.RevocationRow.{RevocationRow}
use Rattle.reg_core.specs.declared.refusal.Refusal.{Refusal}
use Rattle.reg_core.specs.declared.refusal.Refusal.TheVariants.{ClockBack, ClockEnd, Full, BadName, NameTaken, NoSubscriber, BadDays, NoOrder, OrderFilled, SerialTaken, BadValidity, TooLong, Ended, UnknownSerial, NoRequest, DeclinedBefore, RevokedBefore, Expired as ExpiredBefore}

-- the refusal, if the test holds
abbrev pub refused_if : Bool → Refusal → Option Refusal
refused_if test refusal = cond test (Some refusal) None

-- the refusal, if the look-up found no row
abbrev pub refused_if_none : {Row : Type 0} → Option Row → Refusal → Option Refusal
refused_if_none None refusal = Some refusal
refused_if_none (Some row) refusal = None

-- the row's refusal, if the look-up found a row that passes the test
abbrev pub refused_if_some : {Row : Type 0} → Option Row → (Row → Bool) → (Row → Refusal) → Option Refusal
refused_if_some None test refusal = None
refused_if_some (Some row) test refusal = cond (test row) (Some (refusal row)) None

-- the first refusal in the list
abbrev pub first_refusal : List (Option Refusal) → Option Refusal
first_refusal [] = None
first_refusal (None ∷ rest) = first_refusal rest
first_refusal (Some refusal ∷ rest) = Some refusal

-- the moment is before the clock's end, and not before the last accepted one
abbrev pub clock_checks : ℕ → ℕ → List (Option Refusal)
clock_checks now last =
    refused_if (nat_le clock_end now) ClockEnd ∷ refused_if (nat_lt now last) (ClockBack last) ∷ []

-- the name has only allowed bytes, and no subscriber has it
abbrev pub subscriber_checks : List ℕ → Option SubscriberRow → Bool → List (Option Refusal)
subscriber_checks name by_name full =
    refused_if (not (is_name name)) BadName
    ∷ refused_if_some by_name (λ row. true) (λ row. NameTaken row.id)
    ∷ refused_if full Full
    ∷ []

-- the subscriber exists, and the days are from 1 to the most of any step of the schedule
abbrev pub order_checks : Terms → Option SubscriberRow → ℕ → Bool → List (Option Refusal)
order_checks policy subscriber days full =
    refused_if_none subscriber NoSubscriber
    ∷ refused_if ((days == 0) || nat_lt (greatest_of policy.schedule) days)
    (BadDays (greatest_of policy.schedule))
    ∷ refused_if full Full
    ∷ []

-- the seconds of a validity, from notBefore to notAfter, both included (RFC 5280 4.1.2.5)
abbrev pub validity_seconds : CertRow → ℕ
validity_seconds certificate = (certificate.not_after - certificate.not_before) + 1

-- the validity is longer than the order's days, or than the longest validity for its notBefore
abbrev pub is_too_long : Terms → CertRow → OrderRow → Bool
is_too_long policy wanted order =
    nat_lt (86400 * min order.days (longest_at policy.schedule wanted.not_before)) (validity_seconds wanted)

-- notAfter is not before notBefore, the validity is no longer than ordered and allowed, and the certificate is not expired
abbrev pub validity_checks : Terms → ℕ → CertRow → Option OrderRow → List (Option Refusal)
validity_checks policy now wanted order =
    refused_if (nat_lt wanted.not_after wanted.not_before) BadValidity
    ∷ refused_if_some order (is_too_long policy wanted) (λ row. TooLong)
    ∷ refused_if (nat_lt wanted.not_after now) Ended
    ∷ []

-- the order exists and has no certificate yet, no certificate has the serial number, and the validity passes its checks
abbrev pub register_checks : Terms → ℕ → CertRow → Option OrderRow → Option CertRow → Option CertRow → Bool
    → List (Option Refusal)
register_checks policy now wanted order by_order by_serial full =
    refused_if_none order NoOrder
    ∷ refused_if_some by_order (λ row. true) (λ row. OrderFilled)
    ∷ refused_if_some by_serial (λ row. true) (λ row. SerialTaken)
    ∷ (validity_checks policy now wanted order ++ refused_if full Full ∷ [])

-- the refusal of a word that is not the name of a ground
abbrev pub refused_if_no_ground : Result Ground Refusal → Option Refusal
refused_if_no_ground (Ok named) = None
refused_if_no_ground (Err refusal) = Some refusal

-- the certificate is neither revoked nor past notAfter
abbrev pub live_checks : ℕ → Option CertRow → Option RevocationRow → List (Option Refusal)
live_checks now certificate revocation =
    refused_if_some revocation (λ row. true) (λ row. RevokedBefore row.at)
    ∷ refused_if_some certificate (λ row. nat_lt row.not_after now) (λ row. ExpiredBefore)
    ∷ []

-- the certificate is registered, the word names a ground, and the certificate is neither revoked nor past notAfter
abbrev pub request_checks : ℕ → Option CertRow → List ℕ → Option RevocationRow → Bool → List (Option Refusal)
request_checks now certificate word revocation full =
    refused_if_none certificate UnknownSerial
    ∷ refused_if_no_ground (ground_or_refusal word)
    ∷ (live_checks now certificate revocation ++ refused_if full Full ∷ [])

-- a request that can be declined or lead to a revocation: it exists, was not declined, and its certificate is neither revoked nor expired
abbrev pub pending_request_checks : ℕ → Option RequestRow → Option CertRow → Option RevocationRow
    → List (Option Refusal)
pending_request_checks now request certificate revocation =
    refused_if_none request NoRequest
    ∷ refused_if_some request (λ row. row.declined) (λ row. DeclinedBefore)
    ∷ live_checks now certificate revocation

-- the table of CRLs is not full
abbrev pub crl_checks : Bool → List (Option Refusal)
crl_checks full = refused_if full Full ∷ []
