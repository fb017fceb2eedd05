-- One command: the first refusal that applies, or else the reply, and the records after it.
use Rattle.std.specs.Prelude.{◌≡◌, ℕ, Bool, false, cond, ◌==◌, ◌&&◌, ◌+◌, nat_le, nat_lt, List, [], ◌++◌, length, Option, Some, None, option_and_then, Result, Ok, Err}
use Rattle.std.specs.List.{list_any}
use Rattle.reg_core.specs.Records.{Records, subscriber_in, subscriber_named, order_in, certificate_in, certificate_of_order, request_in, revocation_in}
use Rattle.reg_core.specs.Checks.{first_refusal, clock_checks, subscriber_checks, order_checks, register_checks, request_checks, pending_request_checks, crl_checks}
use Rattle.reg_core.specs.Changes.{changed_by, with_crl, with_revocation}
use Rattle.reg_core.specs.Crls.{CertList, cert_list, listed_revocations, next_number}
use Rattle.reg_core.specs.Due.{deadline}
use Rattle.reg_core.specs.Grounds.{reason_of, limit_of, ground_or as ground}
use Rattle.reg_core.specs.declared.change.Change.TheVariants as change
use Rattle.reg_core.specs.declared.grounds.Ground.TheVariants.{Asked}
use Rattle.reg_core.specs.declared.rows.CertRow.{CertRow}
use Rattle.reg_core.specs.declared.rows.RequestRow.{RequestRow}
use Rattle.reg_core.specs.declared.rows.RevocationRow.{RevocationRow}
use Rattle.reg_core.specs.declared.command.Command.{Command}
use Rattle.reg_core.specs.declared.command.Command.TheVariants.{Subscriber, Order, Register, Request, Decline, Revoke, Crl as IssueCrl}
use Rattle.reg_core.specs.declared.command.Reply.{Reply}
use Rattle.reg_core.specs.declared.command.Reply.TheVariants.{Subscriber as SubscriberEntered, Order as OrderEntered, Registered, Same, Request as RequestEntered, Declined, Revoked as RevokedNow, Crl as CrlIssued}
use Rattle.reg_core.specs.declared.refusal.Refusal.{Refusal}
use Rattle.reg_core.specs.declared.refusal.Fault.{Fault}
use Rattle.reg_core.specs.declared.refusal.Fault.TheVariants.{Refused}

-- the table has at least as many rows as the policy allows
abbrev pub is_full : {Row : Type 0} → Records → List Row → Bool
is_full records rows = nat_le records.policy.cap (length rows)

-- two certificates are equal in all four fields
abbrev pub same_certificate : CertRow → CertRow → Bool
same_certificate a b =
    (a.serial == b.serial) && (a.order == b.order) && (a.not_before == b.not_before)
    && (a.not_after == b.not_after)

-- the command registers a certificate that is registered already, equal in all four fields
abbrev pub is_repeat : Records → Command → Bool
is_repeat records (Register order serial not_before not_after) =
    list_any
    (same_certificate (record {
      serial = serial;
      order = order;
      not_before = not_before;
      not_after = not_after;
    }))
    records.certificates
is_repeat records (Subscriber name) = false
is_repeat records (Order subscriber days) = false
is_repeat records (Request serial word) = false
is_repeat records (Decline id) = false
is_repeat records (Revoke id) = false
is_repeat records IssueCrl = false

-- the certificate of the serial number in the request with this id; `revocation_of_request` gives its revocation
abbrev pub certificate_of_request : Records → ℕ → Option CertRow
certificate_of_request records id =
    option_and_then (λ row. certificate_in records.certificates row.serial) (request_in records.requests id)

abbrev pub revocation_of_request : Records → ℕ → Option RevocationRow
revocation_of_request records id =
    option_and_then (λ row. revocation_in records.revocations row.serial) (request_in records.requests id)

-- the checks of a command, besides those of the clock, over the rows that the command names
abbrev pub checks : Records → ℕ → Command → List (Option Refusal)
checks records now (Subscriber name) =
    subscriber_checks name (subscriber_named records.subscribers name) (is_full records records.subscribers)
checks records now (Order subscriber days) =
    order_checks records.policy (subscriber_in records.subscribers subscriber) days
    (is_full records records.orders)
checks records now (Register order serial not_before not_after) =
    register_checks
    records.policy
    now
    (record { serial = serial; order = order; not_before = not_before; not_after = not_after })
    (order_in records.orders order)
    (certificate_of_order records.certificates order)
    (certificate_in records.certificates serial)
    (is_full records records.certificates)
checks records now (Request serial word) =
    request_checks
    now
    (certificate_in records.certificates serial)
    word
    (revocation_in records.revocations serial)
    (is_full records records.requests)
checks records now (Decline id) =
    pending_request_checks now (request_in records.requests id) (certificate_of_request records id)
    (revocation_of_request records id)
checks records now (Revoke id) =
    pending_request_checks now (request_in records.requests id) (certificate_of_request records id)
    (revocation_of_request records id)
checks records now IssueCrl = crl_checks (is_full records records.crls)

-- the first refusal that applies, if any: of the clock's checks, and then, unless the command repeats a registration, of its own
abbrev pub refusal : Records → ℕ → Command → Option Refusal
refusal records now command =
    first_refusal
    (clock_checks now records.last ++ cond (is_repeat records command) [] (checks records now command))

-- the row of a new request. The checks refuse a word that names no ground, so the default `Asked` is never used for one.
abbrev pub request_row : Records → ℕ → ℕ → List ℕ → RequestRow
request_row records now serial word = record {
  id = length records.requests + 1;
  serial = serial;
  ground = ground Asked word;
  received = now;
  declined = false;
}

-- the row of the revocation by a request
abbrev pub revocation_row : Records → ℕ → RequestRow → RevocationRow
revocation_row records now request = record {
  serial = request.serial;
  at = now;
  reason = reason_of request.ground;
  request = request.id;
  first = next_number records.crls;
}

-- the moment is past the deadline of the request with this id
abbrev pub is_late : Records → ℕ → ℕ → Bool
is_late records now id = late (request_in records.requests id)
  where
    late : Option RequestRow → Bool
    late (Some request) = nat_lt (deadline request) now
    late None = false

-- the reply of an accepted command
abbrev pub reply : Records → ℕ → Command → Reply
reply records now (Subscriber name) = SubscriberEntered (length records.subscribers + 1)
reply records now (Order subscriber days) = OrderEntered (length records.orders + 1)
reply records now (Register order serial not_before not_after) =
    cond (is_repeat records (Register order serial not_before not_after)) Same Registered
reply records now (Request serial word) =
    RequestEntered (length records.requests + 1) (now + limit_of (ground Asked word))
reply records now (Decline id) = Declined
reply records now (Revoke id) = RevokedNow (is_late records now id)
reply records now IssueCrl =
    CrlIssued (next_number records.crls) (length (listed_revocations records (next_number records.crls)))

-- the records after an accepted command; `bytes` is the DER of the CRL, if the command issues one. The case `revoked None` never applies: a
-- command to revoke by a request that does not exist is refused.
abbrev pub changed : Records → ℕ → Command → List ℕ → Records
changed records now (Subscriber name) bytes =
    changed_by records now (change.Subscriber (record { id = length records.subscribers + 1; name = name }))
changed records now (Order subscriber days) bytes =
    changed_by records now
    (change.Order (record { id = length records.orders + 1; subscriber = subscriber; days = days }))
changed records now (Register order serial not_before not_after) bytes =
    cond
    (is_repeat records (Register order serial not_before not_after))
    (changed_by records now change.Touch)
    (changed_by
    records
    now
    (change.Certificate (record {
      serial = serial;
      order = order;
      not_before = not_before;
      not_after = not_after;
    })))
changed records now (Request serial word) bytes =
    changed_by records now (change.Request (request_row records now serial word))
changed records now (Decline id) bytes = changed_by records now (change.Decline id)
changed records now (Revoke id) bytes = revoked (request_in records.requests id)
  where
    revoked : Option RequestRow → Records
    revoked (Some request) = with_revocation records now (revocation_row records now request)
    revoked None = changed_by records now change.Touch
changed records now IssueCrl bytes =
    with_crl records now (record { number = next_number records.crls; this_update = now; bytes = bytes })

-- the bytes that belong to an accepted command: the signed CRL, if the command issues one; else none
abbrev pub IsSigned : (CertList → List ℕ → Type 0) → Records → ℕ → Command → List ℕ → Type 0
IsSigned signed records now IssueCrl bytes = signed (cert_list records (next_number records.crls) now) bytes
IsSigned signed records now (Subscriber name) bytes = bytes ≡ []
IsSigned signed records now (Order subscriber days) bytes = bytes ≡ []
IsSigned signed records now (Register order serial not_before not_after) bytes = bytes ≡ []
IsSigned signed records now (Request serial word) bytes = bytes ≡ []
IsSigned signed records now (Decline id) bytes = bytes ≡ []
IsSigned signed records now (Revoke id) bytes = bytes ≡ []

-- a refused command leaves the records as they are; an accepted one gives its reply and changes them
abbrev pub StepBy : (CertList → List ℕ → Type 0) → Option Refusal → Records → ℕ → Command
    → Result Reply Fault → Records → Type 0
StepBy signed (Some refused) records now command outcome after =
    (outcome ≡ Err (Refused refused)) × (after ≡ records)
StepBy signed None records now command outcome after =
    (bytes : List ℕ)
    × (outcome ≡ Ok (reply records now command))
    × IsSigned signed records now command bytes
    × (after ≡ changed records now command bytes)

-- one command at a moment: its outcome, and the records after
abbrev pub Step : (CertList → List ℕ → Type 0) → Records → ℕ → Command → Result Reply Fault → Records → Type 0
Step signed records now command outcome after =
    StepBy signed (refusal records now command) records now command outcome after
