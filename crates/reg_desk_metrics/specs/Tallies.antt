-- The tally: the counters of HTTP exchanges and of lines. Counts and sums stop at the greatest number of 64 bits.
use Rattle.std.specs.Prelude.{◌≡◌, ℕ, Bool, true, false, cond, ◌&&◌, ◌||◌, ◌==◌, ◌+◌, ◌-◌, ◌*◌, ◌^◌, min, nat_lt, nat_le, List, replicate, slice_set, slice_index_or, if◌then◌else◌, Some, None}
use Rattle.std.specs.Option.{option_or}
use Rattle.std.specs.declared.option.Option.{Option}
use Rattle.reg_office_api.specs.declared.effects.LineEffects.{LineEffects}
use Rattle.reg_office_api.specs.declared.effects.LineReply.{LineReply}
use Rattle.reg_office_api.specs.declared.effects.LineReply.TheVariants.{Accepted, Refused, Fault}
use Rattle.reg_office_api.specs.declared.effects.SignatureOutcome.{SignatureOutcome}
use Rattle.reg_office_api.specs.declared.effects.SignatureOutcome.TheVariants as signature
use Rattle.reg_office_api.specs.declared.effects.StoreEffect.{StoreEffect}
use Rattle.reg_office_api.specs.declared.effects.StoreEffect.TheVariants as store
use Rattle.reg_http.specs.declared.exchange.Exchange.{Exchange}
use Rattle.reg_http.specs.declared.route.Route.{Route}
use Rattle.reg_http.specs.declared.route.Route.TheVariants as routes
use Rattle.reg_desk_metrics.specs.declared.numbers.CrlSigning.{CrlSigning}
use Rattle.reg_desk_metrics.specs.declared.numbers.CrlSigning.TheVariants.{Key, Digest, NoSigner}
use Rattle.reg_desk_metrics.specs.declared.numbers.ReadCrl.{ReadCrl}
use Rattle.reg_desk_metrics.specs.declared.numbers.Requests.{Requests}
use Rattle.reg_desk_metrics.specs.declared.signature_outcomes.SignatureCounts.{SignatureCounts}
use Rattle.reg_desk_metrics.specs.declared.tally.Tally.{Tally}

-- the greatest number of 64 bits
abbrev pub greatest : ℕ
greatest = 2 ^ 64 - 1

-- one more, up to the greatest number
abbrev pub one_more : ℕ → ℕ
one_more count = min (count + 1) greatest

-- one more at an index, up to the greatest number
abbrev pub bumped : List ℕ → ℕ → List ℕ
bumped counts index = slice_set counts index (one_more (slice_index_or counts index 0))

-- an amount more at an index, up to the greatest number
abbrev pub with_amount : List ℕ → ℕ → ℕ → List ℕ
with_amount sums index amount = slice_set sums index (min (slice_index_or sums index 0 + amount) greatest)

-- the index of a route
abbrev pub route_number : Route → ℕ
route_number routes.Ocsp = 0
route_number routes.OcspRest = 1
route_number routes.Crl = 2
route_number routes.CrlNumber = 3
route_number routes.Status = 4
route_number routes.Counts = 5
route_number routes.Requests = 6
route_number routes.List = 7
route_number routes.Health = 8
route_number routes.Metrics = 9
route_number routes.Changes = 10
route_number routes.Other = 11

-- the index of a status; the last one is for no answer, and for any other status
unfoldable pub code_number : Option ℕ → ℕ
code_number None = 11
code_number (Some code) =
    if code == 200 then 0
    else if code == 400 then 1
    else if code == 404 then 2
    else if code == 405 then 3
    else if code == 409 then 4
    else if code == 411 then 5
    else if code == 413 then 6
    else if code == 429 then 7
    else if code == 431 then 8
    else if code == 500 then 9
    else if code == 503 then 10
    else 11

-- the index of the bucket for a time in microseconds: the first bucket whose upper bound is not below the time
unfoldable pub bucket_of : ℕ → ℕ
bucket_of micros =
    if nat_le micros 100 then 0
    else if nat_le micros 300 then 1
    else if nat_le micros 1000 then 2
    else if nat_le micros 3000 then 3
    else if nat_le micros 10000 then 4
    else if nat_le micros 30000 then 5
    else if nat_le micros 100000 then 6
    else if nat_le micros 300000 then 7
    else if nat_le micros 1000000 then 8
    else if nat_le micros 3000000 then 9
    else if nat_le micros 10000000 then 10
    else 11

-- no signature was requested yet
abbrev pub nothing_requested : SignatureCounts
nothing_requested = record { received = 0; failed = 0; last = None; last_failed = None; failing_since = None }

-- Signatures of one kind after an outcome at a moment. None was requested: nothing changes. One was received: they no longer fail. One failed: they
-- fail since this moment, unless they failed already.
abbrev pub signing_after : SignatureOutcome → ℕ → SignatureCounts → SignatureCounts
signing_after signature.NotRequested now before = before
signing_after signature.Made now before =
    record before { received = one_more before.received; last = Some now; failing_since = None }
signing_after signature.Failed now before = record before {
  failed = one_more before.failed;
  last_failed = Some now;
  failing_since = option_or before.failing_since (Some now);
}

-- since when the store fails, after an effect at a moment: nothing changes; a written command ends the failure; or it fails since this moment, unless
-- it failed already
abbrev pub store_after : StoreEffect → ℕ → Option ℕ → Option ℕ
store_after store.Unwritten now since = since
store_after store.Written now since = None
store_after store.Failed now since = option_or since (Some now)

-- nothing is counted yet, at a desk whose CRLs are signed in this way, with notAfter of its responder's certificate
abbrev pub IsNewTally : CrlSigning → Option ℕ → Tally → Type 0
IsNewTally signing ends tally =
    (tally.answers ≡ replicate 144 0) × (tally.accepted ≡ 0) × (tally.refused ≡ 0) × (tally.faults ≡ 0)
    × (tally.buckets ≡ replicate 12 0)
    × (tally.micros ≡ 0) × (tally.route_counts ≡ replicate 12 0) × (tally.route_micros ≡ replicate 12 0)
    × (tally.ocsp_signer_failures ≡ 0) × (tally.ocsp_store_failures ≡ 0)
    × (tally.crls ≡ nothing_requested) × (tally.ocsp ≡ nothing_requested) × (tally.store_failing_since ≡ None)
    × (tally.requests ≡ None)
    × (tally.crl_signing ≡ signing) × (tally.responder_ends ≡ ends) × (tally.read ≡ None)
    × (tally.waits_for_followers ≡ false) × (tally.unconfirmed_since ≡ None)

-- one more exchange or line in the bucket of its time, which is added to the sum
abbrev pub with_time : ℕ → Tally → Tally
with_time micros tally = record tally {
  buckets = bumped tally.buckets (bucket_of micros);
  micros = min (tally.micros + micros) greatest;
}

-- one more line with this kind of reply
abbrev pub with_reply_to_line : LineReply → Tally → Tally
with_reply_to_line Accepted tally = record tally { accepted = one_more tally.accepted }
with_reply_to_line Refused tally = record tally { refused = one_more tally.refused }
with_reply_to_line Fault tally = record tally { faults = one_more tally.faults }

-- one more answer of a route, with its time
abbrev pub with_route : ℕ → ℕ → Tally → Tally
with_route number micros tally = record tally {
  route_counts = bumped tally.route_counts number;
  route_micros = with_amount tally.route_micros number micros;
}

-- whether a route is for OCSP requests
abbrev pub is_ocsp_route : Route → Bool
is_ocsp_route routes.Ocsp = true
is_ocsp_route routes.OcspRest = true
is_ocsp_route _ = false

-- whether an exchange had an OCSP response, which has status 200 (RFC 6960 A.2)
abbrev pub response_by : Route → Option ℕ → Bool
response_by route None = false
response_by route (Some code) = (code == 200) && is_ocsp_route route

-- the same for the route and the status of an exchange
abbrev pub has_response : Exchange → Bool
has_response exchange = response_by exchange.route exchange.status

-- one more OCSP response that was internalError (RFC 6960 2.3), because the signer failed, or else because the store failed; otherwise nothing
-- changes
abbrev pub with_cause : SignatureOutcome → StoreEffect → Tally → Tally
with_cause signature.Failed effect tally =
    record tally { ocsp_signer_failures = one_more tally.ocsp_signer_failures }
with_cause other store.Failed tally =
    record tally { ocsp_store_failures = one_more tally.ocsp_store_failures }
with_cause other effect tally = tally

-- the same for an exchange, if it had an OCSP response
abbrev pub with_failure : Exchange → Tally → Tally
with_failure exchange tally =
    cond (has_response exchange) (with_cause exchange.signature exchange.store tally) tally

-- the outcome of the signature of a CRL: not requested if the desk has no signer for CRLs
abbrev pub counted_crl_outcome : CrlSigning → SignatureOutcome → SignatureOutcome
counted_crl_outcome NoSigner signature_outcome = signature.NotRequested
counted_crl_outcome other signature_outcome = signature_outcome

-- the tally after the outcomes for the signatures of a CRL and of an OCSP response, and the effect on the store
abbrev pub outcomes_counted : ℕ → SignatureOutcome → SignatureOutcome → StoreEffect → Tally → Tally
outcomes_counted now crl ocsp effect tally = record tally {
  crls = signing_after (counted_crl_outcome tally.crl_signing crl) now tally.crls;
  ocsp = signing_after ocsp now tally.ocsp;
  store_failing_since = store_after effect now tally.store_failing_since;
}

-- one more answer of a route with a status, and its time
abbrev pub with_answer : Route → Option ℕ → ℕ → Tally → Tally
with_answer route status micros tally =
    with_time micros
    (with_route (route_number route) micros
    (record tally { answers = bumped tally.answers (route_number route * 12 + code_number status) }))

-- an exchange at a moment is counted: its route and status, its time, and its effects on the signature and the store
abbrev pub with_exchange : ℕ → Exchange → ℕ → Tally → Tally
with_exchange now exchange micros tally =
    outcomes_counted now signature.NotRequested exchange.signature exchange.store
    (with_failure exchange (with_answer exchange.route exchange.status micros tally))

-- a line is counted: the kind of its reply, its time, and its effects on the signatures and the store
abbrev pub with_line : ℕ → LineEffects → ℕ → Tally → Tally
with_line now line micros tally =
    outcomes_counted now line.crl line.ocsp line.store
    (with_time micros (with_reply_to_line line.reply tally))

-- the count of the requests for revocation is kept
abbrev pub with_counted : Requests → Tally → Tally
with_counted requests tally = record tally { requests = Some requests }

-- replies to commands wait for followers, since this moment
abbrev pub with_unconfirmed : Option ℕ → Tally → Tally
with_unconfirmed since tally = record tally { waits_for_followers = true; unconfirmed_since = since }

-- whether CRLs are signed with a key
abbrev pub is_key : CrlSigning → Bool
is_key Key = true
is_key Digest = false
is_key NoSigner = false

-- whether the desk's CRLs are signed with a key
abbrev pub has_crl_key : Tally → Bool
has_crl_key tally = is_key tally.crl_signing

-- the CRL that was read last, if it has this number
abbrev pub kept_if_numbered : ℕ → Option ReadCrl → Option ReadCrl
kept_if_numbered number None = None
kept_if_numbered number (Some read) = if read.number == number then Some read else None

-- the same for the CRL that the tally keeps
abbrev pub read_of : ℕ → Tally → Option ReadCrl
read_of number tally = kept_if_numbered number tally.read

-- the CRL that was read last is kept
abbrev pub with_read : ReadCrl → Tally → Tally
with_read read tally = record tally { read = Some read }

-- whether the requests for revocation are to be counted at a moment: they were not yet, or were at least a minute before, or at a later moment
abbrev pub wants_requests : ℕ → Option Requests → Bool
wants_requests now None = true
wants_requests now (Some counted) = nat_lt now counted.at || nat_le 60 (now - counted.at)
