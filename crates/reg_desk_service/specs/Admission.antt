-- Which requests for revocation an open desk takes over HTTP. A request for a serial number is one for its revocation, with a known ground.
use Rattle.std.specs.Prelude.{◌≡◌, ◌⊎◌, ℕ, Bool, true, false, ◌&&◌, ◌||◌, ◌+◌, ◌-◌, ◌/◌, ◌%◌, nat_lt, nat_le, replicate, slice_set, slice_index_or, if◌then◌else◌, Some, None, Result, Ok, Err}
use Rattle.std.specs.declared.option.Option.{Option}
use Rattle.reg_core.specs.Records.{Records}
use Rattle.reg_core.specs.declared.memory.Memory.{Memory as NoMemory}
use Rattle.reg_core.specs.declared.refusal.Fault.{Fault}
use Rattle.reg_office_api.specs.CallSteps.{Signs, Runs, Asks, GivesCrl}
use Rattle.reg_office_api.specs.Drafts.{Drafts}
use Rattle.reg_office_api.specs.LookUps.{IsOfStore, request_load_in}
use Rattle.reg_office_api.specs.Responses.{Replies}
use Rattle.reg_office_api.specs.Signers.{OfficeSigners}
use Rattle.reg_office_api.specs.declared.register_summary.RequestLoad.{RequestLoad}
use Rattle.reg_http.specs.Added.{AddsARequestAtMost}
use Rattle.reg_http.specs.Answers.{Answers, BeginsTo}
use Rattle.reg_http.specs.RoutedRequests.{RoutedRequest, requested_serial}
use Rattle.reg_http.specs.Bodies.{http_refusal}
use Rattle.reg_http.specs.AnswerEffects.{AnswerEffects, fault_effects, plain, answer_effects}
use Rattle.reg_http.specs.declared.answered.HttpAnswer.{HttpAnswer}
use Rattle.reg_desk_metrics.specs.Ahead.{is_ahead}
use Rattle.reg_ocsp.specs.Drafts.{Drafted}
use Rattle.reg_io.specs.declared.begun.ReadyOrUnsigned.{ReadyOrUnsigned}
use Rattle.reg_io.specs.declared.begun.ReadyOrUnsigned.TheVariants.{Ready, Unsigned}
use Rattle.reg_desk_service.specs.declared.admission.Admission.{Admission}
use Rattle.reg_desk_service.specs.declared.admission.RecentRequests.{RecentRequests}

-- ---- a hundred requests a minute

-- the admission of a desk that was just opened: no request is counted, and the operator has accepted no moment
abbrev pub first_admission : Admission
first_admission = record { recent = record { moments = replicate 100 None; next = 0 }; accepted = None }

-- there is a moment, and it is 0 to 59 seconds before `now`
abbrev pub is_recent : ℕ → Option ℕ → Bool
is_recent now (Some at) = nat_le at now && nat_lt (now - at) 60
is_recent now None = false

-- a hundred requests came within the minute up to a moment: the oldest of the last hundred came within it
abbrev pub is_rate_reached : ℕ → RecentRequests → Bool
is_rate_reached now recent = is_recent now (slice_index_or recent.moments (recent.next % 100) None)

-- the moments with one more request, which replaces the oldest
abbrev pub after_one_more : ℕ → RecentRequests → RecentRequests
after_one_more now recent =
    record { moments = slice_set recent.moments (recent.next % 100) (Some now); next = recent.next % 100 + 1 }

-- the admission after a request for a serial number: the request is counted, unless a hundred came within the minute
abbrev pub after_request : ℕ → Admission → Admission
after_request now admission =
    if is_rate_reached now admission.recent then admission
    else record { recent = after_one_more now admission.recent; accepted = admission.accepted }

-- the admission after any request: only a request for a serial number may be counted
abbrev pub after_request_if : ℕ → Option ℕ → Admission → Admission
after_request_if now (Some serial) admission = after_request now admission
after_request_if now None admission = admission

-- ---- the limits

-- 503 (RFC 9110 15.6.4) if the clock is too far ahead, or if the rows of requests leave less than a tenth of the cap, rounded down; else 429
-- (RFC 6585 4) with three or more open requests for the serial number
abbrev pub limit_by : RequestLoad → Bool → Option ℕ
limit_by request_load ahead =
    if ahead || nat_lt (request_load.cap - request_load.requests) (request_load.cap / 10) then Some 503
    else if nat_le 3 request_load.waiting then Some 429
    else None

-- the status that refuses a request for a serial number at a moment: 429 if a hundred came within the minute; else by the records
abbrev pub limit_at : Admission → Records → ℕ → ℕ → Option ℕ
limit_at admission records now serial =
    if is_rate_reached now admission.recent then Some 429
    else limit_by (request_load_in records now serial 3) (is_ahead now records.last admission.accepted)

-- a request is within the limits; one for no serial number always is
abbrev pub IsWithin : Admission → Records → ℕ → Option ℕ → Type 0
IsWithin admission records now None = Unit {0}
IsWithin admission records now (Some serial) = limit_at admission records now serial ≡ None

-- a request for a serial number is refused: with the status of a limit; or, if the rate is not reached, as out of memory or a failure of the store
abbrev pub RefusesSerial : Admission → Records → ℕ → ℕ → AnswerEffects → Type 0
RefusesSerial admission records now serial it =
    ((status : ℕ) × (limit_at admission records now serial ≡ Some status)
    × (it ≡ plain (http_refusal status)))
    ⊎ ((fault : Fault) × IsOfStore fault × (is_rate_reached now admission.recent ≡ false)
    × (it ≡ fault_effects fault))

-- the same for any request: a request for no serial number is never refused at a limit
abbrev pub RefusesAtLimit : Admission → Records → ℕ → Option ℕ → AnswerEffects → Type 0
RefusesAtLimit admission records now None it = ⊥
RefusesAtLimit admission records now (Some serial) it = RefusesSerial admission records now serial it

-- how a request for a serial number is refused, or that it is within the limits
abbrev pub ChecksLimits : Admission → Records → ℕ → ℕ → Option HttpAnswer → Type 0
ChecksLimits admission records now serial (Some answered) =
    RefusesSerial admission records now serial (answer_effects answered)
ChecksLimits admission records now serial None = limit_at admission records now serial ≡ None

-- there is an answer, which refuses with this status
abbrev pub IsRefusedBy : ℕ → Option HttpAnswer → Type 0
IsRefusedBy status (Some answered) = answer_effects answered ≡ plain (http_refusal status)
IsRefusedBy status None = ⊥

-- a request is within the limits, and the register answers it; or it is refused, and no record changes
abbrev pub AnswersAdmitted
    : Admission → Signs → ℕ → OfficeSigners → Records → RoutedRequest → AnswerEffects → Records → Type 0
AnswersAdmitted admission signs now signers before what it after =
    (IsWithin admission before now (requested_serial what)
    × Answers (Runs signs signers) Asks (Replies signs signers) GivesCrl now before what it after)
    ⊎ (RefusesAtLimit admission before now (requested_serial what) it × (after ≡ before))

-- the same for an answer that is ready, and adds at most one request; or a response is left to be signed; or out of memory, and no record changes
abbrev pub BeginsAdmitted
    : Admission → Signs → ℕ → OfficeSigners → Records → RoutedRequest
    → Result (ReadyOrUnsigned HttpAnswer Drafted) NoMemory
    → Records → Type 0
BeginsAdmitted admission signs now signers before what (Ok (Ready answered)) after =
    AnswersAdmitted admission signs now signers before what (answer_effects answered) after
    × AddsARequestAtMost now before after
BeginsAdmitted admission signs now signers before what (Ok (Unsigned draft)) after =
    BeginsTo (Runs signs signers) Asks (Replies signs signers) GivesCrl (Drafts signers) now before what
    (Unsigned draft) after
BeginsAdmitted admission signs now signers before what (Err memory) after = after ≡ before

-- the admission after a request is `counted`; if memory ran out, it is that or the one before
abbrev pub CountsRequest : {A : Type 0} → Result A NoMemory → Admission → Admission → Admission → Type 0
CountsRequest (Ok begun) counted admission admission' = admission' ≡ counted
CountsRequest (Err memory) counted admission admission' = (admission' ≡ admission) ⊎ (admission' ≡ counted)
