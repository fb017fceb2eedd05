-- A revoked certificate is shown as revoked everywhere, and nothing else is.
--
-- This file is about three ways in which a register shows whether a certificate is revoked: the status of its serial
-- number, answers to OCSP requests (RFC 6960), and CRLs (RFC 5280 5). It says what each shows after any run of
-- commands. The same holds in the middle of a run: the commands that ran so far are a run themselves.
use Rattle.std.specs.Prelude.{◌≡◌, ◌⊎◌, ℕ, Bool, ◌+◌, ◌<◌, ◌≤◌, nat_lt, List, [], ◌∷◌, ◌++◌, find, ◌==◌, Option, Some, None, Result, Ok, Err, MatchBool, IsFalse, IsSome, IsSomeAnd}
use Rattle.std.specs.List.{AllByRecursion, AllZip}
use Rattle.reg_core.specs.Checks.{clock_end}
use Rattle.reg_core.specs.Crls.{CertList, cert_list}
use Rattle.reg_core.specs.Grounds.{reason_of}
use Rattle.reg_core.specs.Records.{Records, Crl, certificate_in, request_in, revocation_in}
use Rattle.reg_core.specs.Status.{status, is_revoked}
use Rattle.reg_core.specs.declared.command.Command.{Command}
use Rattle.reg_core.specs.declared.command.Command.TheVariants.{Revoke}
use Rattle.reg_core.specs.declared.command.Query.TheVariants.{Status as AskStatus}
use Rattle.reg_core.specs.declared.command.Reply.{Reply}
use Rattle.reg_core.specs.declared.command.Reply.TheVariants.{Revoked as RevokedNow, Status as StatusIs}
use Rattle.reg_core.specs.declared.command.Status.{Status}
use Rattle.reg_core.specs.declared.command.Status.TheVariants.{Revoked}
use Rattle.reg_core.specs.declared.refusal.Fault.{Fault}
use Rattle.reg_core.specs.declared.refusal.Fault.TheVariants.{Memory, Store}
use Rattle.reg_core.specs.declared.rows.CertRow.{CertRow}
use Rattle.reg_core.specs.declared.rows.Entry.{Entry}
use Rattle.reg_core.specs.declared.rows.RequestRow.{RequestRow}
use Rattle.reg_crl.specs.Signing.{Identity, signed_since, signed_by}
use Rattle.reg_core_laws.specs.Run.{Happens, Run}
use Rattle.reg_ocsp.specs.Matching.{IsMatch}
use Rattle.reg_ocsp.specs.Request.{Id, IsOcspRequest}
use Rattle.reg_ocsp.specs.Response.{refusal_response}
use Rattle.reg_ocsp.specs.declared.response.RefusalStatus.TheVariants.{Malformed, Internal}
use Rattle.reg_office_api.specs.Ocsp.{IsNoOcspRequest, IsOcspReply, IsResponse}
use Rattle.reg_office_api.specs.Answered.{IsAnswered}
use Rattle.reg_office_api.specs.Signers.{Responder, Signs}
use Rattle.reg_office.specs.Stands.{SoundFor}

-- A RUN, AND THE REVOCATIONS THAT IT ACCEPTED

-- a run: commands, each at its moment, ran from records that are sound for the signer. They had these outcomes, one for each and in order, and
-- led to the records after them. The signer signed each new CRL.
pub record SoundRun (signs : Signs) (identity : Identity) : Type 0 where
  pub start : Records
  pub commands : List (ℕ × Command)
  pub outcomes : List (Result Reply Fault)
  pub after : Records
  pub sound : SoundFor signs identity start
  pub ran : Run (signed_by signs identity) start commands outcomes after

-- a revocation that a run accepted: one command of the run was `revoke` for the request with this id, at this moment, and its reply was
-- `RevokedNow`
pub record AcceptedRevocation {signs : Signs} {identity : Identity}
    (run : SoundRun signs identity) : Type 0 where
  pub id : ℕ
  pub at : ℕ
  pub is_late : Bool
  -- the commands before it, their outcomes, and the records that they led to
  pub front : List (ℕ × Command)
  pub early : List (Result Reply Fault)
  pub before : Records
  pub ran_before : Run (signed_by signs identity) run.start front early before
  -- the records after it
  pub next : Records
  pub accepted : Happens (signed_by signs identity) before at (Revoke id) (Ok (RevokedNow is_late)) next
  -- the commands after it, and their outcomes
  pub rest : List (ℕ × Command)
  pub late : List (Result Reply Fault)
  pub ran_after : Run (signed_by signs identity) next rest late run.after
  -- together they are the run
  pub commands_are : run.commands ≡ front ++ (at, Revoke id) ∷ rest
  pub outcomes_are : run.outcomes ≡ early ++ Ok (RevokedNow is_late) ∷ late

-- a moment after a run: at or after the last accepted moment, and before `clock_end`
pub record IsReached (records : Records) (moment : ℕ) : Type 0 where
  pub not_back : records.last ≤ moment
  pub not_ended : moment < clock_end

-- WHAT OCSP SHOWS

-- a signed response in which `IsSo` holds of the status of each CertID that names the issuer's certificate of the serial number
-- (RFC 6960 4.2.1)
pub record ResponseHasStatuses (signs : Signs) (responder : Responder) (records : Records) (moment serial : ℕ)
    (IsSo : Status → Type 0) (asked reply : List ℕ) : Type 0 where
  pub ids : List Id
  pub nonce : Option (List ℕ)
  pub read : IsOcspRequest asked ids nonce
  pub response : IsResponse signs responder records moment ids nonce reply
  pub statuses_so : AllZip (λ id answer. IsMatch records.issuer id serial → IsSo answer.status)
      ids response.of_records.answers

-- the response to any bytes: malformedRequest if they are no request; or internalError (RFC 6960 2.3); or a signed response with
-- such statuses
abbrev pub AnswersStatuses : Signs → Responder → Records → ℕ → ℕ → (Status → Type 0)
    → List ℕ → List ℕ → Type 0
AnswersStatuses signs responder records moment serial IsSo asked reply =
    (IsNoOcspRequest asked × (reply ≡ refusal_response Malformed))
    ⊎ (reply ≡ refusal_response Internal)
    ⊎ ResponseHasStatuses signs responder records moment serial IsSo asked reply

-- WHAT CRLS SHOW

-- the fields that are signed in a recorded CRL (RFC 5280 5.1.2)
abbrev pub signed_in : Records → Crl → CertList
signed_in records crl = cert_list records crl.number crl.this_update

-- the entry of a serial number in a CRL, if it has one (RFC 5280 5.1.2.6)
abbrev pub entry_in : Records → Crl → ℕ → Option Entry
entry_in records crl serial = find (λ entry. entry.serial == serial) (signed_in records crl).entries

-- CRLs in the order of issue: each has the entry, up to and including the first whose thisUpdate is after notAfter, and
-- none after that one has an entry of the serial number (RFC 5280 3.3)
abbrev pub ListedThroughFirstPast : Records → Entry → ℕ → List Crl → Type 0
ListedThroughFirstPast records entry not_after [] = Unit {0}
ListedThroughFirstPast records entry not_after (crl ∷ rest) =
    (entry_in records crl entry.serial ≡ Some entry)
    × MatchBool
    (nat_lt not_after crl.this_update)
    (AllByRecursion (λ later. entry_in records later entry.serial ≡ None) rest)
    (ListedThroughFirstPast records entry not_after rest)

-- each recorded CRL is signed over its entries by the signer, or has the placeholder digest if its number is below `since`
abbrev pub AreSignedSo : ℕ → Signs → Identity → Records → Type 0
AreSignedSo since signs identity records =
    AllByRecursion (λ crl. signed_since since signs identity (signed_in records crl) crl.bytes) records.crls

-- A REVOKED CERTIFICATE IS SHOWN AS REVOKED EVERYWHERE

-- the status of a certificate that was revoked at a moment by a request: revoked at that moment, with the reason of the
-- request's ground
abbrev pub revoked_at : ℕ → RequestRow → Status
revoked_at at request = Revoked at (reason_of request.ground)

-- the entry of such a certificate in CRLs
abbrev pub entry_at : ℕ → RequestRow → Entry
entry_at at request = record { serial = request.serial; at = at; reason = reason_of request.ground }

-- from its acceptance on, a revocation is shown everywhere
pub record IsShownEverywhere {signs : Signs} {identity : Identity} {run : SoundRun signs identity}
    (its : AcceptedRevocation run) : Type 0 where
  -- its request was recorded, for the serial number of a registered certificate whose notAfter was not past
  pub request : RequestRow
  pub requested : request_in its.before.requests its.id ≡ Some request
  pub certificate : CertRow
  pub registered : certificate_in run.after.certificates request.serial ≡ Some certificate
  pub not_ended : its.at ≤ certificate.not_after
  -- at every moment after the run, the status of the serial number is revoked, with the moment of the command that revoked
  -- it and with the reason of its request's ground
  pub by_status : (moment : ℕ)
      → IsReached run.after moment
      → status run.after request.serial moment ≡ revoked_at its.at request
  -- the status is the same at notAfter and however long after it: it is never expired
  pub past_its_end : (seconds : ℕ)
      → status run.after request.serial (certificate.not_after + seconds) ≡ revoked_at its.at request
  -- a query for the status is answered with it, or fails: out of memory, or a failure of the store
  pub when_asked : (moment : ℕ)
      → IsReached run.after moment
      → (outcome : Result Reply Fault)
      → IsAnswered run.after moment (AskStatus request.serial) outcome
      → (outcome ≡ Ok (StatusIs (revoked_at its.at request))) ⊎ (outcome ≡ Err Memory) ⊎ (outcome ≡ Err Store)
  -- in a signed response, by any responder, each CertID that names the certificate has this status
  pub by_ocsp : (moment : ℕ)
      → IsReached run.after moment
      → (responder : Responder)
      → (asked reply : List ℕ)
      → IsOcspReply signs responder run.after moment asked reply
      → AnswersStatuses signs responder run.after moment request.serial
      (λ shown. shown ≡ revoked_at its.at request) asked reply
  -- each CRL that was issued later in the run has the entry, up to and including the first one past the certificate's notAfter
  pub later : List Crl
  pub issued_later : run.after.crls ≡ its.before.crls ++ later
  pub by_crls : ListedThroughFirstPast run.after (entry_at its.at request) certificate.not_after later
  -- and each CRL is signed over exactly its entries, or has a placeholder digest over them
  pub signed_so : AreSignedSo run.sound.since signs identity run.after

-- NOTHING ELSE IS SHOWN AS REVOKED

-- a serial number was revoked: when the run began, or by a revocation that the run accepted, by a request for it
abbrev pub WasRevoked : {signs : Signs} {identity : Identity} → SoundRun signs identity → ℕ → Type 0
WasRevoked run serial =
    IsSome (revocation_in run.start.revocations serial)
    ⊎ ((its : AcceptedRevocation run)
    × IsSomeAnd (request_in its.before.requests its.id) (λ request. request.serial ≡ serial))

-- a serial number is nowhere shown as revoked
pub record IsNowhereShown {signs : Signs} {identity : Identity} (run : SoundRun signs identity)
    (serial : ℕ) : Type 0 where
  -- its status is never revoked
  pub by_status : (moment : ℕ) → IsFalse (is_revoked (status run.after serial moment))
  -- a query for its status is answered with one that is not revoked
  pub when_asked : (moment : ℕ)
      → (shown : Status)
      → IsAnswered run.after moment (AskStatus serial) (Ok (StatusIs shown))
      → IsFalse (is_revoked shown)
  -- in a signed response, by any responder, no CertID that names it is answered as revoked
  pub by_ocsp : (moment : ℕ)
      → IsReached run.after moment
      → (responder : Responder)
      → (asked reply : List ℕ)
      → IsOcspReply signs responder run.after moment asked reply
      → AnswersStatuses signs responder run.after moment serial
      (λ shown. IsFalse (is_revoked shown)) asked reply
  -- no CRL has an entry for it
  pub by_crls : AllByRecursion (λ crl. entry_in run.after crl serial ≡ None) run.after.crls
  -- and each CRL is signed over exactly its entries, or has a placeholder digest over them
  pub signed_so : AreSignedSo run.sound.since signs identity run.after
