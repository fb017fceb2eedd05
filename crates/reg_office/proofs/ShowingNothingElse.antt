-- A serial number that was not revoked is nowhere shown as revoked.
use Rattle.std.proofs.Common.{◌≡◌, ◌⊎◌, ◌==◌, ℕ, Bool, true, false, nat_lt, cond, List, [], ◌∷◌, ◌++◌, get_or, Option, Some, None, Result, Ok, IsFalse, inl, inr, refl, sym, ap, ◌∙◌, subst, arith}
use Rattle.std.specs.Prelude.{IsSomeAnd}
use Rattle.std.proofs.lemmas.Bool.Decides.{nat_tests}
use Rattle.reg_core.specs.Checks.{clock_checks, first_refusal}
use Rattle.reg_core.specs.Decisions.{refused_or}
use Rattle.reg_core.specs.Records.{Records, certificate_in, revocation_in, request_in}
use Rattle.reg_core.specs.Sound.{Sound}
use Rattle.reg_core.specs.Status.{status, status_by, is_revoked}
use Rattle.reg_core.specs.declared.command.Command.{Command}
use Rattle.reg_core.specs.declared.command.Command.TheVariants.{Revoke}
use Rattle.reg_core.specs.declared.command.Reply.{Reply}
use Rattle.reg_core.specs.declared.command.Reply.TheVariants.{Revoked as RevokedNow, Status as StatusIs}
use Rattle.reg_core.specs.declared.command.Status.{Status}
use Rattle.reg_core.specs.declared.command.Status.TheVariants.{Unknown, Good, Expired, Revoked}
use Rattle.reg_core.specs.declared.refusal.Refusal.{Refusal}
use Rattle.reg_core.specs.declared.refusal.Fault.{Fault}
use Rattle.reg_core.specs.declared.rows.CertRow.{CertRow}
use Rattle.reg_core.specs.declared.rows.RevocationRow.{RevocationRow}
use Rattle.reg_crl.specs.Signing.{Identity, signed_since, signed_by}
use Rattle.reg_der.specs.Der.{tlv}
use Rattle.reg_core_laws.specs.History.{HistoryIsKept}
use Rattle.reg_core_laws.specs.Revocations.{IsRevocationBy, RevocationsMove, RevocationsMoveExactly}
use Rattle.reg_core_laws.specs.Run.{Happens, Run}
use Rattle.reg_core_laws.proofs.PublicLaws.{all_any, find_back, some_and_here, some_here, some_of}
use Rattle.reg_ocsp.specs.Matching.{IsMatch}
use Rattle.reg_ocsp.specs.Request.{Id}
use Rattle.reg_ocsp.specs.Response.{SingleAnswer, cert_status}
use Rattle.reg_office.specs.Agreement.{Agrees, OcspAgrees}
use Rattle.reg_office.specs.Shown.{entry_in, SoundRun, AcceptedRevocation, WasRevoked, IsNowhereShown}
use Rattle.reg_office.specs.Stands.{SoundFor}
use Rattle.reg_office.proofs.Following.{after_since, happens_since, over_stored, run_since, step_keeps_sound_for}
use Rattle.reg_office.proofs.ShownByCrls.{no_entry_of_unrevoked}
use Rattle.reg_office.proofs.ShownByOcsp.{ocsp_shows}

-- WHERE A REVOCATION COMES FROM

-- a revocation that a command brought, or else the revocations stayed
abbrev Moved : Records → ℕ → Command → Result Reply Fault → Records → Type 0
Moved before now command outcome after =
    (after.revocations ≡ before.revocations)
    ⊎ ((late : Bool)
    × (revocation : RevocationRow)
    × (outcome ≡ Ok (RevokedNow late))
    × (after.revocations ≡ before.revocations ++ revocation ∷ [])
    × IsRevocationBy before now command revocation)

moved
    : (before : Records) (now : ℕ) (command : Command) (outcome : Result Reply Fault) (after : Records)
    → RevocationsMove before now command outcome after
    → Moved before now command outcome after
moved before now command (Ok (RevokedNow late)) after move = inr (late, move.0, refl, move.1, move.2)
moved before now command outcome after move = inl move

-- a row that is found alone has the serial number
only_one
    : (added found : RevocationRow) (serial : ℕ)
    → revocation_in (added ∷ []) serial ≡ Some found
    → added.serial ≡ serial
only_one added found serial is = go (added.serial == serial) refl is
  where
    go
        : (same : Bool)
        → (added.serial == serial) ≡ same
        → cond same (Some added) None ≡ Some found
        → added.serial ≡ serial
    go true test some = grind (arith, nat_tests)
    go false test some = absurd (let bad : ⊥ = cc in bad)

none_some : {A : Type 0} (x : A) → None ≡ Some x → ⊥
none_some x same = cc

module _ (signs : Identity → List ℕ → List ℕ → Type 0) (identity : Identity) (after : Records) where
  abbrev run_of
      : (start : Records) (commands : List (ℕ × Command)) (outcomes : List (Result Reply Fault))
      → SoundFor signs identity start
      → Run (signed_by signs identity) start commands outcomes after
      → SoundRun signs identity
  run_of start commands outcomes sound ran =
      record { start = start; commands = commands; outcomes = outcomes; after = after; sound = sound; ran = ran }

  -- a revocation of the serial number that the run accepted
  abbrev Accepts : SoundRun signs identity → ℕ → Type 0
  Accepts run serial =
      (its : AcceptedRevocation run) × IsSomeAnd (request_in its.before.requests its.id) (λ request. request.serial ≡ serial)

  -- A run: its first command, and those behind it.
  module _ (start : Records) (timed : ℕ × Command) (commands : List (ℕ × Command)) (outcome : Result Reply Fault) (outcomes : List (Result Reply Fault))
      (sound : SoundFor signs identity start) (ran : Run (signed_by signs identity) start (timed ∷ commands) (outcome ∷ outcomes) after) where
    abbrev whole : SoundRun signs identity
    whole = run_of start (timed ∷ commands) (outcome ∷ outcomes) sound ran

    abbrev rest_of : SoundFor signs identity ran.0 → SoundRun signs identity
    rest_of sound_next = run_of ran.0 commands outcomes sound_next ran.2

    -- what it accepted after its first command
    accepted_later : (sound_next : SoundFor signs identity ran.0) (serial : ℕ) → Accepts (rest_of sound_next) serial → Accepts whole serial
    accepted_later sound_next serial (its, by_request) = (
      record {
        id = its.id;
        at = its.at;
        is_late = its.is_late;
        front = timed ∷ its.front;
        early = outcome ∷ its.early;
        before = its.before;
        ran_before = (ran.0, ran.1, its.ran_before);
        next = its.next;
        accepted = its.accepted;
        rest = its.rest;
        late = its.late;
        ran_after = its.ran_after;
        commands_are = ap (◌∷◌ timed) its.commands_are;
        outcomes_are = ap (◌∷◌ outcome) its.outcomes_are;
      },
      by_request,
    )

    -- what it accepted as its first command
    accepted_first : (late : Bool) (revocation : RevocationRow) → outcome ≡ Ok (RevokedNow late) → IsRevocationBy start timed.0 timed.1 revocation → Accepts whole revocation.serial
    accepted_first late revocation is by =
        let P : Result Reply Fault → Command → Type 0 = λ o command. Happens (signed_by signs identity) start timed.0 command o ran.0 in (
          record {
            id = by.request.id;
            at = timed.0;
            is_late = late;
            front = [];
            early = [];
            before = start;
            ran_before = refl;
            next = ran.0;
            accepted = subst (λ (o : Result Reply Fault). P o (Revoke by.request.id)) is (subst (P outcome) by.commanded ran.1);
            rest = commands;
            late = outcomes;
            ran_after = ran.2;
            commands_are = λ i. (timed.0, by.commanded i) ∷ commands;
            outcomes_are = λ i. is i ∷ outcomes;
          },
          some_and_here (λ request. request.serial ≡ revocation.serial) (request_in start.requests by.request.id) by.request by.recorded (sym by.of_serial),
        )

    -- one that stands after the first command
    traces : (serial : ℕ) (found : RevocationRow) → revocation_in ran.0.revocations serial ≡ Some found → Moved start timed.0 timed.1 outcome ran.0
        → (old : Option RevocationRow) → revocation_in start.revocations serial ≡ old → WasRevoked whole serial
    traces serial found stands move (Some old) stood = inl (some_here (revocation_in start.revocations serial) old stood)
    traces serial found stands (inl same) None stood =
        absurd (none_some found (sym stood ∙ ap (λ rows. revocation_in rows serial) (sym same) ∙ stands))
    traces serial found stands (inr (late, added, answered, entered, by)) None stood =
        let alone : revocation_in (added ∷ []) serial ≡ Some found =
        sym (find_back (λ row. row.serial == serial) start.revocations (added ∷ []) stood) ∙ ap (λ rows. revocation_in rows serial) (sym entered) ∙ stands in
        inr (subst (Accepts whole) (only_one added found serial alone) (accepted_first late added answered by))

  -- a revocation after a run stood when it began, or the run accepted it
  pub traced
      : ((since : ℕ) → RevocationsMoveExactly (signed_since since signs identity))
      → (start : Records) (commands : List (ℕ × Command)) (outcomes : List (Result Reply Fault))
      → (sound : SoundFor signs identity start)
      → (ran : Run (signed_by signs identity) start commands outcomes after)
      → (serial : ℕ) (revocation : RevocationRow)
      → revocation_in after.revocations serial ≡ Some revocation
      → WasRevoked (run_of start commands outcomes sound ran) serial
  traced moves start [] [] sound ran serial revocation is =
      inl (some_here (revocation_in start.revocations serial) revocation (ap (λ r. revocation_in r.revocations serial) (sym ran) ∙ is))
  traced moves start [] (outcome ∷ outcomes) sound ran serial revocation is = absurd ran
  traced moves start (timed ∷ commands) [] sound ran serial revocation is = absurd ran
  traced moves start (timed ∷ commands) (outcome ∷ outcomes) sound ran serial revocation is =
      later (traced moves ran.0 commands outcomes sound_next ran.2 serial revocation is)
    where
      sound_next : SoundFor signs identity ran.0
      sound_next = step_keeps_sound_for signs identity start timed.0 timed.1 outcome ran.0 sound ran.1

      move : RevocationsMove start timed.0 timed.1 outcome ran.0
      move =
          moves sound.since start start ran.0 [] [] timed.0 timed.1 outcome (over_stored signs identity start sound) refl
          (happens_since sound.since signs identity start timed.0 timed.1 outcome ran.0 sound.reached ran.1)

      later
          : WasRevoked (run_of ran.0 commands outcomes sound_next ran.2) serial
          → WasRevoked (run_of start (timed ∷ commands) (outcome ∷ outcomes) sound ran) serial
      later (inl stood) =
          let found : (known : RevocationRow) × (revocation_in ran.0.revocations serial ≡ Some known) = some_of (revocation_in ran.0.revocations serial) stood in
          traces start timed commands outcome outcomes sound ran serial found.0 found.1 (moved start timed.0 timed.1 outcome ran.0 move) (revocation_in start.revocations serial) refl
      later (inr accepts) = inr (accepted_later start timed commands outcome outcomes sound ran sound_next serial accepts)

-- WHERE THERE IS NONE

-- a status is not revoked
status_unrevoked
    : (records : Records) (serial : ℕ)
    → revocation_in records.revocations serial ≡ None
    → (moment : ℕ)
    → IsFalse (is_revoked (status records serial moment))
status_unrevoked records serial none moment =
    ap (λ (row : Option RevocationRow). is_revoked (status_by moment (certificate_in records.certificates serial) row)) none
    ∙ go (certificate_in records.certificates serial)
  where
    either : (past : Bool) → IsFalse (is_revoked (cond past Expired Good))
    either true = refl
    either false = refl

    go : (row : Option CertRow) → IsFalse (is_revoked (status_by moment row None))
    go None = refl
    go (Some certificate) = either (nat_lt certificate.not_after moment)

-- what OCSP tells as good is not revoked
not_revoked_by_good
    : (reported : Status) → cert_status reported ≡ cert_status Good → IsFalse (is_revoked reported)
unfolding tlv
not_revoked_by_good Unknown same = refl
not_revoked_by_good Good same = refl
not_revoked_by_good Expired same = refl
not_revoked_by_good (Revoked at reason) same =
    let tags : ◌≡◌ {A = ℕ} 0xA1 0x80 = ap (λ (bytes : List ℕ). get_or bytes 0 0) same in
    absurd (omega arith)

-- an answer that agrees with the records tells of no revocation where there is none
answer_unrevoked
    : (records : Records) (serial : ℕ)
    → revocation_in records.revocations serial ≡ None
    → (id : Id) (answer : SingleAnswer)
    → IsMatch records.issuer id serial
    → Agrees records id answer
    → IsFalse (is_revoked answer.status)
answer_unrevoked records serial none id answer match agrees = go (certificate_in records.certificates serial) refl
  where
    go
        : (row : Option CertRow)
        → certificate_in records.certificates serial ≡ row
        → IsFalse (is_revoked answer.status)
    go None is = ap is_revoked (agrees.unregistered serial match is)
    go (Some certificate) is = not_revoked_by_good answer.status (agrees.good serial certificate match is none)

-- the status that is told, where one is
reported_is
    : (refused : Option Refusal) (status reported : Status)
    → refused_or refused (StatusIs status) ≡ Ok (StatusIs reported)
    → reported ≡ status
reported_is None status reported is = cc
reported_is (Some refusal) status reported is = absurd (let bad : ⊥ = cc in bad)

-- a serial number that was not revoked is nowhere shown, where the headline stands
pub nowhere_shown
    : (signs : Identity → List ℕ → List ℕ → Type 0) (identity : Identity)
    → ((since : ℕ) → HistoryIsKept (signed_since since signs identity))
    → ((since : ℕ) → RevocationsMoveExactly (signed_since since signs identity))
    → OcspAgrees
    → (run : SoundRun signs identity)
    → (serial : ℕ)
    → ¬ (WasRevoked run serial)
    → IsNowhereShown run serial
nowhere_shown signs identity history moves agree run serial not_revoked =
    shown (revocation_in run.after.revocations serial) refl
  where
    before : Sound (signed_since run.sound.since signs identity) run.start
    before = over_stored signs identity run.start run.sound

    sound : Sound (signed_since run.sound.since signs identity) run.after
    sound = (after_since run.sound.since signs identity run.start run.after run.commands run.outcomes before run.sound.reached run.ran).0

    ran : Run (signed_since run.sound.since signs identity) run.start run.commands run.outcomes run.after
    ran = run_since run.sound.since signs identity run.start run.after run.commands run.outcomes before run.sound.reached run.ran

    shown
        : (found : Option RevocationRow)
        → revocation_in run.after.revocations serial ≡ found
        → IsNowhereShown run serial
    shown (Some revocation) is =
        absurd
        (not_revoked
        (traced signs identity run.after moves run.start run.commands run.outcomes run.sound run.ran serial revocation is))
    shown None is = record {
      by_status = status_unrevoked run.after serial is;
      when_asked = λ moment reported answered.
          subst
          (λ (status : Status). IsFalse (is_revoked status))
          (sym (reported_is (first_refusal (clock_checks moment run.after.last)) (status run.after serial moment) reported answered))
          (status_unrevoked run.after serial is moment);
      by_ocsp = λ moment reached responder.
          ocsp_shows
          signs
          responder
          run.after
          moment
          serial
          (λ reported. IsFalse (is_revoked reported))
          agree
          sound.rows
          (answer_unrevoked run.after serial is)
          reached;
      by_crls =
          all_any
          (λ crl. entry_in run.after crl serial ≡ None)
          (λ crl.
          no_entry_of_unrevoked
          run.after
          crl
          serial
          ((history run.sound.since run.start run.after run.commands run.outcomes before ran).1 crl.number)
          is)
          run.after.crls;
      signed_so = sound.signatures;
    }
