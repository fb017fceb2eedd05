-- A revocation that a run accepted is shown everywhere.
use Rattle.std.proofs.Common.{◌≡◌, ◌⊎◌, ◌+◌, ◌<◌, ◌≤◌, ℕ, List, Option, Some, Result, Ok, Err, inl, inr, IsFalse, ◌==◌, refl, sym, ap, ◌∙◌, subst, arith}
use Rattle.std.specs.List.{AllByRecursion}
use Rattle.reg_core.specs.Crls.{entries}
use Rattle.reg_core.specs.Queries.{answer}
use Rattle.reg_core.specs.Records.{Records, certificate_in, request_in, revocation_in}
use Rattle.reg_core.specs.Sound.{Sound, SoundRevocation}
use Rattle.reg_core.specs.Status.{status, status_by}
use Rattle.reg_core.specs.declared.command.Command.TheVariants.{Revoke}
use Rattle.reg_core.specs.declared.command.Query.TheVariants.{Status as AskStatus}
use Rattle.reg_core.specs.declared.command.Reply.{Reply}
use Rattle.reg_core.specs.declared.command.Reply.TheVariants.{Revoked as RevokedNow, Status as StatusIs}
use Rattle.reg_core.specs.declared.command.Status.{Status}
use Rattle.reg_core.specs.declared.command.Status.TheVariants.{Revoked}
use Rattle.reg_core.specs.declared.refusal.Refusal.{Refusal}
use Rattle.reg_core.specs.declared.refusal.Fault.{Fault}
use Rattle.reg_core.specs.declared.refusal.Fault.TheVariants.{Refused, Memory, Store, Signer, Read, Write}
use Rattle.reg_core.specs.declared.rows.CertRow.{CertRow}
use Rattle.reg_core.specs.declared.rows.Entry.{Entry}
use Rattle.reg_core.specs.declared.rows.RevocationRow.{RevocationRow}
use Rattle.reg_crl.specs.Signing.{Identity, signed_since}
use Rattle.reg_core_laws.specs.Headline.{ListsRevoked, lists, ListedByCrls, IsDueEntry}
use Rattle.reg_core_laws.specs.Revocations.{IsRevocationBy}
use Rattle.reg_core_laws.proofs.PublicLaws.{all_weaker, all_found, key_found, some_at}
use Rattle.reg_office.specs.Agreement.{OcspAgrees}
use Rattle.reg_office_api.specs.Answered.{IsAnswered}
use Rattle.reg_office.specs.Shown.{SoundRun, AcceptedRevocation, IsReached, revoked_at, ListedThroughFirstPast, IsShownEverywhere}
use Rattle.reg_office.proofs.Following.{after_since, happens_since, over_stored, run_since, step_since}
use Rattle.reg_office.proofs.ShownByCrls.{NotPast, ListsAsDue, listed_through}
use Rattle.reg_office.proofs.ShownByOcsp.{on_clock, ocsp_shows}

-- a status that is asked for at a moment that is reached is told, or memory was short or the store failed
pub status_answered
    : (records : Records) (moment serial : ℕ)
    → IsReached records moment
    → (outcome : Result Reply Fault)
    → IsAnswered records moment (AskStatus serial) outcome
    → (outcome ≡ Ok (StatusIs (status records serial moment))) ⊎ (outcome ≡ Err Memory) ⊎ (outcome ≡ Err Store)
status_answered records moment serial reached outcome answered = go outcome answered
  where
    answer_is : answer records moment (AskStatus serial) ≡ Ok (StatusIs (status records serial moment))
    answer_is = rw (on_clock records moment reached)

    go
        : (o : Result Reply Fault)
        → IsAnswered records moment (AskStatus serial) o
        → (o ≡ Ok (StatusIs (status records serial moment))) ⊎ (o ≡ Err Memory) ⊎ (o ≡ Err Store)
    go (Ok reply) is =
        let both : ◌≡◌ {A = Result Reply Refusal} (Ok reply) (Ok (StatusIs (status records serial moment))) = sym is ∙ answer_is in
        inl (let same : reply ≡ StatusIs (status records serial moment) = cc in ap Ok same)
    go (Err (Refused refusal)) is = absurd (let bad : ⊥ = cc (sym is ∙ answer_is) in bad)
    go (Err Memory) is = inr (inl refl)
    go (Err Store) is = inr (inr refl)
    go (Err Signer) is = absurd is
    go (Err Read) is = absurd is
    go (Err Write) is = absurd is

-- a revocation is shown, by what the headline says of it
civil_of
    : (signs : Identity → List ℕ → List ℕ → Type 0) (identity : Identity)
    → OcspAgrees
    → (run : SoundRun signs identity)
    → (its : AcceptedRevocation run)
    → Sound (signed_since run.sound.since signs identity) run.after
    → (certificate : CertRow) (revocation : RevocationRow)
    → certificate_in run.after.certificates revocation.serial ≡ Some certificate
    → IsRevocationBy its.before its.at (Revoke its.id) revocation
    → ListedByCrls its.before.crls run.after certificate revocation
    → ((n : ℕ) → AllByRecursion (IsDueEntry run.after n) (entries run.after n))
    → IsShownEverywhere its
civil_of signs identity agree run its sound certificate revocation found by listed due = record {
  request = by.request;
  requested = ap (request_in its.before.requests) own ∙ by.recorded;
  certificate = certificate;
  registered = ap (certificate_in run.after.certificates) (sym by.of_serial) ∙ found;
  not_ended = subst (λ n. n ≤ certificate.not_after) by.at_now within;
  by_status = λ moment reached. is_revoked_at moment;
  past_its_end = λ seconds. is_revoked_at (certificate.not_after + seconds);
  when_asked = λ moment reached outcome answered.
      subst
      (λ (reported : Status). (outcome ≡ Ok (StatusIs reported)) ⊎ (outcome ≡ Err Memory) ⊎ (outcome ≡ Err Store))
      (is_revoked_at moment)
      (status_answered run.after moment by.request.serial reached outcome answered);
  by_ocsp = λ moment reached responder.
      ocsp_shows
      signs
      responder
      run.after
      moment
      by.request.serial
      (λ reported. reported ≡ revoked_at its.at by.request)
      agree
      sound.rows
      (λ id answer match agrees. agrees.revoked by.request.serial revocation match revoked ∙ status_so)
      reached;
  later = listed.later;
  issued_later = listed.issued;
  by_crls =
      subst
      (λ (entry : Entry). ListedThroughFirstPast run.after entry certificate.not_after listed.later)
      (λ i. record { serial = by.request.serial; at = by.at_now i; reason = by.with_reason i })
      (listed_through run.after by.request.serial revocation certificate.not_after sound.rows.crls.numbered due revoked its.before.crls listed.later listed.issued before later);
  signed_so = sound.signatures;
}
  where
    own : its.id ≡ by.request.id
    own = let same : Revoke its.id ≡ Revoke by.request.id = by.commanded in cc

    key : certificate.serial ≡ by.request.serial
    key =
        key_found (λ row. row.serial) run.after.certificates revocation.serial certificate found ∙ by.of_serial

    revoked : revocation_in run.after.revocations by.request.serial ≡ Some revocation
    revoked = ap (revocation_in run.after.revocations) (sym key) ∙ listed.stands

    within : revocation.at ≤ certificate.not_after
    within =
        some_at
        (λ row. revocation.at ≤ row.not_after)
        (certificate_in run.after.certificates revocation.serial)
        certificate
        found
        (all_found
        (SoundRevocation run.after.last run.after.certificates run.after.requests run.after.crls)
        (λ row. row.serial == by.request.serial)
        run.after.revocations
        revocation
        revoked
        sound.rows.revocations.each).within_validity

    status_so : Revoked revocation.at revocation.reason ≡ revoked_at its.at by.request
    status_so = λ i. Revoked (by.at_now i) (by.with_reason i)

    is_revoked_at : (moment : ℕ) → status run.after by.request.serial moment ≡ revoked_at its.at by.request
    is_revoked_at moment =
        ap
        (λ (row : Option CertRow). status_by moment row (revocation_in run.after.revocations by.request.serial))
        (ap (certificate_in run.after.certificates) (sym by.of_serial) ∙ found)
        ∙ ap (status_by moment (Some certificate)) revoked
        ∙ status_so

    before : AllByRecursion (NotPast revocation.first certificate.not_after) its.before.crls
    before =
        all_weaker
        (λ crl. (crl.number < revocation.first) × IsFalse (lists run.after crl.number certificate.serial))
        (NotPast revocation.first certificate.not_after)
        (λ crl listing can. let below : crl.number < revocation.first = listing.0 in absurd (omega arith))
        its.before.crls
        listed.before

    later : AllByRecursion (ListsAsDue run.after by.request.serial revocation.first certificate.not_after) listed.later
    later =
        subst
        (λ serial. AllByRecursion (ListsAsDue run.after serial revocation.first certificate.not_after) listed.later)
        key
        listed.since

-- each revocation is shown, where the headline stands
pub shown_everywhere
    : (signs : Identity → List ℕ → List ℕ → Type 0) (identity : Identity)
    → ((since : ℕ) → ListsRevoked (signed_since since signs identity))
    → OcspAgrees
    → (run : SoundRun signs identity)
    → (its : AcceptedRevocation run)
    → IsShownEverywhere its
shown_everywhere signs identity lists_them agree run its =
    let since = run.sound.since in
    let sound = over_stored signs identity run.start run.sound in
    let before = after_since since signs identity run.start its.before its.front its.early sound run.sound.reached its.ran_before in
    let next = step_since since signs identity its.before its.at (Revoke its.id) (Ok (RevokedNow its.is_late)) its.next before.0 before.1 its.accepted in
    let due =
    lists_them
    since
    run.start
    its.before
    its.next
    run.after
    its.front
    its.rest
    its.early
    its.late
    its.at
    (Revoke its.id)
    its.is_late
    sound
    (run_since since signs identity run.start its.before its.front its.early sound run.sound.reached its.ran_before)
    (happens_since since signs identity its.before its.at (Revoke its.id) (Ok (RevokedNow its.is_late)) its.next before.1 its.accepted)
    (run_since since signs identity its.next run.after its.rest its.late next.0 next.1 its.ran_after) in
    civil_of
    signs
    identity
    agree
    run
    its
    (after_since since signs identity run.start run.after run.commands run.outcomes sound run.sound.reached run.ran).0
    due.0.0
    due.0.1
    due.0.2
    due.0.4
    due.0.5
    due.1
