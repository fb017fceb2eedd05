-- Each accepted command keeps the rows reached.
use Rattle.std.proofs.Common.{◌≡◌, ◌≢◌, ◌⊎◌, ℕ, ◌+◌, ◌*◌, ◌<◌, ◌≤◌, Bool, true, false, cond, min, nat_lt, ◌==◌, List, [], ◌∷◌, ◌++◌, length, map, Some, None, Result, IfSome, IsFalse, IsTrue, IsSomeAnd, inl, inr, refl, ap, ◌∙◌, arith}
use Rattle.std.specs.List.{AllByRecursion, list_any}
use Rattle.std.proofs.lemmas.Bool.Decides.{nat_tests}
use Rattle.reg_core.specs.Changes.{touched, with_certificate, with_declined, declined_if, with_revocation, with_schedule}
use Rattle.reg_core.specs.Checks.{clock_end, validity_seconds}
use Rattle.reg_core.specs.Crls.{CertList, next_number}
use Rattle.reg_core.specs.Grounds.{ground_or_refusal}
use Rattle.reg_core.specs.Issuer.{Issuer}
use Rattle.reg_core.specs.Policy.{Terms, IsPolicy}
use Rattle.reg_core.specs.Reached.{LeadsTo, Reached, ReachedRows, ReachedSubscribers, ReachedOrders, ReachedCertificates, ReachedRequests, ReachedRevocations}
use Rattle.reg_core.specs.Records.{Records, no_records, Crl, order_in, certificate_in, request_in, revocation_in}
use Rattle.reg_core.specs.Schedule.{IsSchedule, longest_at}
use Rattle.reg_core.specs.Sound.{Sound, SoundRows, SoundCrls}
use Rattle.reg_core.specs.Step.{refusal, changed, is_full, is_repeat, request_row, revocation_row}
use Rattle.reg_core.specs.declared.rows.SubscriberRow.{SubscriberRow}
use Rattle.reg_core.specs.declared.rows.OrderRow.{OrderRow}
use Rattle.reg_core.specs.declared.rows.CertRow.{CertRow}
use Rattle.reg_core.specs.declared.rows.RequestRow.{RequestRow}
use Rattle.reg_core.specs.declared.rows.RevocationRow.{RevocationRow}
use Rattle.reg_core.specs.declared.command.Command.{Command}
use Rattle.reg_core.specs.declared.command.Command.TheVariants.{Subscriber, Order, Register, Request, Decline, Revoke, Crl as IssueCrl}
use Rattle.reg_core.specs.declared.command.Reply.{Reply}
use Rattle.reg_core.specs.declared.refusal.Fault.{Fault}
use Rattle.reg_core.proofs.PublicLaws.{greatest_at_most_398}
use Rattle.reg_core_laws.specs.Reached.{ReachedIsSound, CreatedReached, KeepsReached, SchedulesKeepReached}
use Rattle.reg_core_laws.specs.Run.{Happens, Run}
use Rattle.reg_core_laws.proofs.Accepted.{OnClock, RegisterAccepted, SettleAccepted, accepted_clock, accepted_register, accepted_revoke}
use Rattle.reg_core_laws.proofs.Contents.{next_is}
use Rattle.reg_core_laws.proofs.Kept.{Later, later_of, nobody, unregistered, subscriber_passes, order_passes, own_checks, request_passes, declined_is, declined_stays, each_declined, fresh_request, touched_kept, subscriber_kept, order_kept, certificate_kept, request_kept, declined_kept, revocation_kept, crl_kept}
use Rattle.reg_core_laws.proofs.Lists.{all_push, all_weaker, all_join, falls_push, falls_map, key_found, any_last, some_and_of, some_and_here, some_and_front, if_some_none, if_some_push, pushed_some}
use Rattle.reg_core_laws.proofs.Outcomes.{by_outcome}
use Rattle.reg_core_laws.proofs.Runs.{changed_signatures}

-- reached rows are sound
pub reached_sound : (records : Records) → ReachedRows records → SoundRows records
reached_sound records reached = record {
  before_clock_end = reached.before_clock_end;
  subscribers = reached.subscribers.sound;
  orders = reached.orders.sound;
  certificates = reached.certificates.sound;
  requests = reached.requests.sound;
  revocations = reached.revocations.sound;
  crls = reached.crls;
}

-- reached rows, from their parts
rows_of : (records : Records) → IsPolicy records.policy → records.last < clock_end
    → (records.subscribers ≡ [] → (records.last ≡ 0) ⊎ IsTrue (list_any (λ crl. crl.this_update == records.last) records.crls))
    → ReachedSubscribers records.policy.cap records.subscribers
    → ReachedOrders records.policy.cap records.subscribers records.orders
    → ReachedCertificates records.policy.cap records.orders records.certificates
    → ReachedRequests records.policy.cap records.last records.certificates records.requests
    → ReachedRevocations records.last records.certificates records.requests records.crls records.revocations
    → SoundCrls records.policy.cap records.last records.crls → ReachedRows records
rows_of records policy end set subscribers orders certificates requests revocations crls = assumption

module _ (records : Records) (now : ℕ) (reached : ReachedRows records) (clock : OnClock records now) where
  sound : SoundRows records
  sound = reached_sound records reached

  later : Later records now
  later = later_of records now sound clock.not_back

  requests_later : ReachedRequests records.policy.cap now records.certificates records.requests
  requests_later = record {
    sound = later.requests;
    within_validity = reached.requests.within_validity;
    receipts_never_decrease = reached.requests.receipts_never_decrease;
  }

  revocations_later : ReachedRevocations now records.certificates records.requests records.crls records.revocations
  revocations_later = record {
    sound = later.revocations;
    led = reached.revocations.led;
    moments_never_decrease = reached.revocations.moments_never_decrease;
    firsts_never_decrease = reached.revocations.firsts_never_decrease;
    none_after = reached.revocations.none_after;
  }

  -- the last accepted moment alone
  touched_reached : records.subscribers ≢ [] → ReachedRows (touched records now)
  touched_reached entered =
      rows_of _ reached.policy clock.before_end (λ none. absurd (entered none)) reached.subscribers reached.orders reached.certificates
      requests_later revocations_later later.crls

  -- one subscriber more
  subscriber_reached : (name : List ℕ) → refusal records now (Subscriber name) ≡ None → ReachedRows (changed records now (Subscriber name) [])
  subscriber_reached name none =
      let row : SubscriberRow = record { id = length records.subscribers + 1; name = name } in
      let kept = subscriber_kept records now sound clock name none in
      rows_of _ reached.policy clock.before_end (λ empty. absurd (pushed_some records.subscribers row empty))
      (record { sound = kept.subscribers; names = all_push _ _ row reached.subscribers.names (subscriber_passes records now name none).0 })
      (record { sound = kept.orders; days = reached.orders.days }) reached.certificates requests_later revocations_later later.crls

  -- one order more
  order_reached : (subscriber days : ℕ) → refusal records now (Order subscriber days) ≡ None → ReachedRows (changed records now (Order subscriber days) [])
  order_reached subscriber days none =
      let row : OrderRow = record { id = length records.orders + 1; subscriber = subscriber; days = days } in
      let kept = order_kept records now sound clock subscriber days none in
      let passes = order_passes records now subscriber days none in
      rows_of _ reached.policy clock.before_end (λ empty. absurd (cc passes.0)) reached.subscribers (record {
        sound = kept.orders;
        days = all_push _ _ row reached.orders.days (passes.1, omega (arith, passes.2, greatest_at_most_398 records.policy.schedule reached.policy.schedule.days));
      }) (record {
        sound = kept.certificates;
        forward = reached.certificates.forward;
        as_ordered = all_weaker _ _ (λ certificate. some_and_front _ (λ other. other.id == certificate.order) records.orders (row ∷ []))
            _ reached.certificates.as_ordered;
      }) requests_later revocations_later later.crls

  -- one certificate more
  certificate_reached : (wanted : CertRow) → RegisterAccepted records now wanted → ReachedRows (with_certificate records now wanted)
  certificate_reached row is =
      let kept = certificate_kept records now sound clock row is in
      let short : validity_seconds row ≤ 86400 * is.row.days =
      as_ordered (validity_seconds row) is.row.days (longest_at records.policy.schedule row.not_before) is.within_days in
      rows_of _ reached.policy clock.before_end (λ empty. absurd (cc (is.found, (nobody records sound empty).0))) reached.subscribers reached.orders (record {
        sound = kept.certificates;
        forward = all_push _ _ row reached.certificates.forward is.ordered;
        as_ordered = all_push _ _ row reached.certificates.as_ordered (some_and_here _ _ is.row is.found short);
      }) (record {
        sound = kept.requests;
        within_validity = all_weaker _ _ (λ request. some_and_front _ (λ other. other.serial == request.serial) records.certificates (row ∷ []))
            _ reached.requests.within_validity;
        receipts_never_decrease = reached.requests.receipts_never_decrease;
      }) (record {
        sound = kept.revocations;
        led = reached.revocations.led;
        moments_never_decrease = reached.revocations.moments_never_decrease;
        firsts_never_decrease = reached.revocations.firsts_never_decrease;
        none_after = reached.revocations.none_after;
      }) later.crls
    where
      as_ordered : (seconds days longest : ℕ) → IsFalse (nat_lt (86400 * min days longest) seconds) → seconds ≤ 86400 * days
      as_ordered seconds days longest fails = let most : seconds ≤ 86400 * min days longest = grind (arith, nat_tests) in omega (arith, most)

  -- one request more
  request_reached : (serial : ℕ) (word : List ℕ) → refusal records now (Request serial word) ≡ None → ReachedRows (changed records now (Request serial word) [])
  request_reached serial word none =
      let row : RequestRow = request_row records now serial word in
      let kept = request_kept records now sound clock serial word none in
      let passes =
      request_passes now (certificate_in records.certificates serial) (ground_or_refusal word) (revocation_in records.revocations serial)
      (is_full records records.requests) (own_checks records now serial word none) in
      rows_of _ reached.policy clock.before_end (λ empty. absurd (unregistered _ serial passes.0 passes.1 (nobody records sound empty).1))
      reached.subscribers reached.orders reached.certificates (record {
        sound = kept.requests;
        within_validity = all_push _ _ row reached.requests.within_validity (some_and_here _ _ passes.0 passes.1 passes.3);
        receipts_never_decrease = falls_push _ _ row reached.requests.receipts_never_decrease later.requests.received_by_last;
      }) (record {
        sound = kept.revocations;
        led = all_weaker _ _ (λ revocation. some_and_front (LeadsTo revocation) (λ other. other.id == revocation.request) records.requests (row ∷ []))
            _ reached.revocations.led;
        moments_never_decrease = reached.revocations.moments_never_decrease;
        firsts_never_decrease = reached.revocations.firsts_never_decrease;
        none_after = all_push _ _ row reached.revocations.none_after (if_some_none _ _ passes.2);
      }) later.crls

  -- a request declined
  declined_reached : (id : ℕ) → SettleAccepted records now id → ReachedRows (with_declined records now id)
  declined_reached id is =
      let kept = declined_kept records now sound clock id is in
      rows_of _ reached.policy clock.before_end (λ empty. absurd (cc (is.registered, (nobody records sound empty).1)))
      reached.subscribers reached.orders reached.certificates (record {
        sound = kept.requests;
        within_validity = each_declined id _ (λ row holds. holds) _ reached.requests.within_validity;
        receipts_never_decrease = falls_map _ _ (λ row. (declined_is id row).1) _ reached.requests.receipts_never_decrease;
      }) (record {
        sound = kept.revocations;
        led = all_join _ _ _ still_led _ reached.revocations.led (fresh_request records id is.request sound is.found is.not_revoked);
        moments_never_decrease = reached.revocations.moments_never_decrease;
        firsts_never_decrease = reached.revocations.firsts_never_decrease;
        none_after = each_declined id _ (λ row holds. holds) _ reached.revocations.none_after;
      }) later.crls
    where
      still_led : (revocation : RevocationRow) → IsSomeAnd (request_in records.requests revocation.request) (LeadsTo revocation) → revocation.request ≢ id
          → IsSomeAnd (request_in (map (declined_if id) records.requests) revocation.request) (LeadsTo revocation)
      still_led revocation led other =
          let found = some_and_of (LeadsTo revocation) (request_in records.requests revocation.request) led in
          some_and_here _ _ found.0 (declined_stays records id revocation.request found.0 found.1 other) found.2

  -- one revocation more, by a request that can be settled
  revocation_reached : (id : ℕ) (is : SettleAccepted records now id) → ReachedRows (with_revocation records now (revocation_row records now is.request))
  revocation_reached id is =
      let row : RevocationRow = revocation_row records now is.request in
      let kept = revocation_kept records now sound clock id is in
      let found : request_in records.requests is.request.id ≡ Some is.request =
      ap (request_in records.requests) (key_found (λ request. request.id) records.requests id is.request is.found) ∙ is.found in
      let next : row.first ≡ length records.crls + 1 = next_is records.crls sound.crls.numbered in
      rows_of _ reached.policy clock.before_end (λ empty. absurd (cc (is.registered, (nobody records sound empty).1)))
      reached.subscribers reached.orders reached.certificates requests_later (record {
        sound = kept.revocations;
        led = all_push _ _ row reached.revocations.led
            (some_and_here _ _ is.request found (record { same_serial = refl; not_declined = is.not_declined; with_reason = refl }));
        moments_never_decrease =
            falls_push _ _ row reached.revocations.moments_never_decrease (all_weaker _ _ (λ other holds. holds.at_by_last) _ later.revocations.each);
        firsts_never_decrease =
            falls_push _ _ row reached.revocations.firsts_never_decrease
            (all_weaker _ _ (λ other holds. omega (arith, holds.first_by_next, next)) _ later.revocations.each);
        none_after =
            all_join _ _ _ (λ asked old received. if_some_push _ (λ other. other.serial == asked.serial) _ row old received)
            _ reached.revocations.none_after later.requests.received_by_last;
      }) later.crls

  -- one CRL more
  crl_reached : (bytes : List ℕ) → refusal records now IssueCrl ≡ None → ReachedRows (changed records now IssueCrl bytes)
  crl_reached bytes none =
      let crl : Crl = record { number = next_number records.crls; this_update = now; bytes = bytes } in
      let kept = crl_kept records now sound clock bytes none in
      rows_of _ reached.policy clock.before_end (λ empty. inr (any_last _ records.crls crl (grind (arith, nat_tests))))
      reached.subscribers reached.orders reached.certificates requests_later (record {
        sound = kept.revocations;
        led = reached.revocations.led;
        moments_never_decrease = reached.revocations.moments_never_decrease;
        firsts_never_decrease = reached.revocations.firsts_never_decrease;
        none_after = reached.revocations.none_after;
      }) kept.crls

  command_reached : (command : Command) (bytes : List ℕ) → refusal records now command ≡ None → ReachedRows (changed records now command bytes)
  command_reached (Subscriber name) bytes none = subscriber_reached name none
  command_reached (Order subscriber days) bytes none = order_reached subscriber days none
  command_reached (Register order serial not_before not_after) bytes none = go (is_repeat records (Register order serial not_before not_after)) refl
    where
      wanted : CertRow
      wanted = record { serial = serial; order = order; not_before = not_before; not_after = not_after }

      go : (repeat : Bool) → is_repeat records (Register order serial not_before not_after) ≡ repeat
          → ReachedRows (cond repeat (touched records now) (with_certificate records now wanted))
      go true is = touched_reached (λ empty. cc (is, (nobody records sound empty).1))
      go false is = certificate_reached wanted (accepted_register records now order serial not_before not_after none is)
  command_reached (Request serial word) bytes none = request_reached serial word none
  command_reached (Decline id) bytes none = declined_reached id (accepted_revoke records now id sound none)
  command_reached (Revoke id) bytes none = let is = accepted_revoke records now id sound none in rw is.found (revocation_reached id is)
  command_reached IssueCrl bytes none = crl_reached bytes none

-- OVER EVERY RUN

pub reached_is_sound : (signed : CertList → List ℕ → Type 0) → ReachedIsSound signed
reached_is_sound signed records reached = record { rows = reached_sound records reached.rows; signatures = reached.signatures }

pub created_reached : (signed : CertList → List ℕ → Type 0) → CreatedReached signed
created_reached signed issuer policy is = record {
  rows = rows_of _ is (omega arith) (λ none. inl refl) (record { sound = omega arith; names = tt }) (record { sound = omega arith; days = tt })
      (record { sound = omega arith; forward = tt; as_ordered = tt })
      (record { sound = omega arith; within_validity = tt; receipts_never_decrease = tt })
      (record { sound = omega arith; led = tt; moments_never_decrease = tt; firsts_never_decrease = tt; none_after = tt }) (omega arith);
  signatures = tt;
}

pub schedules_keep_reached : (signed : CertList → List ℕ → Type 0) → SchedulesKeepReached signed
schedules_keep_reached signed records schedule is reached = record { rows = rows reached.rows; signatures = reached.signatures }
  where
    rows : ReachedRows records → ReachedRows (with_schedule records schedule)
    rows reached = assumption

step_keeps_reached : (signed : CertList → List ℕ → Type 0) (records : Records) (now : ℕ) (command : Command) (outcome : Result Reply Fault) (after : Records)
    → Reached signed records → Happens signed records now command outcome after → Reached signed after
step_keeps_reached signed records now command outcome after reached happens =
    by_outcome signed records now command (λ result next. Reached signed next) (λ fault. reached)
    (λ bytes none over. record {
      rows = command_reached records now reached.rows (accepted_clock records now command none) command bytes none;
      signatures = changed_signatures signed records now command bytes (reached_is_sound signed records reached) none over;
    })
    outcome after happens

pub keeps_reached : (signed : CertList → List ℕ → Type 0) → KeepsReached signed
keeps_reached signed records after [] [] reached run = rw run reached
keeps_reached signed records after [] (outcome ∷ outcomes) reached run = absurd run
keeps_reached signed records after (timed ∷ commands) [] reached run = absurd run
keeps_reached signed records after (timed ∷ commands) (outcome ∷ outcomes) reached run =
    keeps_reached signed run.0 after commands outcomes (step_keeps_reached signed records timed.0 timed.1 outcome run.0 reached run.1) run.2
