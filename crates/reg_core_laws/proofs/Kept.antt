-- Each accepted command keeps the rows sound.
use Rattle.std.proofs.Common.{◌≡◌, ◌≢◌, ◌⊎◌, ℕ, ◌+◌, ◌*◌, ◌<◌, ◌≤◌, Bool, true, false, cond, min, nat_le, nat_lt, ◌==◌, bytes_eq, List, [], ◌∷◌, ◌++◌, length, map, Option, Some, None, Result, IfSome, IsFalse, IsTrue, IsSome, IsSomeAnd, inl, inr, refl, sym, ap, ◌∙◌, arith, length-append}
use Rattle.std.specs.List.{AllByRecursion, list_any}
use Rattle.std.specs.Cmp.Lexicographic.{bytes_decides}
use Rattle.std.proofs.lemmas.Bool.Decides.{nat_tests}
use Rattle.std.proofs.lemmas.List.{length-map}
use Rattle.reg_core.specs.Changes.{touched, with_certificate, with_declined, declined_if, with_revocation, with_schedule}
use Rattle.reg_core.specs.Checks.{clock_end, validity_seconds, refused_if, first_refusal, refused_if_none, refused_if_no_ground, live_checks}
use Rattle.reg_core.specs.Crls.{next_number}
use Rattle.reg_core.specs.Grounds.{ground_or_refusal}
use Rattle.reg_core.specs.Issuer.{Issuer}
use Rattle.reg_core.specs.Label.{IsName}
use Rattle.reg_core.specs.Policy.{Terms, IsPolicy}
use Rattle.reg_core.specs.Records.{Records, no_records, Crl, subscriber_in, subscriber_named, order_in, certificate_in, request_in, revocation_in}
use Rattle.reg_core.specs.Schedule.{IsSchedule, greatest_of, longest_at}
use Rattle.reg_core.specs.Reached.{LeadsTo, ReachedRows, ReachedSubscribers, ReachedOrders, ReachedCertificates, ReachedRequests, ReachedRevocations}
use Rattle.reg_core.specs.Sound.{SoundRows, SoundSubscribers, SoundOrders, SoundCertificates, SoundRequests, SoundRevocation, SoundRevocations, SoundCrls}
use Rattle.reg_core.specs.Step.{refusal, changed, checks, is_full, is_repeat, request_row, revocation_row}
use Rattle.reg_core.specs.declared.grounds.Ground.{Ground}
use Rattle.reg_core.specs.declared.rows.SubscriberRow.{SubscriberRow}
use Rattle.reg_core.specs.declared.rows.OrderRow.{OrderRow}
use Rattle.reg_core.specs.declared.rows.CertRow.{CertRow}
use Rattle.reg_core.specs.declared.rows.RequestRow.{RequestRow}
use Rattle.reg_core.specs.declared.rows.RevocationRow.{RevocationRow}
use Rattle.reg_core.specs.declared.command.Command.{Command}
use Rattle.reg_core.specs.declared.command.Command.TheVariants.{Subscriber, Order, Register, Request, Decline, Revoke, Crl as IssueCrl}
use Rattle.reg_core.specs.declared.refusal.Refusal.{Refusal}
use Rattle.reg_core.specs.declared.refusal.Refusal.TheVariants.{Full, UnknownSerial}
use Rattle.reg_core.proofs.PublicLaws.{greatest_at_most_398}
use Rattle.reg_core_laws.proofs.Accepted.{OnClock, RegisterAccepted, SettleAccepted, accepted_clock, accepted_register, accepted_revoke}
use Rattle.reg_core_laws.proofs.Contents.{next_is}
use Rattle.reg_core_laws.proofs.Lists.{all_push, all_weaker, all_found, all_join, all_map, none_passes, find_map, numbered_push, numbered_above, numbered_below, numbered_map, keys_push, falls_push, falls_map, few_keys, key_found, key_new, any_last, some_and_of, some_at, some_here, some_and_here, some_front, some_and_front, if_some_none, if_some_push, pushed_some}

-- WHO WAS ENTERED

no_orders : (subscribers : List SubscriberRow) (orders : List OrderRow) → AllByRecursion (λ row. IsSome (subscriber_in subscribers row.subscriber)) orders
    → subscribers ≡ [] → orders ≡ []
no_orders subscribers [] all none = refl
no_orders subscribers (first ∷ rest) all none = cc (all.0)

no_certificates : (orders : List OrderRow) (certificates : List CertRow) → AllByRecursion (λ row. IsSome (order_in orders row.order)) certificates
    → orders ≡ [] → certificates ≡ []
no_certificates orders [] all none = refl
no_certificates orders (first ∷ rest) all none = cc (all.0)

-- before a subscriber is entered there is no order and no certificate
pub nobody : (records : Records) → SoundRows records → records.subscribers ≡ [] → (records.orders ≡ []) × (records.certificates ≡ [])
nobody records sound none =
    let orders = no_orders records.subscribers records.orders sound.orders.subscribers_exist none in
    (orders, no_certificates records.orders records.certificates sound.certificates.orders_exist orders)

pub unregistered : (certificates : List CertRow) (serial : ℕ) (row : CertRow) → certificate_in certificates serial ≡ Some row → certificates ≡ [] → ⊥
unregistered certificates serial row found none = cc

-- LATER

-- what stands beside the last accepted moment, at a later one
pub record Later (records : Records) (now : ℕ) : Type 0 where
  pub requests : SoundRequests records.policy.cap now records.certificates records.requests
  pub revocations : SoundRevocations now records.certificates records.requests records.crls records.revocations
  pub crls : SoundCrls records.policy.cap now records.crls

pub later_of : (records : Records) (now : ℕ) → SoundRows records → records.last ≤ now → Later records now
later_of records now sound later =
    let received : AllByRecursion (λ row. row.received ≤ now) records.requests = all_weaker _ _ (λ row by. omega arith) _ sound.requests.received_by_last in
    let each : AllByRecursion (SoundRevocation now records.certificates records.requests records.crls) records.revocations =
    all_weaker _ _ (λ revocation holds. search arith) _ sound.revocations.each in
    let updates : AllByRecursion (λ crl. crl.this_update ≤ now) records.crls = all_weaker _ _ (λ crl by. omega arith) _ sound.crls.updates_by_last in
    record { requests = assumption; revocations = assumption; crls = assumption }

-- the sound rows of records, from their parts
rows_of : (records : Records) → records.last < clock_end
    → SoundSubscribers records.policy.cap records.subscribers
    → SoundOrders records.policy.cap records.subscribers records.orders
    → SoundCertificates records.policy.cap records.orders records.certificates
    → SoundRequests records.policy.cap records.last records.certificates records.requests
    → SoundRevocations records.last records.certificates records.requests records.crls records.revocations
    → SoundCrls records.policy.cap records.last records.crls → SoundRows records
rows_of records end subscribers orders certificates requests revocations crls = assumption

-- WHAT EACH COMMAND KEEPS

-- what the checks of a command make sure of
pub subscriber_passes : (records : Records) (now : ℕ) (name : List ℕ) → refusal records now (Subscriber name) ≡ None
    → IsName name × (subscriber_named records.subscribers name ≡ None) × (length records.subscribers < records.policy.cap)
subscriber_passes records now name none = grind (arith, nat_tests)

pub order_passes : (records : Records) (now subscriber days : ℕ) → refusal records now (Order subscriber days) ≡ None
    → IsSome (subscriber_in records.subscribers subscriber) × (1 ≤ days) × (days ≤ greatest_of records.policy.schedule) ×
    (length records.orders < records.policy.cap)
order_passes records now subscriber days none = grind (arith, nat_tests)

crl_passes : (records : Records) (now : ℕ) → refusal records now IssueCrl ≡ None → length records.crls < records.policy.cap
crl_passes records now none = grind (arith, nat_tests)

pub own_checks : (records : Records) (now serial : ℕ) (word : List ℕ) → refusal records now (Request serial word) ≡ None
    → first_refusal (checks records now (Request serial word)) ≡ None
own_checks records now serial word none = grind (arith, nat_tests)

room_of : (cap held : ℕ) → nat_le cap held ≡ false → held < cap
room_of cap held fails = grind (arith, nat_tests)

-- a request that passes its checks: the certificate is there, not revoked and not ended, and there is room
pub request_passes : (now : ℕ) (certificate : Option CertRow) (named : Result Ground Refusal) (revocation : Option RevocationRow) (full : Bool)
    → first_refusal (refused_if_none certificate UnknownSerial ∷ refused_if_no_ground named ∷ (live_checks now certificate revocation ++ refused_if full Full ∷ [])) ≡ None
    → (known : CertRow) × (certificate ≡ Some known) × (revocation ≡ None) × (now ≤ known.not_after) × (full ≡ false)
request_passes now certificate named revocation full none = grind (arith, nat_tests)

-- to decline a request changes neither its id nor its time of receipt, and leaves one of another id
pub declined_is : (id : ℕ) (row : RequestRow) → ((declined_if id row).id ≡ row.id) × ((declined_if id row).received ≡ row.received)
    × ((declined_if id row).serial ≡ row.serial) × (row.id ≢ id → declined_if id row ≡ row)
declined_is id row = grind (arith, nat_tests)

-- what holds of a request, declined or not, holds of each one where those with an id are declined
declined_both : (P : RequestRow → Type 0) (id : ℕ) (row : RequestRow) → P row → P (record row { declined = true }) → P (declined_if id row)
declined_both P id row as_was declined = grind arith

pub each_declined : (id : ℕ) (P : RequestRow → Type 0) → ((row : RequestRow) → P row → P (record row { declined = true })) → (rows : List RequestRow)
    → AllByRecursion P rows
    → AllByRecursion P (map (declined_if id) rows)
each_declined id P same rows all = all_map P _ rows (all_weaker _ _ (λ row is. declined_both P id row is (same row is)) rows all)

-- a request with another id is found as before
pub declined_stays : (records : Records) (id other : ℕ) (request : RequestRow) → request_in records.requests other ≡ Some request → other ≢ id
    → request_in (map (declined_if id) records.requests) other ≡ Some request
declined_stays records id other request is differs =
    let stays : declined_if id request ≡ request =
    (declined_is id request).3 (λ same. differs (sym (key_found (λ row. row.id) records.requests other request is) ∙ same)) in
    cc (find_map (λ row. row.id == other) (declined_if id) (λ row. ap (λ n. n == other) (declined_is id row).0) records.requests, is, stays)

-- no revocation was led to by a request whose serial number is not revoked
pub fresh_request : (records : Records) (id : ℕ) (request : RequestRow) → SoundRows records → request_in records.requests id ≡ Some request
    → revocation_in records.revocations request.serial ≡ None → AllByRecursion (λ revocation. revocation.request ≢ id) records.revocations
fresh_request records id request sound found none =
    all_join _ _ _ (λ revocation holds differs same.
    differs (sym (some_at (λ other. other.serial ≡ revocation.serial) _ request (ap (request_in records.requests) same ∙ found) holds.by_request)))
    records.revocations sound.revocations.each (key_new (λ revocation. revocation.serial) records.revocations request.serial none)

module _ (records : Records) (now : ℕ) (sound : SoundRows records) (clock : OnClock records now) where
  later : Later records now
  later = later_of records now sound clock.not_back

  -- the last accepted moment alone
  pub touched_kept : SoundRows (touched records now)
  touched_kept =
      rows_of _ clock.before_end sound.subscribers sound.orders sound.certificates later.requests later.revocations later.crls

  -- one subscriber more
  pub subscriber_kept : (name : List ℕ) → refusal records now (Subscriber name) ≡ None → SoundRows (changed records now (Subscriber name) [])
  subscriber_kept name none =
      let row : SubscriberRow = record { id = length records.subscribers + 1; name = name } in
      let passes = subscriber_passes records now name none in
      let exist : AllByRecursion (λ order. IsSome (subscriber_in (records.subscribers ++ row ∷ []) order.subscriber)) records.orders =
      all_weaker _ _ (λ order. some_front (λ other. other.id == order.subscriber) records.subscribers (row ∷ [])) _ sound.orders.subscribers_exist in
      rows_of _ clock.before_end (record {
        numbered = numbered_push _ 1 _ row sound.subscribers.numbered (omega arith);
        names_differ = keys_push _ _ row sound.subscribers.names_differ (all_weaker _ _ differs _ (none_passes _ _ passes.1));
        within_cap = omega (arith, length-append records.subscribers (row ∷ []), passes.2);
      }) (assumption exist) sound.certificates later.requests later.revocations later.crls
    where
      differs : (other : SubscriberRow) → IsFalse (bytes_eq other.name name) → other.name ≢ name
      differs other fails same = let is : bytes_eq other.name name ≡ true = (bytes_decides other.name name).1 same in cc

  -- one order more
  pub order_kept : (subscriber days : ℕ) → refusal records now (Order subscriber days) ≡ None → SoundRows (changed records now (Order subscriber days) [])
  order_kept subscriber days none =
      let row : OrderRow = record { id = length records.orders + 1; subscriber = subscriber; days = days } in
      let passes = order_passes records now subscriber days none in
      let exist : AllByRecursion (λ certificate. IsSome (order_in (records.orders ++ row ∷ []) certificate.order)) records.certificates =
      all_weaker _ _ (λ certificate. some_front (λ other. other.id == certificate.order) records.orders (row ∷ [])) _ sound.certificates.orders_exist in
      rows_of _ clock.before_end sound.subscribers (record {
        numbered = numbered_push _ 1 _ row sound.orders.numbered (omega arith);
        subscribers_exist = all_push _ _ row sound.orders.subscribers_exist passes.0;
        within_cap = omega (arith, length-append records.orders (row ∷ []), passes.3);
      }) (assumption exist) later.requests later.revocations later.crls

  -- one certificate more
  pub certificate_kept : (wanted : CertRow) → RegisterAccepted records now wanted → SoundRows (with_certificate records now wanted)
  certificate_kept row is =
      let exist : AllByRecursion (λ request. IsSome (certificate_in (records.certificates ++ row ∷ []) request.serial)) records.requests =
      all_weaker _ _ (λ request. some_front (λ other. other.serial == request.serial) records.certificates (row ∷ [])) _ sound.requests.certificates_exist in
      let each : AllByRecursion (SoundRevocation now (records.certificates ++ row ∷ []) records.requests records.crls) records.revocations =
      all_weaker _ _ grown _ later.revocations.each in
      rows_of _ clock.before_end sound.subscribers sound.orders (record {
        serials_differ = keys_push _ _ row sound.certificates.serials_differ (key_new (λ other. other.serial) _ _ is.free_serial);
        orders_differ = keys_push _ _ row sound.certificates.orders_differ (key_new (λ other. other.order) _ _ is.free_order);
        orders_exist = all_push _ _ row sound.certificates.orders_exist (some_here _ is.row is.found);
        within_cap = omega (arith, length-append records.certificates (row ∷ []), is.room);
      }) (assumption (exist, later.requests)) (assumption each) later.crls
    where
      grown : (revocation : RevocationRow) → SoundRevocation now records.certificates records.requests records.crls revocation
          → SoundRevocation now (records.certificates ++ row ∷ []) records.requests records.crls revocation
      grown revocation holds =
          assumption (some_and_front (λ known. revocation.at ≤ known.not_after) (λ other. other.serial == revocation.serial) records.certificates
          (row ∷ []) holds.within_validity)

  -- one request more
  pub request_kept : (serial : ℕ) (word : List ℕ) → refusal records now (Request serial word) ≡ None → SoundRows (changed records now (Request serial word) [])
  request_kept serial word none =
      let row : RequestRow = request_row records now serial word in
      let passes =
      request_passes now (certificate_in records.certificates serial) (ground_or_refusal word) (revocation_in records.revocations serial)
      (is_full records records.requests) (own_checks records now serial word none) in
      let room = room_of records.policy.cap (length records.requests) passes.4 in
      let each : AllByRecursion (SoundRevocation now records.certificates (records.requests ++ row ∷ []) records.crls) records.revocations =
      all_weaker _ _ grown _ later.revocations.each in
      rows_of _ clock.before_end sound.subscribers sound.orders sound.certificates (record {
        numbered = numbered_push _ 1 _ row sound.requests.numbered (omega arith);
        certificates_exist = all_push _ _ row sound.requests.certificates_exist (some_here _ passes.0 passes.1);
        received_by_last = all_push _ _ row later.requests.received_by_last (omega arith);
        within_cap = omega (arith, length-append records.requests (row ∷ []), room);
      }) (assumption each) later.crls
    where
      grown : (revocation : RevocationRow) → SoundRevocation now records.certificates records.requests records.crls revocation
          → SoundRevocation now records.certificates (records.requests ++ request_row records now serial word ∷ []) records.crls revocation
      grown revocation holds =
          assumption (some_and_front (λ request. request.serial ≡ revocation.serial) (λ other. other.id == revocation.request) records.requests
          (request_row records now serial word ∷ []) holds.by_request)

  -- a request declined
  pub declined_kept : (id : ℕ) → SettleAccepted records now id → SoundRows (with_declined records now id)
  declined_kept id is =
      let each : AllByRecursion (SoundRevocation now records.certificates (map (declined_if id) records.requests) records.crls) records.revocations =
      all_join _ _ _ kept _ later.revocations.each (fresh_request records id is.request sound is.found is.not_revoked) in
      rows_of _ clock.before_end sound.subscribers sound.orders sound.certificates (record {
        numbered = numbered_map _ _ (λ row. (declined_is id row).0) 1 _ sound.requests.numbered;
        certificates_exist = each_declined id _ (λ row holds. holds) _ sound.requests.certificates_exist;
        received_by_last = each_declined id _ (λ row holds. holds) _ later.requests.received_by_last;
        within_cap = omega (arith, length-map records.requests (declined_if id), sound.requests.within_cap);
      }) (assumption each) later.crls
    where
      kept : (revocation : RevocationRow) → SoundRevocation now records.certificates records.requests records.crls revocation → revocation.request ≢ id
          → SoundRevocation now records.certificates (map (declined_if id) records.requests) records.crls revocation
      kept revocation holds other =
          let led = some_and_of (λ request. request.serial ≡ revocation.serial) (request_in records.requests revocation.request) holds.by_request in
          let found = declined_stays records id revocation.request led.0 led.1 other in
          assumption (some_and_here (λ request. request.serial ≡ revocation.serial) _ led.0 found led.2)

  -- one revocation more, by a request that can be settled
  pub revocation_kept : (id : ℕ) (is : SettleAccepted records now id) → SoundRows (with_revocation records now (revocation_row records now is.request))
  revocation_kept id is =
      rows_of _ clock.before_end sound.subscribers sound.orders sound.certificates later.requests (record {
        serials_differ = keys_push _ _ row sound.revocations.serials_differ (key_new (λ other. other.serial) _ _ is.not_revoked);
        requests_differ = keys_push _ _ row sound.revocations.requests_differ (fresh_request records is.request.id is.request sound found is.not_revoked);
        each = all_push _ _ row later.revocations.each new;
      }) later.crls
    where
      row : RevocationRow
      row = revocation_row records now is.request

      found : request_in records.requests is.request.id ≡ Some is.request
      found = ap (request_in records.requests) (key_found (λ request. request.id) records.requests id is.request is.found) ∙ is.found

      next : row.first ≡ length records.crls + 1
      next = next_is records.crls sound.crls.numbered

      new : SoundRevocation now records.certificates records.requests records.crls row
      new = record {
        within_validity = some_and_here _ _ is.certificate is.registered is.live;
        by_request = some_and_here _ _ is.request found refl;
        at_by_last = omega arith;
        first_from_one = omega (arith, next);
        first_by_next = omega (arith, next);
        crls_before = all_weaker _ _ (λ crl by before. by) _ later.crls.updates_by_last;
        crls_after = all_weaker _ _ (λ crl below from. absurd (omega (arith, next))) _ (numbered_below _ 1 _ sound.crls.numbered);
      }

  -- one CRL more
  pub crl_kept : (bytes : List ℕ) → refusal records now IssueCrl ≡ None → SoundRows (changed records now IssueCrl bytes)
  crl_kept bytes none =
      let crl : Crl = record { number = next_number records.crls; this_update = now; bytes = bytes } in
      let room = crl_passes records now none in
      let each : AllByRecursion (SoundRevocation now records.certificates records.requests (records.crls ++ crl ∷ [])) records.revocations =
      all_weaker _ _ (λ revocation holds. record {
        within_validity = holds.within_validity;
        by_request = holds.by_request;
        at_by_last = omega (arith, holds.at_by_last, clock.not_back);
        first_from_one = holds.first_from_one;
        first_by_next = omega (arith, length-append records.crls (crl ∷ []), holds.first_by_next);
        crls_before = all_push _ _ crl holds.crls_before (λ before. absurd (omega (arith, next, holds.first_by_next)));
        crls_after = all_push _ _ crl holds.crls_after (λ from. omega (arith, holds.at_by_last, clock.not_back));
      }) _ sound.revocations.each in
      rows_of _ clock.before_end sound.subscribers sound.orders sound.certificates later.requests (assumption each) (record {
        numbered = numbered_push _ 1 _ crl sound.crls.numbered (omega (arith, next));
        updates_never_decrease = falls_push _ _ crl sound.crls.updates_never_decrease later.crls.updates_by_last;
        updates_by_last = all_push _ _ crl later.crls.updates_by_last (omega arith);
        within_cap = omega (arith, length-append records.crls (crl ∷ []), room);
      })
    where
      next : next_number records.crls ≡ length records.crls + 1
      next = next_is records.crls sound.crls.numbered

  command_kept : (command : Command) (bytes : List ℕ) → refusal records now command ≡ None → SoundRows (changed records now command bytes)
  command_kept (Subscriber name) bytes none = subscriber_kept name none
  command_kept (Order subscriber days) bytes none = order_kept subscriber days none
  command_kept (Register order serial not_before not_after) bytes none = go (is_repeat records (Register order serial not_before not_after)) refl
    where
      wanted : CertRow
      wanted = record { serial = serial; order = order; not_before = not_before; not_after = not_after }

      go : (repeat : Bool) → is_repeat records (Register order serial not_before not_after) ≡ repeat
          → SoundRows (cond repeat (touched records now) (with_certificate records now wanted))
      go true is = touched_kept
      go false is = certificate_kept wanted (accepted_register records now order serial not_before not_after none is)
  command_kept (Request serial word) bytes none = request_kept serial word none
  command_kept (Decline id) bytes none = declined_kept id (accepted_revoke records now id sound none)
  command_kept (Revoke id) bytes none = let is = accepted_revoke records now id sound none in rw is.found (revocation_kept id is)
  command_kept IssueCrl bytes none = crl_kept bytes none

-- the rows after an accepted command
pub changed_rows : (records : Records) (now : ℕ) (command : Command) (bytes : List ℕ) → SoundRows records → refusal records now command ≡ None
    → SoundRows (changed records now command bytes)
changed_rows records now command bytes sound none = command_kept records now sound (accepted_clock records now command none) command bytes none

-- OF THE RECORDS AS SUCH

-- there are no more revocations than requests
pub revocations_within : (records : Records) → SoundRows records → length records.revocations ≤ length records.requests
revocations_within records sound =
    few_keys (λ revocation. revocation.request) 1 (length records.requests) records.revocations sound.revocations.requests_differ
    (all_weaker _ _ (λ revocation holds. (bounds revocation holds).0) _ sound.revocations.each)
    (all_weaker _ _ (λ revocation holds. (bounds revocation holds).1) _ sound.revocations.each)
  where
    bounds : (revocation : RevocationRow) → SoundRevocation records.last records.certificates records.requests records.crls revocation
        → (1 ≤ revocation.request) × (revocation.request < 1 + length records.requests)
    bounds revocation holds =
        let found = some_and_of (λ request. request.serial ≡ revocation.serial) (request_in records.requests revocation.request) holds.by_request in
        let is : found.0.id ≡ revocation.request = key_found (λ request. request.id) records.requests revocation.request found.0 found.1 in
        let least : 1 ≤ found.0.id = all_found (λ request. 1 ≤ request.id) _ records.requests found.0 found.1 (numbered_above _ 1 _ sound.requests.numbered) in
        let most : found.0.id < 1 + length records.requests =
        all_found (λ request. request.id < 1 + length records.requests) _ records.requests found.0 found.1 (numbered_below _ 1 _ sound.requests.numbered) in
        omega arith

-- another schedule of longest validities, which is no command
pub schedule_kept : (records : Records) (schedule : List (ℕ × ℕ)) → SoundRows records → SoundRows (with_schedule records schedule)
schedule_kept records schedule sound = assumption

-- a register as it is created
pub no_records_sound : (issuer : Issuer) (policy : Terms) → SoundRows (no_records issuer policy)
no_records_sound issuer policy =
    rows_of _ (omega arith) (omega arith) (omega arith) (omega arith) (omega arith) (omega arith) (omega arith)
