-- Look-ups, a decision on the rows that they found, and one change make one step.
use Rattle.std.specs.Prelude.{length, ◌==◌, nat_lt, option_and_then, option_map, unwrap_or, Result, Ok, Err, IfSome, IsSome}
use Rattle.std.specs.List.{list_any}
use Rattle.std.proofs.Common.{◌≡◌, ℕ, ◌+◌, Bool, true, false, cond, List, [], ◌∷◌, Option, Some, None, find, refl, sym, ap, ◌∙◌, arith}
use Rattle.std.proofs.lemmas.Bool.Decides.{nat_tests}
use Rattle.reg_core.specs.Changes.{touched, with_subscriber, with_order, with_certificate, with_request, with_declined, with_revocation, with_crl}
use Rattle.reg_core.specs.Crls.{CertList, cert_list, listed_revocations, latest, next_number, row_of}
use Rattle.reg_core.specs.Decisions.{head_of, IsDecidedBy, DecidesSubscriber, DecidesOrder, DecidesRegister, DecidesRequest, DecidesDecline, DecidesRevoke, DecidesCrl, IsRequest, is_same}
use Rattle.reg_core.specs.Due.{deadline}
use Rattle.reg_core.specs.Grounds.{ground_named, ground_or, ground_or_refusal}
use Rattle.reg_core.specs.Policy.{Terms}
use Rattle.reg_core.specs.Records.{Records, subscriber_in, subscriber_named, order_in, certificate_in, certificate_of_order, request_in, revocation_in}
use Rattle.reg_core.specs.Sound.{KeysDiffer, SoundRows}
use Rattle.reg_core.specs.Step.{Step, IsSigned, refusal, reply, changed, is_repeat, same_certificate, request_row, revocation_row, is_late}
use Rattle.reg_core.specs.declared.grounds.Ground.{Ground}
use Rattle.reg_core.specs.declared.grounds.Ground.TheVariants.{Asked}
use Rattle.reg_core.specs.declared.rows.Head.{Head}
use Rattle.reg_core.specs.declared.rows.SubscriberRow.{SubscriberRow}
use Rattle.reg_core.specs.declared.rows.OrderRow.{OrderRow}
use Rattle.reg_core.specs.declared.rows.CertRow.{CertRow}
use Rattle.reg_core.specs.declared.rows.RequestRow.{RequestRow}
use Rattle.reg_core.specs.declared.rows.RevocationRow.{RevocationRow}
use Rattle.reg_core.specs.declared.rows.CrlRow.{CrlRow}
use Rattle.reg_core.specs.declared.command.Command.{Command}
use Rattle.reg_core.specs.declared.command.Command.TheVariants.{Subscriber, Order, Request, Decline, Revoke, Crl as IssueCrl}
use Rattle.reg_core.specs.declared.command.Reply.{Reply}
use Rattle.reg_core.specs.declared.command.Reply.TheVariants.{Subscriber as SubscriberEntered, Order as OrderEntered, Registered, Same, Request as RequestEntered, Declined, Revoked as RevokedNow, Crl as CrlIssued}
use Rattle.reg_core.specs.declared.refusal.Refusal.{Refusal}
use Rattle.reg_core.specs.declared.refusal.Fault.TheVariants.{Refused}
use Rattle.reg_core_laws.specs.Import.{register}
use Rattle.reg_core_laws.proofs.Lists.{all_weaker, any_none, key_found}

-- a head whose parts were looked up
pub head_from : {now last held rows : ℕ} {policy : Terms} (records : Records) → last ≡ records.last → policy ≡ records.policy → held ≡ rows
    → record { now = now; last = last; policy = policy; held = held } ≡ head_of records now rows
head_from {now = now} records last_is policy_is held_is = λ i. record { now = now; last = last_is i; policy = policy_is i; held = held_is i }

-- a refusal is one step, which leaves the records
pub record Refuses (signed : CertList → List ℕ → Type 0) (records : Records) (now : ℕ) (command : Command) (refused : Refusal) : Type 0 where
  pub refused_by : refusal records now command ≡ Some refused
  pub step : (after : Records) → after ≡ records → Step signed records now command (Err (Refused refused)) after

-- an acceptance with its one change of the records is one step
pub record Accepts (signed : CertList → List ℕ → Type 0) (records : Records) (now : ℕ) (command : Command) (answer : Reply) (change : Records) : Type 0 where
  pub accepted : refusal records now command ≡ None
  pub replies : reply records now command ≡ answer
  pub changes : changed records now command [] ≡ change
  pub step : (after : Records) → after ≡ change → Step signed records now command (Ok answer) after

-- what a decision says of the refusal that applies: it is the one that is answered, or there is none
abbrev pub Says : {Answer : Type 0} → Option Refusal → (Answer → Type 0) → Result Answer Refusal → Type 0
Says refused IsAnswer (Err reason) = refused ≡ Some reason
Says refused IsAnswer (Ok answer) = (refused ≡ None) × IsAnswer answer

-- the same from what a decision ensures
pub says : {Answer : Type 0} (refused : Option Refusal) (IsAnswer : Answer → Type 0) (result : Result Answer Refusal)
    → IsDecidedBy refused IsAnswer result → Says refused IsAnswer result
says (Some applied) IsAnswer (Err reason) decides = cc
says (Some applied) IsAnswer (Ok answer) decides = cc
says None IsAnswer (Err reason) decides = absurd decides
says None IsAnswer (Ok answer) decides = (refl, decides)

-- what is told of a command: the refusal that applies, or that it is accepted so
abbrev pub RevocationsOnCrls : {Answer : Type 0} → (CertList → List ℕ → Type 0) → Records → ℕ → Command → (Answer → Type 0) → Result Answer Refusal → Type 0
RevocationsOnCrls signed records now command IsAccepted (Err refused) = Refuses signed records now command refused
RevocationsOnCrls signed records now command IsAccepted (Ok answer) = IsAccepted answer

module _ (signed : CertList → List ℕ → Type 0) (records : Records) (now : ℕ) (command : Command) where
  -- the refusal that applies is what a step answers
  pub step_refused : (refused : Refusal) → refusal records now command ≡ Some refused → Refuses signed records now command refused
  step_refused refused e = record { refused_by = e; step = λ after same. rw e (refl, same) }

  -- where none applies, the reply and the change are the step
  pub step_accepted : (answer : Reply) (bytes : List ℕ) (change : Records) → refusal records now command ≡ None → IsSigned signed records now command bytes
      → reply records now command ≡ answer → changed records now command bytes ≡ change → (after : Records) → after ≡ change
      → Step signed records now command (Ok answer) after
  step_accepted answer bytes change accepted signatures replies changes after same = rw accepted (bytes, ap Ok (sym replies), signatures, same ∙ sym changes)

  -- the same of a command that has no bytes to sign
  accepts_as : {answer : Reply} {change : Records} → IsSigned signed records now command [] → refusal records now command ≡ None
      → reply records now command ≡ answer
      → changed records now command [] ≡ change → Accepts signed records now command answer change
  accepts_as {answer} {change} unsigned accepted replies changes =
      record { accepted = accepted; replies = replies; changes = changes; step = step_accepted answer [] change accepted unsigned replies changes }

  -- what follows from what was decided
  decided : {Answer : Type 0} (IsAnswer IsAccepted : Answer → Type 0) (result : Result Answer Refusal) → IsDecidedBy (refusal records now command) IsAnswer result
      → ((answer : Answer) → refusal records now command ≡ None → IsAnswer answer → IsAccepted answer) → RevocationsOnCrls signed records now command IsAccepted result
  decided IsAnswer IsAccepted (Err refused) decides accepted = step_refused refused (says (refusal records now command) IsAnswer (Err refused) decides)
  decided IsAnswer IsAccepted (Ok answer) decides accepted = let is = says (refusal records now command) IsAnswer (Ok answer) decides in accepted answer is.0 is.1

-- a row that was looked up and is there, with its number, as a decision speaks of it
known_of : {Row : Type 0} (key : Row → ℕ) (rows : List Row) (target : ℕ) (P : Row → Type 0) → IsSome (find (λ row. key row == target) rows)
    → IfSome (find (λ row. key row == target) rows) P → (known : Row) × (find (λ row. key row == target) rows ≡ Some known) × (key known ≡ target) × P known
known_of {Row} key rows target P = go (find (λ row. key row == target) rows) refl
  where
    go : (found : Option Row) → find (λ row. key row == target) rows ≡ found → IsSome found → IfSome found P
        → (known : Row) × (find (λ row. key row == target) rows ≡ Some known) × (key known ≡ target) × P known
    go None is some holds = cc
    go (Some known) is some holds = (known, is, key_found key rows target known is, holds)

-- SUBSCRIBERS

-- a subscriber: refused, or entered
pub record AcceptsSubscriber (signed : CertList → List ℕ → Type 0) (records : Records) (now : ℕ) (name : List ℕ) (row : SubscriberRow) : Type 0 where
  pub row_is : row ≡ record { id = length records.subscribers + 1; name = name }
  pub accepts : Accepts signed records now (Subscriber name) (SubscriberEntered row.id) (with_subscriber records now row)

abbrev pub SubscriberSays : (CertList → List ℕ → Type 0) → Records → ℕ → List ℕ → Result SubscriberRow Refusal → Type 0
SubscriberSays signed records now name result = RevocationsOnCrls signed records now (Subscriber name) (AcceptsSubscriber signed records now name) result

-- a head, one look-up and the decision
pub subscriber_decided : (signed : CertList → List ℕ → Type 0) (records : Records) (now : ℕ) (head : Head) (name : List ℕ)
    (by_name : Option SubscriberRow) (result : Result SubscriberRow Refusal)
    → head ≡ head_of records now (length records.subscribers)
    → by_name ≡ subscriber_named records.subscribers name → DecidesSubscriber head name by_name result
    → SubscriberSays signed records now name result
subscriber_decided signed records now head name by_name result head_is by_name_is decides =
    decided signed records now (Subscriber name) _ (AcceptsSubscriber signed records now name) result (rw (head_is, by_name_is) at decides)
    (λ row none is. record { row_is = is; accepts = accepts_as signed records now (Subscriber name) refl none (rw is) (rw is) })

-- ORDERS

-- an order: refused, or entered
pub record AcceptsOrder (signed : CertList → List ℕ → Type 0) (records : Records) (now : ℕ) (subscriber days : ℕ) (row : OrderRow) : Type 0 where
  pub row_is : row ≡ record { id = length records.orders + 1; subscriber = subscriber; days = days }
  pub accepts : Accepts signed records now (Order subscriber days) (OrderEntered row.id) (with_order records now row)

abbrev pub OrderSays : (CertList → List ℕ → Type 0) → Records → ℕ → ℕ → ℕ → Result OrderRow Refusal → Type 0
OrderSays signed records now subscriber days result = RevocationsOnCrls signed records now (Order subscriber days) (AcceptsOrder signed records now subscriber days) result

-- a head, one look-up and the decision
pub order_decided : (signed : CertList → List ℕ → Type 0) (records : Records) (now : ℕ) (head : Head) (subscriber days : ℕ)
    (known : Option SubscriberRow) (result : Result OrderRow Refusal)
    → head ≡ head_of records now (length records.orders) → known ≡ subscriber_in records.subscribers subscriber
    → DecidesOrder head known days result → OrderSays signed records now subscriber days result
order_decided signed records now head subscriber days known result head_is known_is decides =
    decided signed records now (Order subscriber days) _ (AcceptsOrder signed records now subscriber days) result (rw (head_is, known_is) at decides)
    (λ row none is.
    let found = known_of (λ row. row.id) records.subscribers subscriber _ (some none) is in
    let row_is : row ≡ record { id = length records.orders + 1; subscriber = subscriber; days = days } = rw found.2 at found.3 in
    record { row_is = row_is; accepts = accepts_as signed records now (Order subscriber days) refl none (rw row_is) (rw row_is) })
  where
    some : refusal records now (Order subscriber days) ≡ None → IsSome (subscriber_in records.subscribers subscriber)
    some none = grind (arith, nat_tests)

-- REQUESTS

-- a request: refused, or entered
pub record AcceptsRequest (signed : CertList → List ℕ → Type 0) (records : Records) (now serial : ℕ) (word : List ℕ) (row : RequestRow) : Type 0 where
  pub row_is : row ≡ request_row records now serial word
  pub accepts : Accepts signed records now (Request serial word) (RequestEntered row.id (deadline row)) (with_request records now row)

abbrev pub RequestSays : (CertList → List ℕ → Type 0) → Records → ℕ → ℕ → List ℕ → Result RequestRow Refusal → Type 0
RequestSays signed records now serial word result = RevocationsOnCrls signed records now (Request serial word) (AcceptsRequest signed records now serial word) result

-- the ground that is found, or a refusal
abbrev named_or_refused : Refusal → Option Ground → Result Ground Refusal
named_or_refused refused (Some named) = Ok named
named_or_refused refused None = Err refused

named_of : (refused : Refusal) (found : Option Ground) (named : Ground) → named_or_refused refused found ≡ Ok named → unwrap_or found Asked ≡ named
named_of refused (Some other) named e = cc
named_of refused None named e = cc

-- the ground that a word names is the one that is asked for
ground_is : (word : List ℕ) (named : Ground) → ground_or_refusal word ≡ Ok named → ground_or Asked word ≡ named
ground_is word named e = named_of _ (ground_named word) named e

-- the row of the request that was decided
request_is : (records : Records) (now serial : ℕ) (word : List ℕ) (certificate : CertRow) (row : RequestRow) → certificate.serial ≡ serial
    → IsRequest (head_of records now (length records.requests)) certificate word row → row ≡ request_row records now serial word
request_is records now serial word certificate row same is = λ i. record {
  id = is.next_id i;
  serial = (is.of_certificate ∙ same) i;
  ground = sym (ground_is word row.ground is.on_named) i;
  received = is.received_now i;
  declined = is.not_declined i;
}

-- a head, two look-ups and the decision
pub request_decided : (signed : CertList → List ℕ → Type 0) (records : Records) (now : ℕ) (head : Head) (serial : ℕ)
    (word : List ℕ) (certificate : Option CertRow) (revocation : Option RevocationRow)
    (result : Result RequestRow Refusal)
    → head ≡ head_of records now (length records.requests)
    → certificate ≡ certificate_in records.certificates serial
    → revocation ≡ revocation_in records.revocations serial
    → DecidesRequest head certificate word revocation result → RequestSays signed records now serial word result
request_decided signed records now head serial word certificate revocation result head_is certificate_is revocation_is decides =
    decided signed records now (Request serial word) _ (AcceptsRequest signed records now serial word) result
    (rw (head_is, certificate_is, revocation_is) at decides)
    (λ row none is.
    let found = known_of (λ row. row.serial) records.certificates serial _ (some none) is in
    let row_is : row ≡ request_row records now serial word = request_is records now serial word found.0 row found.2 found.3 in
    record { row_is = row_is; accepts = accepts_as signed records now (Request serial word) refl none (rw row_is) (rw row_is) })
  where
    some : refusal records now (Request serial word) ≡ None → IsSome (certificate_in records.certificates serial)
    some none = grind (arith, nat_tests)

-- DECLINES

-- a decline: refused, or the request declined
pub record AcceptsDecline (signed : CertList → List ℕ → Type 0) (records : Records) (now id : ℕ) (row : RequestRow) : Type 0 where
  pub known : RequestRow
  pub request_is : request_in records.requests id ≡ Some known
  pub row_is : row ≡ record known { declined = true }
  pub id_is : row.id ≡ id
  pub accepts : Accepts signed records now (Decline id) Declined (with_declined records now id)

abbrev pub DeclineSays : (CertList → List ℕ → Type 0) → Records → ℕ → ℕ → Result RequestRow Refusal → Type 0
DeclineSays signed records now id result = RevocationsOnCrls signed records now (Decline id) (AcceptsDecline signed records now id) result

-- a request that a command settles is there
settles : (records : Records) (now id : ℕ) → refusal records now (Decline id) ≡ None → IsSome (request_in records.requests id)
settles records now id none = grind (arith, nat_tests)

-- a head, the request, what was looked up by its serial number, and the decision
pub decline_decided : (signed : CertList → List ℕ → Type 0) (records : Records) (now : ℕ) (head : Head) (held id : ℕ)
    (request : Option RequestRow) (certificate : Option CertRow) (revocation : Option RevocationRow)
    (result : Result RequestRow Refusal)
    → head ≡ head_of records now held → request ≡ request_in records.requests id
    → certificate ≡ option_and_then (λ row. certificate_in records.certificates row.serial) request
    → revocation ≡ option_and_then (λ row. revocation_in records.revocations row.serial) request
    → DecidesDecline head request certificate revocation result → DeclineSays signed records now id result
decline_decided signed records now head held id request certificate revocation result head_is request_is certificate_is revocation_is decides =
    decided signed records now (Decline id) _ (AcceptsDecline signed records now id) result (rw (head_is, certificate_is, revocation_is, request_is) at decides)
    (λ row none is.
    let found = known_of (λ row. row.id) records.requests id _ (settles records now id none) is in
    record {
      known = found.0;
      request_is = found.1;
      row_is = found.3;
      id_is = ap (λ r. r.id) found.3 ∙ found.2;
      accepts = accepts_as signed records now (Decline id) refl none refl refl;
    })

-- REVOCATIONS

-- a revocation: refused, or the request led to it
pub record AcceptsRevocation (signed : CertList → List ℕ → Type 0) (records : Records) (now id : ℕ) (answer : RevocationRow × Bool) : Type 0 where
  pub request : RequestRow
  pub request_is : request_in records.requests id ≡ Some request
  pub row_is : answer.0 ≡ revocation_row records now request
  pub late_is : answer.1 ≡ is_late records now id
  pub accepts : Accepts signed records now (Revoke id) (RevokedNow answer.1) (with_revocation records now answer.0)

abbrev pub RevokeSays : (CertList → List ℕ → Type 0) → Records → ℕ → ℕ → Result (RevocationRow × Bool) Refusal → Type 0
RevokeSays signed records now id result = RevocationsOnCrls signed records now (Revoke id) (AcceptsRevocation signed records now id) result

-- a head, the request, what was looked up by its serial number, the latest CRL, and the decision
pub revoke_decided : (signed : CertList → List ℕ → Type 0) (records : Records) (now : ℕ) (head : Head) (held id : ℕ)
    (request : Option RequestRow) (certificate : Option CertRow) (revocation : Option RevocationRow)
    (newest : Option CrlRow) (result : Result (RevocationRow × Bool) Refusal)
    → head ≡ head_of records now held → request ≡ request_in records.requests id
    → certificate ≡ option_and_then (λ row. certificate_in records.certificates row.serial) request
    → revocation ≡ option_and_then (λ row. revocation_in records.revocations row.serial) request
    → newest ≡ option_map row_of (latest records.crls)
    → DecidesRevoke head request certificate revocation newest result → RevokeSays signed records now id result
revoke_decided signed records now head held id request certificate revocation newest result head_is request_is certificate_is revocation_is newest_is decides =
    decided signed records now (Revoke id) _ (AcceptsRevocation signed records now id) result
    (rw (head_is, certificate_is, revocation_is, request_is, newest_is) at decides)
    (λ answer none is.
    let found = known_of (λ row. row.id) records.requests id _ (settles records now id none) is in
    let both : answer ≡ (revocation_row records now found.0, nat_lt (deadline found.0) now) = found.3 in
    let late : answer.1 ≡ is_late records now id = rw found.1 (ap (λ a. a.1) both) in
    record {
      request = found.0;
      request_is = found.1;
      row_is = ap (λ a. a.0) both;
      late_is = late;
      accepts = accepts_as signed records now (Revoke id) refl none (sym (ap RevokedNow late)) (rw found.1 (sym (ap (λ a. with_revocation records now a.0) both)));
    })

-- CRLS

-- a CRL: refused, or issued, signed over what it lists
pub record AcceptsCrl (signed : CertList → List ℕ → Type 0) (records : Records) (now : ℕ) (row : CrlRow) : Type 0 where
  pub row_is : row ≡ record { number = next_number records.crls; this_update = now }
  pub accepted : refusal records now IssueCrl ≡ None
  pub step :
      (after : Records) (bytes : List ℕ)
      → signed (cert_list records row.number row.this_update) bytes
      → after ≡ with_crl records now (record { number = row.number; this_update = row.this_update; bytes = bytes })
      → Step signed records now IssueCrl (Ok (CrlIssued row.number (length (listed_revocations records row.number)))) after

abbrev pub CrlSays : (CertList → List ℕ → Type 0) → Records → ℕ → Result CrlRow Refusal → Type 0
CrlSays signed records now result = RevocationsOnCrls signed records now IssueCrl (AcceptsCrl signed records now) result

-- a head, the latest CRL and the decision
pub crl_decided : (signed : CertList → List ℕ → Type 0) (records : Records) (now : ℕ) (head : Head) (newest : Option CrlRow)
    (result : Result CrlRow Refusal)
    → head ≡ head_of records now (length records.crls) → newest ≡ option_map row_of (latest records.crls)
    → DecidesCrl head newest result → CrlSays signed records now result
crl_decided signed records now head newest result head_is newest_is decides =
    decided signed records now IssueCrl _ (AcceptsCrl signed records now) result (rw (head_is, newest_is) at decides)
    (λ row none is. record {
      row_is = is;
      accepted = none;
      step = λ after bytes signatures same. step_accepted signed records now IssueCrl _ bytes _ none (rw is at signatures) (rw is) (rw is) after same;
    })

-- REGISTRATIONS

-- no other certificate has the serial number, so a repeat is told by the look-up
repeat_is_same : (wanted : CertRow) (rows : List CertRow) → KeysDiffer (λ row. row.serial) rows
    → list_any (same_certificate wanted) rows ≡ is_same wanted (certificate_in rows wanted.serial)
repeat_is_same wanted [] differ = refl
repeat_is_same wanted (row ∷ rest) differ = grind (arith, nat_tests, no_other, repeat_is_same wanted rest differ.1)
  where
    no_other : row.serial ≡ wanted.serial → list_any (same_certificate wanted) rest ≡ false
    no_other same = any_none _ rest (all_weaker _ _ (λ other differs. grind (arith, nat_tests)) rest differ.0)

-- a registration: refused, or the same stands already, or it is entered
pub record AcceptsSame (signed : CertList → List ℕ → Type 0) (records : Records) (now : ℕ) (wanted : CertRow) : Type 0 where
  pub repeats : is_repeat records (register wanted) ≡ true
  pub accepts : Accepts signed records now (register wanted) Same (touched records now)

pub record AcceptsRegistration (signed : CertList → List ℕ → Type 0) (records : Records) (now : ℕ) (wanted row : CertRow) : Type 0 where
  pub row_is : row ≡ wanted
  pub first_time : is_repeat records (register wanted) ≡ false
  pub accepts : Accepts signed records now (register wanted) Registered (with_certificate records now row)

abbrev pub AcceptsRegister : (CertList → List ℕ → Type 0) → Records → ℕ → CertRow → Option CertRow → Type 0
AcceptsRegister signed records now wanted None = AcceptsSame signed records now wanted
AcceptsRegister signed records now wanted (Some row) = AcceptsRegistration signed records now wanted row

abbrev pub RegisterSays : (CertList → List ℕ → Type 0) → Records → ℕ → CertRow → Result (Option CertRow) Refusal → Type 0
RegisterSays signed records now wanted result = RevocationsOnCrls signed records now (register wanted) (AcceptsRegister signed records now wanted) result

-- a head, three look-ups and the decision, over sound records
pub register_decided : (signed : CertList → List ℕ → Type 0) (records : Records) (now : ℕ) (head : Head) (wanted : CertRow)
    (order : Option OrderRow) (by_order by_serial : Option CertRow) (result : Result (Option CertRow) Refusal)
    → SoundRows records → head ≡ head_of records now (length records.certificates)
    → order ≡ order_in records.orders wanted.order
    → by_order ≡ certificate_of_order records.certificates wanted.order
    → by_serial ≡ certificate_in records.certificates wanted.serial
    → DecidesRegister head wanted order by_order by_serial result
    → RegisterSays signed records now wanted result
register_decided signed records now head wanted order by_order by_serial result sound head_is order_is by_order_is by_serial_is decides =
    decided signed records now (register wanted) (λ row. row ≡ cond (is_repeat records (register wanted)) None (Some wanted))
    (AcceptsRegister signed records now wanted) result
    (rw (head_is, order_is, by_order_is, by_serial_is, ← (repeat_is_same wanted records.certificates sound.certificates.serials_differ)) at decides) go
  where
    go : (answer : Option CertRow) → refusal records now (register wanted) ≡ None → answer ≡ cond (is_repeat records (register wanted)) None (Some wanted)
        → AcceptsRegister signed records now wanted answer
    go None none is =
        let repeats : is_repeat records (register wanted) ≡ true = grind arith in
        record { repeats = repeats; accepts = accepts_as signed records now (register wanted) refl none (rw repeats) (rw repeats) }
    go (Some row) none is =
        let first_time : is_repeat records (register wanted) ≡ false = grind arith in
        let row_is : row ≡ wanted = grind arith in
        record {
          row_is = row_is;
          first_time = first_time;
          accepts = accepts_as signed records now (register wanted) refl none (rw first_time) (rw (first_time, row_is));
        }
