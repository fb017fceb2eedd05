-- What lists tell of one record, by what was looked up for it.
use Rattle.std.proofs.Common.{◌≡◌, ℕ, Bool, true, false, not, ◌&&◌, cond, Option, None, Some, Result, Ok, Err, refl, sym, ap, subst, ◌∙◌}
use Rattle.std.specs.Prelude.{IfOk, nat_lt, option_and_then, option_map}
use Rattle.std.specs.Option.{ok_or}
use Rattle.std.proofs.lemmas.Bool.{false≢true}
use Rattle.reg_core.specs.Crls.{last_listing}
use Rattle.reg_core.specs.Due.{deadline, is_open}
use Rattle.reg_core.specs.Queries.{listing}
use Rattle.reg_core.specs.Records.{Records, certificate_in, certificate_of_order, order_in, request_in, revocation_in, subscriber_in}
use Rattle.reg_core.specs.Status.{is_good, status, status_by}
use Rattle.reg_core.specs.declared.command.Listing.{Listing}
use Rattle.reg_core.specs.declared.command.Status.{Status}
use Rattle.reg_core.specs.declared.command.Status.TheVariants.{Good}
use Rattle.reg_core.specs.declared.rows.CertRow.{CertRow}
use Rattle.reg_core.specs.declared.rows.OrderRow.{OrderRow}
use Rattle.reg_core.specs.declared.rows.RequestRow.{RequestRow}
use Rattle.reg_core.specs.declared.rows.RevocationRow.{RevocationRow}
use Rattle.reg_core.specs.declared.rows.SubscriberRow.{SubscriberRow}
use Rattle.reg_core_lists.specs.Lists.{listed_certificate, certificate_row, expiring_row, history_row, lateness_of, open_row, order_row, overdue_row, listed_request, revoked_row, status_at, subscriber_of_order}
use Rattle.reg_core_lists.specs.declared.rows.ListedCertificate.{ListedCertificate}
use Rattle.reg_core_lists.specs.declared.rows.ListedOrder.{ListedOrder}
use Rattle.reg_core_lists.specs.declared.rows.RequestWithState.{RequestWithState}
use Rattle.reg_core_lists.specs.declared.rows.ListedRequest.{ListedRequest}
use Rattle.reg_core_lists.specs.declared.rows.ListedRevocation.{ListedRevocation}
use Rattle.reg_core_lists.specs.declared.rows.Row.{Row}
use Rattle.reg_core_lists.specs.declared.rows.Row.TheVariants.{Certificate, AnyRequest, Order, Request, Revoked}
use Rattle.reg_store_tables.proofs.PublicLaws.{not_good}

-- ---- what is there

-- what was looked up is there, or its lack is an error
pub present : {T E : Type 0} (r : Result T E) (found known : Option T) (why : E) → r ≡ ok_or found why → found ≡ known → IfOk r (λ row. Some row ≡ known)
present {T = T} {E = E} r (Some row) known why is same = subst (λ (it : Result T E). IfOk it (λ row. Some row ≡ known)) (sym is) same
present {T = T} {E = E} r None known why is same = subst (λ (it : Result T E). IfOk it (λ row. Some row ≡ known)) (sym is) tt

module _ (records : Records) where
  abbrev owner_of : OrderRow → Option SubscriberRow
  owner_of order = subscriber_in records.subscribers order.subscriber

  -- whose order it is
  pub owner_is : {E : Type 0} (id : ℕ) (order : OrderRow) (r : Result SubscriberRow E) → Some order ≡ order_in records.orders id
      → IfOk r (λ subscriber. Some subscriber ≡ subscriber_in records.subscribers order.subscriber) → IfOk r (λ subscriber. Some subscriber ≡ subscriber_of_order records id)
  owner_is id order (Ok subscriber) found owner = owner ∙ ap (option_and_then owner_of) found
  owner_is id order (Err why) found owner = tt

  -- ---- certificates

  abbrev listing_by : RevocationRow → Listing
  listing_by revocation = record { first = revocation.first; last = last_listing records revocation }

  -- nothing lists what is not revoked
  pub listed_nowhere : (serial : ℕ) → None ≡ revocation_in records.revocations serial → None ≡ listing records serial
  listed_nowhere serial none = ap (option_map listing_by) none

  module _ (now : ℕ) (certificate : CertRow) where
    abbrev line_with : SubscriberRow → ListedCertificate
    line_with subscriber = record {
      certificate = certificate;
      subscriber = subscriber;
      status = status_at records now certificate;
      listing = listing records certificate.serial;
    }

    abbrev line_by : Option RevocationRow → SubscriberRow → Option Listing → ListedCertificate
    line_by revocation subscriber listed = record {
      certificate = certificate;
      subscriber = subscriber;
      status = status_by now (Some certificate) revocation;
      listing = listed;
    }

    -- what is told of a certificate
    pub line_is : (line : ListedCertificate) (revocation : Option RevocationRow) (subscriber : SubscriberRow) (listed : Option Listing)
        → line ≡ line_by revocation subscriber listed → Some subscriber ≡ subscriber_of_order records certificate.order
        → listed ≡ listing records certificate.serial → revocation ≡ revocation_in records.revocations certificate.serial
        → Some line ≡ listed_certificate records now certificate
    line_is line revocation subscriber listed listed_so owner is revoked =
        let whole : line_by revocation subscriber listed ≡ line_with subscriber = λ i. line_by (revoked i) subscriber (is i) in
        ap (λ (it : ListedCertificate). Some it) (listed_so ∙ whole) ∙ ap (option_map line_with) owner

    -- as a row
    pub row_is : (line : ListedCertificate) → Some line ≡ listed_certificate records now certificate → Some (Certificate line) ≡ certificate_row records now certificate
    row_is line is = ap (option_map (λ (it : ListedCertificate). Certificate it)) is

    line_status : (owner : Option SubscriberRow) (line : ListedCertificate) → Some line ≡ option_map line_with owner → line.status ≡ status_at records now certificate
    line_status None line is = absurd (let no : ⊥ = cc in no)
    line_status (Some subscriber) line is =
        let same : line ≡ line_with subscriber = cc in
        ap (λ (it : ListedCertificate). it.status) same

    -- as a row, where it is good
    pub good_is : (line : ListedCertificate) (row : Option Row) → Some line ≡ listed_certificate records now certificate
        → row ≡ cond (is_good line.status) (Some (Certificate line)) None
        → row ≡ cond (is_good (status_at records now certificate)) (certificate_row records now certificate) None
    good_is line row is listed_so =
        let status = line_status (subscriber_of_order records certificate.order) line is in
        listed_so ∙ ap (λ s. cond (is_good s) (Some (Certificate line)) None) status
        ∙ ap (λ it. cond (is_good (status_at records now certificate)) it None) (row_is line is)

both_so : {T : Type 0} (good before : Bool) (row : Option T) → before ≡ true → cond good row None ≡ cond (good && before) row None
both_so true before row is = sym (ap (λ b. cond b row None) is)
both_so false before row is = refl

not_so : {T : Type 0} (good before : Bool) (row : Option T) → before ≡ false → None ≡ cond (good && before) row None
not_so true before row is = sym (ap (λ b. cond b row None) is)
not_so false before row is = refl

module _ {E : Type 0} (records : Records) (now before : ℕ) (certificate : CertRow) where
  -- a certificate that ends before a moment is a row of the list where it is good
  pub ending_is : (r : Result (Option Row) E) → nat_lt certificate.not_after before ≡ true
      → IfOk r (λ row. row ≡ cond (is_good (status_at records now certificate)) (certificate_row records now certificate) None)
      → IfOk r (λ row. row ≡ expiring_row records now before certificate)
  ending_is (Ok row) ends listed_so =
      listed_so ∙ both_so (is_good (status_at records now certificate)) (nat_lt certificate.not_after before) (certificate_row records now certificate) ends
  ending_is (Err why) ends listed_so = tt

-- and no other is
pub ending_none : (records : Records) (now before : ℕ) (certificate : CertRow) → nat_lt certificate.not_after before ≡ false
    → None ≡ expiring_row records now before certificate
ending_none records now before certificate late =
    not_so (is_good (status_at records now certificate)) (nat_lt certificate.not_after before) (certificate_row records now certificate) late

pub none_good : {T : Type 0} (s : Status) (row : Option T) → (s ≡ Good → ⊥) → None ≡ cond (is_good s) row None
none_good s row never = ap (λ b. cond b row None) (not_good s never)

-- ---- requests

declined_so : {T : Type 0} (declined good : Bool) (row : Option T) → declined ≡ true → None ≡ cond (not declined && good) row None
declined_so true good row is = refl
declined_so false good row is = absurd (false≢true is)

module _ (records : Records) (request : RequestRow) where
  abbrev one_of : Option Row
  one_of = option_map (λ (line : ListedRequest). Request line) (listed_request records request)

  abbrev request_with : CertRow → SubscriberRow → ListedRequest
  request_with certificate subscriber = record { request = request; due = deadline request; certificate = certificate; subscriber = subscriber }

  -- what is told of a request
  pub request_is : (line : ListedRequest) (certificate : CertRow) → line.request ≡ request → line.due ≡ deadline request → line.certificate ≡ certificate
      → Some line.subscriber ≡ subscriber_of_order records certificate.order → Some certificate ≡ certificate_in records.certificates request.serial
      → Some line ≡ listed_request records request
  request_is line certificate same due held owner found =
      let whole : line ≡ request_with certificate line.subscriber =
      λ i. record { request = same i; due = due i; certificate = held i; subscriber = line.subscriber } in
      ap (λ (it : ListedRequest). Some it) whole ∙ ap (option_map (request_with certificate)) owner
      ∙ ap (option_and_then (λ (it : CertRow). option_map (request_with it) (subscriber_of_order records it.order))) found

module _ (records : Records) (now : ℕ) (request : RequestRow) where
  -- one that is declined is no row of the list
  pub declined_none : request.declined ≡ true → None ≡ open_row records now request
  declined_none declined = declined_so request.declined (is_good (status_by now (certificate_in records.certificates request.serial) (revocation_in records.revocations request.serial))) (one_of records request) declined

  -- one that is not is open where its certificate is good
  pub open_is : (certificate : CertRow) (revocation : Option RevocationRow) (good : Bool) → request.declined ≡ false
      → Some certificate ≡ certificate_in records.certificates request.serial → revocation ≡ revocation_in records.revocations request.serial
      → good ≡ is_good (status_by now (Some certificate) revocation) → is_open records now request ≡ good
  open_is certificate revocation good undeclined found revoked is =
      (λ i. not (undeclined i) && is_good (status_by now ((sym found) i) ((sym revoked) i))) ∙ sym is

  pub open_some : (good : Bool) (line : ListedRequest) → is_open records now request ≡ good → good ≡ true
      → Some line ≡ listed_request records request → Some (Request line) ≡ open_row records now request
  open_some good line is passed listed_so =
      ap (option_map (λ (it : ListedRequest). Request it)) listed_so ∙ sym (ap (λ b. cond b (one_of records request) None) (is ∙ passed))

  pub open_none : (good : Bool) → is_open records now request ≡ good → good ≡ false → None ≡ open_row records now request
  open_none good is failed = sym (ap (λ b. cond b (one_of records request) None) (is ∙ failed))

  -- one whose deadline is past is overdue where it is open
  pub overdue_some : {E : Type 0} (r : Result (Option Row) E) (due : ℕ) → due ≡ deadline request → nat_lt due now ≡ true
      → IfOk r (λ row. row ≡ open_row records now request) → IfOk r (λ row. row ≡ overdue_row records now request)
  overdue_some (Ok row) due is late listed_so =
      listed_so ∙ sym (ap (λ b. cond b (open_row records now request) None) (sym (ap (λ moment. nat_lt moment now) is) ∙ late))
  overdue_some (Err why) due is late listed_so = tt

  pub overdue_none : (due : ℕ) → due ≡ deadline request → nat_lt due now ≡ false → None ≡ overdue_row records now request
  overdue_none due is early = sym (ap (λ b. cond b (open_row records now request) None) (sym (ap (λ moment. nat_lt moment now) is) ∙ early))

  abbrev history_with : Status → ListedRequest → RequestWithState
  history_with is line = record { request = line; status = is; lateness = lateness_of now request line.certificate is }

  -- what became of any
  pub history_is : (line : ListedRequest) (certificate : CertRow) (revocation : Option RevocationRow) (history : RequestWithState)
      → history.request ≡ line → history.status ≡ status_by now (Some certificate) revocation
      → history.lateness ≡ lateness_of now request line.certificate history.status
      → Some line ≡ listed_request records request → Some certificate ≡ certificate_in records.certificates request.serial
      → revocation ≡ revocation_in records.revocations request.serial → Some (AnyRequest history) ≡ history_row records now request
  history_is line certificate revocation history same is late listed_so found revoked =
      let whole : history ≡ history_with (status_by now (Some certificate) revocation) line =
      λ i. record { request = same i; status = is i; lateness = (late ∙ ap (lateness_of now request line.certificate) is) i } in
      ap (λ (it : RequestWithState). Some (AnyRequest it)) whole
      ∙ (λ i. Some (AnyRequest (history_with (status_by now (found i) (revoked i)) line)))
      ∙ ap (λ (it : Option ListedRequest). option_map (λ (one : RequestWithState). AnyRequest one) (option_map (history_with (status records request.serial now)) it)) listed_so

-- ---- revocations

module _ (records : Records) (now : ℕ) (revocation : RevocationRow) where
  abbrev revoked_with : RequestRow → ListedCertificate → ListedRevocation
  revoked_with request line = record { certificate = line; revocation = revocation; request = request; due = deadline request }

  abbrev line_of : Option CertRow → Option ListedCertificate
  line_of registered = option_and_then (listed_certificate records now) registered

  -- what is told of a revocation
  pub revoked_is : (request : RequestRow) (registered : CertRow) (line : ListedRevocation) → line.revocation ≡ revocation → line.request ≡ request
      → line.due ≡ deadline request → Some request ≡ request_in records.requests revocation.request
      → Some registered ≡ certificate_in records.certificates revocation.serial → Some line.certificate ≡ listed_certificate records now registered
      → Some (Revoked line) ≡ revoked_row records now revocation
  revoked_is request registered line same led due found held listed_so =
      let whole : line ≡ revoked_with request line.certificate =
      λ i. record { certificate = line.certificate; revocation = same i; request = led i; due = due i } in
      let known : Some line.certificate ≡ line_of (certificate_in records.certificates revocation.serial) = listed_so ∙ ap line_of held in
      ap (λ (it : ListedRevocation). Some (Revoked it)) whole
      ∙ ap (λ (it : Option ListedCertificate). option_map (λ (one : ListedRevocation). Revoked one) (option_map (revoked_with request) it)) known
      ∙ ap (λ (it : Option RequestRow). option_map (λ (one : ListedRevocation). Revoked one)
      (option_and_then (λ (one : RequestRow). option_map (revoked_with one) (line_of (certificate_in records.certificates revocation.serial))) it)) found

-- ---- orders

module _ (records : Records) (order : OrderRow) where
  abbrev order_with : Option CertRow → SubscriberRow → ListedOrder
  order_with certificate subscriber = record { order = order; subscriber = subscriber; serial = option_map (λ (it : CertRow). it.serial) certificate }

  -- what is told of an order
  pub order_is : (line : ListedOrder) (certificate : Option CertRow) → line.order ≡ order → Some line.subscriber ≡ subscriber_in records.subscribers order.subscriber
      → line.serial ≡ option_map (λ (it : CertRow). it.serial) certificate → certificate ≡ certificate_of_order records.certificates order.id
      → Some (Order line) ≡ order_row records order
  order_is line certificate same owner serial filled =
      let whole : line ≡ order_with (certificate_of_order records.certificates order.id) line.subscriber =
      λ i. record { order = same i; subscriber = line.subscriber; serial = (serial ∙ ap (option_map (λ (it : CertRow). it.serial)) filled) i } in
      let held = ap (λ (it : ListedOrder). Some it) whole ∙ ap (option_map (order_with (certificate_of_order records.certificates order.id))) owner in
      ap (option_map (λ (it : ListedOrder). Order it)) held

-- ---- a row at an id

-- what is told of a record that is looked up by its id
pub row_found : {A : Type 0} {E : Type 0} (row_for : A → Option Row) (known : Option A) (a : A) (r : Result (Option Row) E) → Some a ≡ known
    → IfOk r (λ row. row ≡ row_for a) → IfOk r (λ row. row ≡ option_and_then row_for known)
row_found row_for known a (Ok row) found listed_so = listed_so ∙ ap (option_and_then row_for) found
row_found row_for known a (Err why) found listed_so = tt
