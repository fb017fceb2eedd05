-- Rows that were written are read, table after table.
use Rattle.std.proofs.Common.{◌≡◌, ℕ, List, [], ◌∷◌, ◌++◌, Option, Some, None, append_assoc, refl, sym, ap, subst, ◌∙◌}
use Rattle.std.specs.Prelude.{codes, flat_map}
use Rattle.std.specs.List.{AllByRecursion}
use Rattle.reg_core.specs.declared.rows.SubscriberRow.{SubscriberRow}
use Rattle.reg_core.specs.declared.rows.OrderRow.{OrderRow}
use Rattle.reg_core.specs.declared.rows.CertRow.{CertRow}
use Rattle.reg_core.specs.declared.rows.RequestRow.{RequestRow}
use Rattle.reg_core.specs.declared.rows.RevocationRow.{RevocationRow}
use Rattle.reg_core_lists.specs.Feed.{RowLists, feed_rows_text}
use Rattle.reg_core_lists.specs.FeedLines.{certificate_line, declined_line, feed_line, order_line, request_line, revocation_line, subscriber_line}
use Rattle.reg_core_lists.specs.FeedReading.{HasNoneOf, ReadsFirst, ReadsItems, certificate_row_of, declined_id_of, line_read, order_row_of, request_row_of, revocation_row_of, row_read, subscriber_row_of}
use Rattle.reg_core_lists.specs.Fields.{ground_name}
use Rattle.reg_core_lists.specs.ReceivedPages.{HasNoRow, IsReadableCertificate, IsReadableNumber, IsReadableOrder, IsReadableRequest, IsReadableRevocation, IsReadableRows, IsReadableSubscriber, ReadsRows}
use Rattle.reg_core_lists.specs.declared.fields.Cell.TheVariants.{Number, Serial, At, Text}
use Rattle.reg_core_lists.proofs.FieldsRead.{ground_field, moment_field, name_field, number_field, octet_field, serial_field, written_row, written_value}

-- ---- one item after the other

module _ {A : Type 0} (read : List ℕ → Option (A × List ℕ)) where
  -- one item more
  pub reads_more : (items : List A) (text rest : List ℕ) (item : A) (next : List ℕ) → ReadsFirst read items text rest
      → read rest ≡ Some (item, next) → ReadsFirst read (items ++ item ∷ []) text next
  reads_more [] text rest item next reads is = (next, ap read reads ∙ is, refl)
  reads_more (first ∷ items) text rest item next reads is = (reads.0, reads.1, reads_more items reads.0 rest item next reads.2 is)

  -- a text has only these items
  pub same_items : (xs ys : List A) (text a b : List ℕ) → ReadsItems read xs text a → ReadsItems read ys text b → (xs ≡ ys) × (a ≡ b)
  same_items [] [] text a b x y = (refl, sym x.reads ∙ y.reads)
  same_items [] (y ∷ ys) text a b left right =
      absurd (let here : read text ≡ None = ap read left.reads ∙ left.ends in let there = right.reads.1 in let bad : ⊥ = cc in bad)
  same_items (x ∷ xs) [] text a b left right =
      absurd (let here : read text ≡ None = ap read right.reads ∙ right.ends in let there = left.reads.1 in let bad : ⊥ = cc in bad)
  same_items (x ∷ xs) (y ∷ ys) text a b left right =
      let first = left.reads.1 in
      let second = right.reads.1 in
      let both : (x, left.reads.0) ≡ (y, right.reads.0) = cc in
      let item : x ≡ y = ap (λ (it : A × List ℕ). it.0) both in
      let next : left.reads.0 ≡ right.reads.0 = ap (λ (it : A × List ℕ). it.1) both in
      let left_rest : ReadsItems read xs left.reads.0 a = record { reads = left.reads.2; ends = left.ends } in
      let right_rest : ReadsItems read ys left.reads.0 b =
      record { reads = subst (λ t. ReadsFirst read ys t b) (sym next) right.reads.2; ends = right.ends } in
      let more = same_items xs ys left.reads.0 a b left_rest right_rest in
      (λ i. item i ∷ more.0 i, more.1)

  -- lines of items that are read, whatever follows
  pub lines_read : (line : A → List ℕ) (P : A → Type 0) → ((item : A) → P item → (more : List ℕ) → read (line item ++ more) ≡ Some (item, more))
      → (items : List A) (rest : List ℕ) → AllByRecursion P items → read rest ≡ None
      → ReadsItems read items (flat_map line items ++ rest) rest
  lines_read line P found [] rest all none = record { reads = refl; ends = none }
  lines_read line P found (item ∷ items) rest all none =
      let others = lines_read line P found items rest all.1 none in
      let first : read ((line item ++ flat_map line items) ++ rest) ≡ Some (item, flat_map line items ++ rest) =
      ap read (append_assoc (line item) (flat_map line items) rest) ∙ found item all.0 (flat_map line items ++ rest) in
      record { reads = (flat_map line items ++ rest, first, others.reads); ends = others.ends }

-- ---- the row of each line

pub subscriber_found : (row : SubscriberRow) → IsReadableSubscriber row → (more : List ℕ)
    → row_read (codes "subscriber") subscriber_row_of (subscriber_line row ++ more) ≡ Some (row, more)
unfolding subscriber_row_of
subscriber_found row ok more =
    let id = number_field row.id ok.id in
    let name = name_field row.name ok.label ok.name in
    written_row (codes "subscriber") subscriber_row_of row _ more (id.bytes, (name.bytes, tt))
    (rw (written_value id (Text row.name ∷ []), written_value name []) refl)

pub order_found : (row : OrderRow) → IsReadableOrder row → (more : List ℕ)
    → row_read (codes "order") order_row_of (order_line row ++ more) ≡ Some (row, more)
unfolding order_row_of
order_found row ok more =
    let id = number_field row.id ok.id in
    let subscriber = number_field row.subscriber ok.subscriber in
    let days = number_field row.days ok.days in
    let last = Number row.days ∷ [] in
    written_row (codes "order") order_row_of row _ more (id.bytes, (subscriber.bytes, (days.bytes, tt)))
    (rw (written_value id (Number row.subscriber ∷ last), written_value subscriber last, written_value days []) refl)

pub certificate_found : (row : CertRow) → IsReadableCertificate row → (more : List ℕ)
    → row_read (codes "certificate") certificate_row_of (certificate_line row ++ more) ≡ Some (row, more)
unfolding certificate_row_of
certificate_found row ok more =
    let serial = serial_field row.serial ok.serial in
    let order = number_field row.order ok.order in
    let from = moment_field row.not_before ok.not_before in
    let to = moment_field row.not_after ok.not_after in
    let last = At row.not_after ∷ [] in
    let moments = At row.not_before ∷ last in
    written_row (codes "certificate") certificate_row_of row _ more (serial.bytes, (order.bytes, (from.bytes, (to.bytes, tt))))
    (rw (written_value serial (Number row.order ∷ moments), written_value order moments, written_value from last, written_value to []) refl)

pub request_found : (row : RequestRow) → IsReadableRequest row → (more : List ℕ)
    → row_read (codes "request") request_row_of (request_line row ++ more) ≡ Some (row, more)
unfolding request_row_of
request_found row ok more =
    let id = number_field row.id ok.id in
    let serial = serial_field row.serial ok.serial in
    let named = ground_field row.ground in
    let received = moment_field row.received ok.received in
    let last = At row.received ∷ [] in
    let others = Text (ground_name row.ground) ∷ last in
    written_row (codes "request") request_row_of row _ more (id.bytes, (serial.bytes, (named.bytes, (received.bytes, tt))))
    (rw (written_value id (Serial row.serial ∷ others), written_value serial others, written_value named last, written_value received [])
    (ap (λ declined. Some (record row { declined = declined })) (sym ok.declined)))

pub declined_found : (id : ℕ) → IsReadableNumber id → (more : List ℕ)
    → row_read (codes "declined") declined_id_of (declined_line id ++ more) ≡ Some (id, more)
unfolding declined_id_of
declined_found id ok more =
    let number = number_field id ok in
    written_row (codes "declined") declined_id_of id _ more (number.bytes, tt) (rw (written_value number []) refl)

pub revocation_found : (row : RevocationRow) → IsReadableRevocation row → (more : List ℕ)
    → row_read (codes "revocation") revocation_row_of (revocation_line row ++ more) ≡ Some (row, more)
unfolding revocation_row_of
revocation_found row ok more =
    let serial = serial_field row.serial ok.serial in
    let at = moment_field row.at ok.at in
    let reason = octet_field row.reason ok.reason in
    let request = number_field row.request ok.request in
    let first = number_field row.first ok.first in
    let last = Number row.first ∷ [] in
    let numbers = Number row.request ∷ last in
    let others = Number row.reason ∷ numbers in
    written_row (codes "revocation") revocation_row_of row _ more (serial.bytes, (at.bytes, (reason.bytes, (request.bytes, (first.bytes, tt)))))
    (rw (
      written_value serial (At row.at ∷ others),
      written_value at others,
      written_value reason numbers,
      written_value request last,
      written_value first [],
    ) refl)

-- ---- the tables

-- lines that none of the words begins, and what follows them
none_over : {A : Type 0} (line : A → List ℕ) (words : List (List ℕ)) → ((item : A) (more : List ℕ) → HasNoneOf words (line item ++ more))
    → (items : List A) (rest : List ℕ) → HasNoneOf words rest → HasNoneOf words (flat_map line items ++ rest)
none_over line words skips [] rest none = none
none_over line words skips (item ∷ items) rest none =
    subst (HasNoneOf words) (sym (append_assoc (line item) (flat_map line items) rest)) (skips item (flat_map line items ++ rest))

no_row_of : {A : Type 0} (word : List ℕ) (row : List ℕ → Option A) (text : List ℕ) → line_read word text ≡ None → row_read word row text ≡ None
unfolding row_read
no_row_of word row text is = rw is refl

-- what is read of a table's lines is what they were written of
same_table : {A : Type 0} {P : A → Type 0} (word : List ℕ) (row : List ℕ → Option A) (line : A → List ℕ)
    → ((it : A) → P it → (more : List ℕ) → row_read word row (line it ++ more) ≡ Some (it, more)) → (wanted got : List A) (text rest after : List ℕ)
    → AllByRecursion P wanted → line_read word rest ≡ None → text ≡ flat_map line wanted ++ rest → ReadsItems (row_read word row) got text after
    → (got ≡ wanted) × (after ≡ rest)
same_table {P = P} word row line found wanted got text rest after all none is reads =
    let written = lines_read (row_read word row) line P found wanted rest all (no_row_of word row rest none) in
    same_items (row_read word row) got wanted text after rest reads (subst (λ t. ReadsItems (row_read word row) wanted t rest) (sym is) written)

-- the rows that are read are those that were written, and no other table's
pub same_rows : (wanted got : RowLists) (text rest : List ℕ) → IsReadableRows wanted → HasNoRow rest → text ≡ feed_rows_text wanted ++ rest
    → ReadsRows got text → got ≡ wanted
unfolding feed_rows_text line_read feed_line
same_rows wanted got text rest ok none is reads =
    let t5 = flat_map revocation_line wanted.revocations ++ rest in
    let t4 = flat_map declined_line wanted.declined ++ t5 in
    let t3 = flat_map request_line wanted.requests ++ t4 in
    let t2 = flat_map certificate_line wanted.certificates ++ t3 in
    let t1 = flat_map order_line wanted.orders ++ t2 in
    let whole : text ≡ flat_map subscriber_line wanted.subscribers ++ t1 = is ∙ simp append_assoc in
    let words1 = codes "subscriber" ∷ [] in
    let words2 = codes "order" ∷ words1 in
    let words3 = codes "certificate" ∷ words2 in
    let words4 = codes "request" ∷ words3 in
    let words5 = codes "declined" ∷ words4 in
    let none5 = none_over revocation_line words5 (λ row more. (refl, (refl, (refl, (refl, (refl, tt)))))) wanted.revocations rest none.1 in
    let none4 = none_over declined_line words4 (λ row more. (refl, (refl, (refl, (refl, tt))))) wanted.declined t5 none5.1 in
    let none3 = none_over request_line words3 (λ row more. (refl, (refl, (refl, tt)))) wanted.requests t4 none4.1 in
    let none2 = none_over certificate_line words2 (λ row more. (refl, (refl, tt))) wanted.certificates t3 none3.1 in
    let none1 = none_over order_line words1 (λ row more. (refl, tt)) wanted.orders t2 none2.1 in
    let a =
    same_table _ _ subscriber_line subscriber_found wanted.subscribers got.subscribers _ t1 _ ok.subscribers none1.0 whole reads.subscribers in
    let b = same_table _ _ order_line order_found wanted.orders got.orders _ t2 _ ok.orders none2.0 a.1 reads.orders in
    let c =
    same_table _ _ certificate_line certificate_found wanted.certificates got.certificates _ t3 _ ok.certificates none3.0 b.1 reads.certificates in
    let d = same_table _ _ request_line request_found wanted.requests got.requests _ t4 _ ok.requests none4.0 c.1 reads.requests in
    let e = same_table _ _ declined_line declined_found wanted.declined got.declined _ t5 _ ok.declined none5.0 d.1 reads.declined in
    let f = same_table _ _ revocation_line revocation_found wanted.revocations got.revocations _ rest _ ok.revocations none.0 e.1 reads.revocations in
    λ i. record {
      subscribers = a.0 i;
      orders = b.0 i;
      certificates = c.0 i;
      requests = d.0 i;
      declined = e.0 i;
      revocations = f.0 i;
    }
