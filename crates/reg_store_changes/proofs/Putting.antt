-- The steps that put a row into a table.
use Rattle.std.proofs.Common.{◌≡◌, ◌+◌, ℕ, pos, List, [], ◌∷◌, ◌++◌, map, length, cond, None, codes, refl, ap, ap₂, subst, ◌∙◌, arith}
use Rattle.sqlite_value.specs.declared.value.Value.TheVariants.{Null, Text, Blob}
use Rattle.sqlite_value.specs.declared.value.ValueRef.{ValueRef}
use Rattle.sqlite_value.specs.declared.value.ValueRef.TheVariants as lent
use Rattle.sqlite_value.specs.Order.{Row}
use Rattle.sqlite_trees.specs.Tree.{rowid, put_row}
use Rattle.sqlite_schema.specs.declared.schema.Table.{Table}
use Rattle.sqlite_sql.specs.Term.{lit, col}
use Rattle.sqlite_rules.specs.declared.error.Rowids.TheVariants.{Chosen}
use Rattle.sqlite_rules.specs.Edit.{with_rowid}
use Rattle.sqlite.specs.State.{State}
use Rattle.reg_core.specs.Changes.{with_subscriber, with_order, with_certificate, with_request, with_revocation, with_crl}
use Rattle.reg_core.specs.Records.{Crl}
use Rattle.reg_core.specs.Serial.{IsSerial, serial_bytes}
use Rattle.reg_core.specs.Sound.{NumberedFrom}
use Rattle.reg_core.specs.declared.rows.SubscriberRow.{SubscriberRow}
use Rattle.reg_core.specs.declared.rows.OrderRow.{OrderRow}
use Rattle.reg_core.specs.declared.rows.CertRow.{CertRow}
use Rattle.reg_core.specs.declared.rows.RequestRow.{RequestRow}
use Rattle.reg_core.specs.declared.rows.RevocationRow.{RevocationRow}
use Rattle.reg_core_laws.proofs.PublicLaws.{all_push, numbered_push}
use Rattle.reg_store_tables.specs.Schema.{register_schema, subscriber, orders, cert, request, revocation, crl, standing, listed}
use Rattle.reg_store_tables.specs.Rows.{number, serial_value, ground_index, counted_rows, stored_subscriber, stored_order, stored_certificate, stored_request, stored_revocation, stored_crl}
use Rattle.reg_store_tables.specs.DerivedRows.{good, Standing, Listed, stored_standing, stored_listed}
use Rattle.reg_store_tables.specs.Shows.{HaveSerials}
use Rattle.reg_store_tables.specs.Stays.{Ran}
use Rattle.reg_store_tables.specs.Steps.{Turns, TurnsWhere}
use Rattle.reg_store_changes.specs.DerivedEffects.{with_good, with_unlisted}
use Rattle.reg_store_changes.specs.declared.sql.TheConstants.{PUT_SUBSCRIBER, PUT_ORDER, PUT_CERT, PUT_LETTER, PUT_REQUEST, PUT_REVOCATION, PUT_LISTED, PUT_CRL}
use Rattle.reg_store_changes.proofs.Meaning.{text, lends, put_subscriber_means, put_order_means, put_cert_means, put_letter_means, put_request_means, put_revocation_means, put_listed_means, put_crl_means}
use Rattle.reg_store_tables.proofs.PublicLaws.{counted_put, stored_put, mapped_push, Puts, cast_int, cast_null, puts_row, puts_spares, Numbered, Counted, both_after}

module _ (old new : State) (count : ℕ) where
  -- a row whose key is the next number
  numbered_in : {A : Type 0} (stored : A → Row) (key : A → ℕ) → ((x : A) → rowid (stored x) ≡ number (key x)) → (x : A) (xs : List A) (table : Table) (row : Row) → Puts register_schema table row old.now.trees new.now → row ≡ stored x
      → with_rowid Chosen (old.now.trees table.tree) (stored x) ≡ stored x → old.now.trees table.tree ≡ map stored xs → NumberedFrom key 1 xs → key x ≡ length xs + 1 → Numbered stored key (new.now.trees table.tree) (xs ++ x ∷ [])
  numbered_in stored key first x xs table row puts made given was numbered next = (
    puts.rows ∙ ap (λ r. put_row (with_rowid Chosen (old.now.trees table.tree) r) (old.now.trees table.tree)) made ∙ ap₂ put_row given was ∙ stored_put stored key first x xs numbered next,
    numbered_push key 1 xs x numbered (omega arith),
  )

  -- a row whose rowid is chosen
  counted_in : {A : Type 0} (stored : A → Row) (serial : A → ℕ) (x : A) (xs : List A) (table : Table) (row : Row) → Puts register_schema table row old.now.trees new.now → row ≡ Null ∷ stored x
      → old.now.trees table.tree ≡ counted_rows (map stored xs) → HaveSerials serial xs → IsSerial (serial x) → Counted stored serial (new.now.trees table.tree) (xs ++ x ∷ [])
  counted_in stored serial x xs table row puts made was serials its = (
    puts.rows ∙ ap₂ (λ r rows. put_row (with_rowid Chosen rows r) rows) made was ∙ counted_put (stored x) (map stored xs) ∙ ap counted_rows (mapped_push stored x xs),
    all_push (λ y. IsSerial (serial y)) xs x serials its,
  )

  pub puts_subscriber : (row : SubscriberRow) {id : ValueRef} {name : List ℕ} → Ran PUT_SUBSCRIBER.now (lends id ∷ Text name ∷ []) old new count → id ≡ lent.Int (pos row.id) → name ≡ row.name
      → TurnsWhere (λ records. row.id ≡ length records.subscribers + 1) (λ records. with_subscriber records records.last row) (λ columns. columns) old.now new.now
  unfolding register_schema
  puts_subscriber row given is0 is1 records columns next both =
      let params = number row.id ∷ Text row.name ∷ [] in
      let ran = subst (λ params. Ran PUT_SUBSCRIBER.now params old new count) (λ i. lends (is0 i) ∷ Text (is1 i) ∷ []) given in
      let puts = puts_row PUT_SUBSCRIBER.now params old new count ran both.shown.schema 1 subscriber refl (col 0 0 ∷ lit Null ∷ col 0 1 ∷ []) 3 put_subscriber_means refl refl refl in
      let here = numbered_in stored_subscriber (λ (row : SubscriberRow). row.id) (λ row. refl) row records.subscribers subscriber _ puts (simp (cast_int, cast_null)) refl both.shown.rows.subscribers both.shown.rows.subscribers_numbered next in
      both_after 1 old.now new.now records (with_subscriber records records.last row) columns columns both puts.keeps_schema (puts_spares subscriber _ old.now.trees new.now puts)
      (refl, here, refl, refl, refl, refl, refl, refl) both.shown.rows.policy (refl, refl, refl, refl)

  pub puts_order : (row : OrderRow) {id of days : ValueRef} → Ran PUT_ORDER.now (lends id ∷ lends of ∷ lends days ∷ []) old new count → id ≡ lent.Int (pos row.id) → of ≡ lent.Int (pos row.subscriber) → days ≡ lent.Int (pos row.days)
      → TurnsWhere (λ records. row.id ≡ length records.orders + 1) (λ records. with_order records records.last row) (λ columns. columns) old.now new.now
  unfolding register_schema
  puts_order row given is0 is1 is2 records columns next both =
      let params = number row.id ∷ number row.subscriber ∷ number row.days ∷ [] in
      let ran = subst (λ params. Ran PUT_ORDER.now params old new count) (λ i. lends (is0 i) ∷ lends (is1 i) ∷ lends (is2 i) ∷ []) given in
      let puts = puts_row PUT_ORDER.now params old new count ran both.shown.schema 2 orders refl (col 0 0 ∷ lit Null ∷ col 0 1 ∷ col 0 2 ∷ []) 4 put_order_means refl refl refl in
      let here = numbered_in stored_order (λ (row : OrderRow). row.id) (λ row. refl) row records.orders orders _ puts (simp (cast_int, cast_null)) refl both.shown.rows.orders both.shown.rows.orders_numbered next in
      both_after 3 old.now new.now records (with_order records records.last row) columns columns both puts.keeps_schema (puts_spares orders _ old.now.trees new.now puts)
      (refl, refl, here, refl, refl, refl, refl, refl) both.shown.rows.policy (refl, refl, refl, refl)

  pub puts_request : (row : RequestRow) {id ground received declined : ValueRef} {serial : List ℕ} → Ran PUT_REQUEST.now (lends id ∷ Blob serial ∷ lends ground ∷ lends received ∷ lends declined ∷ []) old new count → id ≡ lent.Int (pos row.id)
      → serial ≡ serial_bytes row.serial → ground ≡ lent.Int (pos (ground_index row.ground)) → received ≡ lent.Int (pos row.received) → declined ≡ lent.Int (pos (cond row.declined 1 0)) → IsSerial row.serial
      → TurnsWhere (λ records. row.id ≡ length records.requests + 1) (λ records. with_request records records.last row) (λ columns. columns) old.now new.now
  unfolding register_schema
  puts_request row given is0 is1 is2 is3 is4 its records columns next both =
      let params = number row.id ∷ serial_value row.serial ∷ number (ground_index row.ground) ∷ number row.received ∷ number (cond row.declined 1 0) ∷ [] in
      let ran = subst (λ params. Ran PUT_REQUEST.now params old new count) (λ i. lends (is0 i) ∷ Blob (is1 i) ∷ lends (is2 i) ∷ lends (is3 i) ∷ lends (is4 i) ∷ []) given in
      let puts = puts_row PUT_REQUEST.now params old new count ran both.shown.schema 4 request refl (col 0 0 ∷ lit Null ∷ col 0 1 ∷ col 0 2 ∷ col 0 3 ∷ col 0 4 ∷ []) 6 put_request_means refl refl refl in
      let here = numbered_in stored_request (λ (row : RequestRow). row.id) (λ row. refl) row records.requests request _ puts (simp (cast_int, cast_null)) refl both.shown.rows.requests both.shown.rows.requests_numbered next in
      both_after 7 old.now new.now records (with_request records records.last row) columns columns both puts.keeps_schema (puts_spares request _ old.now.trees new.now puts)
      (refl, refl, refl, refl, (here.0, here.1, all_push (λ (row : RequestRow). IsSerial row.serial) records.requests row both.shown.rows.request_serials its), refl, refl, refl) both.shown.rows.policy (refl, refl, refl, refl)

  pub puts_crl : (row : Crl) {at moment : ValueRef} {bytes : List ℕ} → Ran PUT_CRL.now (lends at ∷ lends moment ∷ Blob bytes ∷ []) old new count → bytes ≡ row.bytes → at ≡ lent.Int (pos row.number) → moment ≡ lent.Int (pos row.this_update)
      → TurnsWhere (λ records. row.number ≡ length records.crls + 1) (λ records. with_crl records records.last row) (λ columns. columns) old.now new.now
  unfolding register_schema
  puts_crl row given is2 is0 is1 records columns next both =
      let params = number row.number ∷ number row.this_update ∷ Blob row.bytes ∷ [] in
      let ran = subst (λ params. Ran PUT_CRL.now params old new count) (λ i. lends (is0 i) ∷ lends (is1 i) ∷ Blob (is2 i) ∷ []) given in
      let puts = puts_row PUT_CRL.now params old new count ran both.shown.schema 6 crl refl (col 0 0 ∷ lit Null ∷ col 0 1 ∷ col 0 2 ∷ []) 4 put_crl_means refl refl refl in
      let here = numbered_in stored_crl (λ (row : Crl). row.number) (λ row. refl) row records.crls crl _ puts (simp (cast_int, cast_null)) refl both.shown.rows.crls both.shown.rows.crls_numbered next in
      both_after 11 old.now new.now records (with_crl records records.last row) columns columns both puts.keeps_schema (puts_spares crl _ old.now.trees new.now puts)
      (refl, refl, refl, refl, refl, refl, here, refl) both.shown.rows.policy (refl, refl, refl, refl)

  pub puts_certificate : (row : CertRow) {serial : List ℕ} {order from to : ValueRef} → Ran PUT_CERT.now (Blob serial ∷ lends order ∷ lends from ∷ lends to ∷ []) old new count → serial ≡ serial_bytes row.serial → order ≡ lent.Int (pos row.order)
      → from ≡ lent.Int (pos row.not_before) → to ≡ lent.Int (pos row.not_after) → IsSerial row.serial → Turns (λ records. with_certificate records records.last row) (λ columns. columns) old.now new.now
  unfolding register_schema
  puts_certificate row given is0 is1 is2 is3 its records columns both =
      let params = serial_value row.serial ∷ number row.order ∷ number row.not_before ∷ number row.not_after ∷ [] in
      let ran = subst (λ params. Ran PUT_CERT.now params old new count) (λ i. Blob (is0 i) ∷ lends (is1 i) ∷ lends (is2 i) ∷ lends (is3 i) ∷ []) given in
      let puts = puts_row PUT_CERT.now params old new count ran both.shown.schema 3 cert refl (lit Null ∷ col 0 0 ∷ col 0 1 ∷ col 0 2 ∷ col 0 3 ∷ []) 5 put_cert_means refl refl refl in
      let here = counted_in stored_certificate (λ (row : CertRow). row.serial) row records.certificates cert _ puts (simp (cast_int, cast_null)) both.shown.rows.certificates both.shown.rows.certificate_serials its in
      both_after 4 old.now new.now records (with_certificate records records.last row) columns columns both puts.keeps_schema (puts_spares cert _ old.now.trees new.now puts)
      (refl, refl, refl, here, refl, refl, refl, refl) both.shown.rows.policy (refl, refl, refl, refl)

  pub puts_revocation : (row : RevocationRow) {serial : List ℕ} {at reason request first : ValueRef} → Ran PUT_REVOCATION.now (Blob serial ∷ lends at ∷ lends reason ∷ lends request ∷ lends first ∷ []) old new count → serial ≡ serial_bytes row.serial
      → at ≡ lent.Int (pos row.at) → reason ≡ lent.Int (pos row.reason) → request ≡ lent.Int (pos row.request) → first ≡ lent.Int (pos row.first) → IsSerial row.serial
      → Turns (λ records. with_revocation records records.last row) (λ columns. columns) old.now new.now
  unfolding register_schema
  puts_revocation row given is0 is1 is2 is3 is4 its records columns both =
      let params = serial_value row.serial ∷ number row.at ∷ number row.reason ∷ number row.request ∷ number row.first ∷ [] in
      let ran = subst (λ params. Ran PUT_REVOCATION.now params old new count) (λ i. Blob (is0 i) ∷ lends (is1 i) ∷ lends (is2 i) ∷ lends (is3 i) ∷ lends (is4 i) ∷ []) given in
      let puts = puts_row PUT_REVOCATION.now params old new count ran both.shown.schema 5 revocation refl (lit Null ∷ col 0 0 ∷ col 0 1 ∷ col 0 2 ∷ col 0 3 ∷ col 0 4 ∷ []) 6 put_revocation_means refl refl refl in
      let here = counted_in stored_revocation (λ (row : RevocationRow). row.serial) row records.revocations revocation _ puts (simp (cast_int, cast_null)) both.shown.rows.revocations both.shown.rows.revocation_serials its in
      both_after 8 old.now new.now records (with_revocation records records.last row) columns columns both puts.keeps_schema (puts_spares revocation _ old.now.trees new.now puts)
      (refl, refl, refl, refl, refl, here, refl, refl) both.shown.rows.policy (refl, refl, refl, refl)

  pub puts_letter : (serial not_after : ℕ) {bytes : List ℕ} {to : ValueRef} → Ran PUT_LETTER.now (Blob bytes ∷ lends to ∷ []) old new count → bytes ≡ serial_bytes serial → to ≡ lent.Int (pos not_after) → IsSerial serial
      → Turns (λ records. records) (with_good serial not_after) old.now new.now
  unfolding register_schema
  puts_letter serial not_after given is0 is1 its records columns both =
      let params = serial_value serial ∷ number not_after ∷ [] in
      let more : Standing = record { serial = serial; not_after = not_after; letter = good } in
      let ran = subst (λ params. Ran PUT_LETTER.now params old new count) (λ i. Blob (is0 i) ∷ lends (is1 i) ∷ []) given in
      let puts = puts_row PUT_LETTER.now params old new count ran both.shown.schema 7 standing refl (lit Null ∷ col 0 0 ∷ col 0 1 ∷ text (codes "G") ∷ []) 4 put_letter_means refl refl refl in
      let here = counted_in stored_standing (λ (row : Standing). row.serial) more columns.letters standing _ puts (simp (cast_int, cast_null)) both.kept.letters both.kept.letter_serials its in
      both_after 12 old.now new.now records records columns (with_good serial not_after columns) both puts.keeps_schema (puts_spares standing _ old.now.trees new.now puts)
      (refl, refl, refl, refl, refl, refl, refl, refl) both.shown.rows.policy (here, refl, refl, refl)

  pub puts_listed : (row : RevocationRow) (not_after : ℕ) {serial : List ℕ} {at reason first to : ValueRef} → Ran PUT_LISTED.now (Blob serial ∷ lends at ∷ lends reason ∷ lends first ∷ lends to ∷ []) old new count → serial ≡ serial_bytes row.serial
      → at ≡ lent.Int (pos row.at) → reason ≡ lent.Int (pos row.reason) → first ≡ lent.Int (pos row.first) → to ≡ lent.Int (pos not_after) → IsSerial row.serial
      → Turns (λ records. records) (with_unlisted row not_after) old.now new.now
  unfolding register_schema
  puts_listed row not_after given is0 is1 is2 is3 is4 its records columns both =
      let params = serial_value row.serial ∷ number row.at ∷ number row.reason ∷ number row.first ∷ number not_after ∷ [] in
      let more : Listed = record { serial = row.serial; at = row.at; reason = row.reason; first = row.first; not_after = not_after; last = None } in
      let ran = subst (λ params. Ran PUT_LISTED.now params old new count) (λ i. Blob (is0 i) ∷ lends (is1 i) ∷ lends (is2 i) ∷ lends (is3 i) ∷ lends (is4 i) ∷ []) given in
      let puts = puts_row PUT_LISTED.now params old new count ran both.shown.schema 9 listed refl (lit Null ∷ col 0 0 ∷ col 0 1 ∷ col 0 2 ∷ col 0 3 ∷ col 0 4 ∷ lit Null ∷ []) 7 put_listed_means refl refl refl in
      let here = counted_in stored_listed (λ (row : Listed). row.serial) more columns.listed listed _ puts (simp (cast_int, cast_null)) both.kept.listed both.kept.listed_serials its in
      both_after 15 old.now new.now records records columns (with_unlisted row not_after columns) both puts.keeps_schema (puts_spares listed _ old.now.trees new.now puts)
      (refl, refl, refl, refl, refl, refl, refl, refl) both.shown.rows.policy (refl, refl, here, refl)
