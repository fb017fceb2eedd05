-- Over tables that show records the rowids that are read count their rows.
use Rattle.std.proofs.Common.{◌≡◌, ◌+◌, ℕ, List, [], ◌∷◌, map, refl, sym, subst, ◌∙◌}
use Rattle.sqlite_value.specs.Order.{Row, column}
use Rattle.sqlite_trees.proofs.ListLemmas.{map-map}
use Rattle.sqlite_sql.specs.Program.{overlay}
use Rattle.sqlite.specs.Effect.{Database, Reads}
use Rattle.sqlite.specs.Listing.{understood}
use Rattle.reg_core.specs.Crls.{row_of}
use Rattle.reg_core.specs.Records.{Records, Crl}
use Rattle.reg_core.specs.Sound.{NumberedFrom}
use Rattle.reg_core.specs.declared.rows.OrderRow.{OrderRow}
use Rattle.reg_core.specs.declared.rows.RequestRow.{RequestRow}
use Rattle.reg_core.specs.declared.rows.SubscriberRow.{SubscriberRow}
use Rattle.reg_store_tables.specs.DerivedRows.{DerivedRows, stored_standing, stored_listed}
use Rattle.reg_store_tables.specs.ReadStatements.{command_of, shown_subscriber, shown_order, shown_request, shown_crl}
use Rattle.reg_store_tables.specs.Rows.{number, counted_rows, stored_certificate, stored_revocation}
use Rattle.reg_store_tables.specs.Schema.{register_schema}
use Rattle.reg_store_tables.proofs.PublicLaws.{selects, as_command, no_limit, with_rowids, behind, rowids_are, rowids_numbered}
use Rattle.reg_audit.specs.Cells.{CountedFrom}
use Rattle.reg_audit.specs.ReadQueries.{IsReadOf}
use Rattle.reg_audit.specs.declared.sql.AuditQuery.TheVariants.{Subscribers, Orders, Requests, Crls, CertificateRowids, RevocationRowids, StandingRowids, ListingRowids}
use Rattle.reg_audit.specs.declared.sql.TheConstants.{CERTIFICATE_ROWIDS, REVOCATION_ROWIDS, STANDING_ROWIDS, LISTING_ROWIDS}
use Rattle.reg_audit.proofs.Showing.{keyed_are, subscribers_are, orders_are, requests_are, crls_are}
use Rattle.reg_audit.proofs.TableRows.{rowid_alone, rowid_name, certificate_rowids_mean, revocation_rowids_mean, standing_rowids_mean, listing_rowids_mean}
use Rattle.reg_audit.proofs.TreeOrder.{by_rowid}

shown_counted : {A : Type 0} (view : A → Row) (key : A → ℕ) → ((x : A) → column (view x) 0 ≡ number (key x)) → (from : ℕ) (xs : List A) → NumberedFrom key from xs → CountedFrom from (map view xs)
shown_counted view key first from [] numbered = tt
shown_counted view key first from (x ∷ xs) numbered = (first x ∙ Rattle.std.proofs.Common.ap number numbered.0, shown_counted view key first (from + 1) xs numbered.1)

pub subscribers_counted : (records : Records) (columns : DerivedRows) (rows : List Row) → IsReadOf records columns Subscribers rows → CountedFrom 1 rows
subscribers_counted records columns rows is =
    subst (CountedFrom 1) (sym (subscribers_are records columns rows is)) (shown_counted shown_subscriber (λ (row : SubscriberRow). row.id) (λ row. refl) 1 records.subscribers is.both.shown.rows.subscribers_numbered)

pub orders_counted : (records : Records) (columns : DerivedRows) (rows : List Row) → IsReadOf records columns Orders rows → CountedFrom 1 rows
orders_counted records columns rows is =
    subst (CountedFrom 1) (sym (orders_are records columns rows is)) (shown_counted shown_order (λ (row : OrderRow). row.id) (λ row. refl) 1 records.orders is.both.shown.rows.orders_numbered)

pub requests_counted : (records : Records) (columns : DerivedRows) (rows : List Row) → IsReadOf records columns Requests rows → CountedFrom 1 rows
requests_counted records columns rows is =
    subst (CountedFrom 1) (sym (requests_are records columns rows is)) (shown_counted shown_request (λ (row : RequestRow). row.id) (λ row. refl) 1 records.requests is.both.shown.rows.requests_numbered)

pub crls_counted : (records : Records) (columns : DerivedRows) (rows : List Row) → IsReadOf records columns Crls rows → CountedFrom 1 rows
crls_counted records columns rows is =
    subst (CountedFrom 1) (sym (crls_are records columns rows is ∙ map-map shown_crl row_of records.crls))
    (shown_counted (λ (crl : Crl). shown_crl (row_of crl)) (λ (crl : Crl). crl.number) (λ crl. refl) 1 records.crls is.both.shown.rows.crls_numbered)

module _ {A : Type 0} (stored : A → Row) (xs : List A) (tree : ℕ) (text : List ℕ) (means : command_of (understood register_schema text) ≡ as_command (selects tree [] rowid_alone by_rowid no_limit) rowid_name) (db : Database)
    (plain : overlay db.trees [] tree ≡ db.trees tree) (rows : List Row) (reads : Reads (command_of (understood register_schema text)) db [] rows) where
  rowids_counted : db.trees tree ≡ counted_rows (map stored xs) → CountedFrom 1 rows
  rowids_counted table =
      let are : rows ≡ map (λ (row : ℕ × A). number row.0 ∷ []) (with_rowids 1 xs) =
      keyed_are (λ (row : ℕ × A). row.0) (behind stored) (λ (row : ℕ × A). number row.0 ∷ []) (with_rowids 1 xs) (rowids_numbered 1 xs) tree rowid_alone text rowid_name means db plain rows reads
      (table ∙ rowids_are stored 1 xs) (λ row. refl) in
      subst (CountedFrom 1) (sym are) (shown_counted (λ (row : ℕ × A). number row.0 ∷ []) (λ (row : ℕ × A). row.0) (λ row. refl) 1 (with_rowids 1 xs) (rowids_numbered 1 xs))

pub certificates_counted : (records : Records) (columns : DerivedRows) (rows : List Row) → IsReadOf records columns CertificateRowids rows → CountedFrom 1 rows
certificates_counted records columns rows is = rowids_counted stored_certificate records.certificates 4 CERTIFICATE_ROWIDS.now certificate_rowids_mean is.db refl rows is.reads is.both.shown.rows.certificates

pub revocations_counted : (records : Records) (columns : DerivedRows) (rows : List Row) → IsReadOf records columns RevocationRowids rows → CountedFrom 1 rows
revocations_counted records columns rows is = rowids_counted stored_revocation records.revocations 8 REVOCATION_ROWIDS.now revocation_rowids_mean is.db refl rows is.reads is.both.shown.rows.revocations

pub letters_counted : (records : Records) (columns : DerivedRows) (rows : List Row) → IsReadOf records columns StandingRowids rows → CountedFrom 1 rows
letters_counted records columns rows is = rowids_counted stored_standing columns.letters 12 STANDING_ROWIDS.now standing_rowids_mean is.db refl rows is.reads is.both.kept.letters

pub listings_counted : (records : Records) (columns : DerivedRows) (rows : List Row) → IsReadOf records columns ListingRowids rows → CountedFrom 1 rows
listings_counted records columns rows is = rowids_counted stored_listed columns.listed 15 LISTING_ROWIDS.now listing_rowids_mean is.db refl rows is.reads is.both.kept.listed
