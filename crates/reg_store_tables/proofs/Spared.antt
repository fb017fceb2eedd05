-- What a statement that writes one table leaves of what the tables show.
use Rattle.std.proofs.Common.{◌≡◌, ℕ, ℤ, Bool, true, false, ◌==◌, List, [], ◌∷◌, map, refl, ap, subst, ◌∙◌}
use Rattle.std.specs.Prelude.{MatchBool}
use Rattle.sqlite_value.specs.declared.value.Value.TheVariants.{Int}
use Rattle.sqlite_value.specs.Order.{Row}
use Rattle.sqlite_trees.specs.Tree.{Trees}
use Rattle.sqlite.specs.Effect.{Database}
use Rattle.reg_core.specs.Policy.{IsPolicy}
use Rattle.reg_core.specs.Records.{Records, Crl}
use Rattle.reg_core.specs.Sound.{NumberedFrom}
use Rattle.reg_core.specs.declared.rows.SubscriberRow.{SubscriberRow}
use Rattle.reg_core.specs.declared.rows.OrderRow.{OrderRow}
use Rattle.reg_core.specs.declared.rows.CertRow.{CertRow}
use Rattle.reg_core.specs.declared.rows.RequestRow.{RequestRow}
use Rattle.reg_core.specs.declared.rows.RevocationRow.{RevocationRow}
use Rattle.reg_store_tables.specs.DerivedRows.{DerivedRows, office_days, Standing, Listed, stored_standing, stored_counts, stored_listed}
use Rattle.reg_store_tables.specs.Rows.{counted_rows, stored_office, stored_subscriber, stored_order, stored_certificate, stored_request, stored_revocation, stored_crl, stored_step}
use Rattle.reg_store_tables.specs.Schema.{register_schema}
use Rattle.reg_store_tables.specs.Shows.{AreRows, AreDerivedRows, AreRecordsAndDerived, HaveSerials}
use Rattle.reg_store_tables.proofs.Registers.{Spares}

-- rows with a key that counts, and rows with a serial number
abbrev pub Numbered : {A : Type 0} → (A → Row) → (A → ℕ) → List Row → List A → Type 0
Numbered stored key rows xs = (rows ≡ map stored xs) × NumberedFrom key 1 xs

abbrev pub Counted : {A : Type 0} → (A → Row) → (A → ℕ) → List Row → List A → Type 0
Counted stored serial rows xs = (rows ≡ counted_rows (map stored xs)) × HaveSerials serial xs

-- of what a table shows: the table was written, and shows this now, or it shows what it showed
abbrev pub Part : {A : Type 0} → ℕ → ℕ → (A → Type 0) → A → A → Type 0
Part n tree P was is = MatchBool (n == tree) (P is) (was ≡ is)

-- the table of each part of the records
abbrev pub HasOffice : Trees → (ℤ → Row) → Type 0
HasOffice trees row = (days : ℤ) × (trees 0 ≡ row days ∷ [])

abbrev pub HasRequests : Trees → List RequestRow → Type 0
HasRequests trees xs = (trees 7 ≡ map stored_request xs) × NumberedFrom (λ (row : RequestRow). row.id) 1 xs × HaveSerials (λ (row : RequestRow). row.serial) xs

abbrev pub RowParts : ℕ → Trees → Records → Records → Type 0
RowParts tree after was is =
    Part 0 tree (HasOffice after) (λ days. stored_office days was.issuer was.policy was.last) (λ days. stored_office days is.issuer is.policy is.last)
    × Part 1 tree (Numbered stored_subscriber (λ (row : SubscriberRow). row.id) (after 1)) was.subscribers is.subscribers
    × Part 3 tree (Numbered stored_order (λ (row : OrderRow). row.id) (after 3)) was.orders is.orders
    × Part 4 tree (Counted stored_certificate (λ (row : CertRow). row.serial) (after 4)) was.certificates is.certificates
    × Part 7 tree (HasRequests after) was.requests is.requests
    × Part 8 tree (Counted stored_revocation (λ (row : RevocationRow). row.serial) (after 8)) was.revocations is.revocations
    × Part 11 tree (Numbered stored_crl (λ (crl : Crl). crl.number) (after 11)) was.crls is.crls
    × Part 17 tree (λ steps. after 17 ≡ map stored_step steps) was.policy.schedule is.policy.schedule

abbrev pub ColumnParts : ℕ → Trees → DerivedRows → DerivedRows → Type 0
ColumnParts tree after was is =
    Part 12 tree (Counted stored_standing (λ (row : Standing). row.serial) (after 12)) was.letters is.letters
    × Part 14 tree (λ counts. after 14 ≡ stored_counts counts ∷ []) was.counts is.counts
    × Part 15 tree (Counted stored_listed (λ (row : Listed). row.serial) (after 15)) was.listed is.listed
    × Part 0 tree (λ days. office_days (after 0) ≡ Int days) was.days is.days

module _ (tree : ℕ) (db after : Trees) (spares : Spares tree db after) where
  part : {A : Type 0} (n : ℕ) (P : A → Type 0) (was is : A) → ((n == tree) ≡ false → P was) → Part n tree P was is → P is
  part {A} n P was is kept written = go (n == tree) kept written
    where
      go : (b : Bool) → (b ≡ false → P was) → MatchBool b (P is) (was ≡ is) → P is
      go true kept written = written
      go false kept written = subst P written (kept refl)

  pub rows_after : (was is : Records) → AreRows db was → RowParts tree after was is → IsPolicy is.policy → AreRows after is
  rows_after was is rows written policy =
      let office = part 0 (HasOffice after) _ _ (λ e. (rows.days, spares.same 0 refl e ∙ rows.office)) written.0 in
      let subscribers = part 1 (Numbered stored_subscriber (λ (row : SubscriberRow). row.id) (after 1)) _ _
      (λ e. (spares.same 1 refl e ∙ rows.subscribers, rows.subscribers_numbered)) written.1 in
      let orders = part 3 (Numbered stored_order (λ (row : OrderRow). row.id) (after 3)) _ _
      (λ e. (spares.same 3 refl e ∙ rows.orders, rows.orders_numbered)) written.2 in
      let certificates = part 4 (Counted stored_certificate (λ (row : CertRow). row.serial) (after 4)) _ _
      (λ e. (spares.same 4 refl e ∙ rows.certificates, rows.certificate_serials)) written.3 in
      let requests = part 7 (HasRequests after) _ _ (λ e. (spares.same 7 refl e ∙ rows.requests, rows.requests_numbered, rows.request_serials)) written.4 in
      let revocations = part 8 (Counted stored_revocation (λ (row : RevocationRow). row.serial) (after 8)) _ _
      (λ e. (spares.same 8 refl e ∙ rows.revocations, rows.revocation_serials)) written.5 in
      let crls = part 11 (Numbered stored_crl (λ (crl : Crl). crl.number) (after 11)) _ _
      (λ e. (spares.same 11 refl e ∙ rows.crls, rows.crls_numbered)) written.6 in
      let schedule = part 17 (λ steps. after 17 ≡ map stored_step steps) _ _ (λ e. spares.same 17 refl e ∙ rows.schedule) written.7 in
      record {
        days = office.0;
        office = office.1;
        schedule = schedule;
        policy = policy;
        subscribers = subscribers.0;
        subscribers_numbered = subscribers.1;
        orders = orders.0;
        orders_numbered = orders.1;
        crls = crls.0;
        crls_numbered = crls.1;
        certificates = certificates.0;
        certificate_serials = certificates.1;
        revocations = revocations.0;
        revocation_serials = revocations.1;
        requests = requests.0;
        requests_numbered = requests.1;
        request_serials = requests.2;
      }

  pub derived_after : (was is : DerivedRows) → AreDerivedRows db was → ColumnParts tree after was is → AreDerivedRows after is
  derived_after was is kept written =
      let letters = part 12 (Counted stored_standing (λ (row : Standing). row.serial) (after 12)) _ _
      (λ e. (spares.same 12 refl e ∙ kept.letters, kept.letter_serials)) written.0 in
      let listed = part 15 (Counted stored_listed (λ (row : Listed). row.serial) (after 15)) _ _
      (λ e. (spares.same 15 refl e ∙ kept.listed, kept.listed_serials)) written.2 in
      record {
        letters = letters.0;
        letter_serials = letters.1;
        listed = listed.0;
        listed_serials = listed.1;
        counts = part 14 (λ counts. after 14 ≡ stored_counts counts ∷ []) _ _ (λ e. spares.same 14 refl e ∙ kept.counts) written.1;
        days = part 0 (λ days. office_days (after 0) ≡ Int days) _ _ (λ e. ap office_days (spares.same 0 refl e) ∙ kept.days) written.3;
      }

-- where one table was written, the tables show what was told of it
pub both_after : (tree : ℕ) (old new : Database) (was is : Records) (columns those : DerivedRows) → AreRecordsAndDerived old was columns → new.schema ≡ register_schema → Spares tree old.trees new.trees
    → RowParts tree new.trees was is → IsPolicy is.policy → ColumnParts tree new.trees columns those → AreRecordsAndDerived new is those
both_after tree old new was is columns those both schema spares rows policy kept = record {
  shown = record { schema = schema; rows = rows_after tree old.trees new.trees spares was is both.shown.rows rows policy };
  kept = derived_after tree old.trees new.trees spares columns those both.kept kept;
}
