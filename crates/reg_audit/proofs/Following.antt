-- What follows from sound records, and the rows that are made of what was read.
use Rattle.std.proofs.Common.{◌≡◌, ◌≢◌, ℕ, ◌==◌, ◌&&◌, Bool, true, false, cond, List, [], ◌∷◌, length, map, filter, find, Option, Some, None, option_map, unwrap_or, IsSomeAnd, refl, sym, ap, subst, ◌∙◌, inl, inr}
use Rattle.std.specs.Prelude.{nat_le, nat_lt}
use Rattle.std.specs.List.{AllByRecursion}
use Rattle.std.specs.List.Sorted.{IsPermutation}
use Rattle.std.proofs.lemmas.Bool.{cases_Bool}
use Rattle.std.proofs.lemmas.List.Sorted.{IsPermutation-map}
use Rattle.sqlite_trees.proofs.ListLemmas.{filter-map, map-map}
use Rattle.reg_core.specs.Crls.{row_of, last_listing, ends_listing}
use Rattle.reg_core.specs.Records.{Records, Crl, certificate_in, revocation_in}
use Rattle.reg_core.specs.Sound.{KeysDiffer, SoundRows, SoundRevocation}
use Rattle.reg_core.specs.Status.{status_by, counts, is_good, is_revoked, is_expired}
use Rattle.reg_core.specs.declared.command.Status.{Status}
use Rattle.reg_core.specs.declared.command.Status.TheVariants as state
use Rattle.reg_core.specs.declared.rows.CertRow.{CertRow}
use Rattle.reg_core.specs.declared.rows.CrlRow.{CrlRow}
use Rattle.reg_core.specs.declared.rows.RevocationRow.{RevocationRow}
use Rattle.reg_core_laws.proofs.PublicLaws.{all_map, all_weaker, each_found, some_and_of, same_length, past_end_is}
use Rattle.reg_store_tables.specs.DerivedRows as column
use Rattle.reg_store_tables.specs.Kept.{letter_of, standing_of, not_after_of, listed_of}
use Rattle.reg_store_tables.proofs.PublicLaws.{mapped}
use Rattle.reg_store_migration.specs.Refilled.{last_in}
use Rattle.reg_audit.specs.DerivedAsRead.{letter_in, standing_in, listed_in, letter_by, standing_by, found_not_after, listed_with, same_letter, found_counts}
use Rattle.reg_audit.specs.Read.{AreOf}
use Rattle.reg_audit.specs.declared.derived_rows.Letter.{Letter}
use Rattle.reg_audit.specs.declared.derived_rows.Letter.TheVariants.{Good, Revoked, Expired}
use Rattle.reg_audit.specs.declared.derived_rows.Listed.{Listed}
use Rattle.reg_audit.specs.declared.derived_rows.Standing.{Standing}
use Rattle.reg_audit.specs.declared.rows.Rows.{Rows}

map_same : {A B : Type 0} (f g : A → B) (xs : List A) → AllByRecursion (λ x. f x ≡ g x) xs → map f xs ≡ map g xs
map_same f g [] all = refl
map_same f g (x ∷ xs) all = λ i. all.0 i ∷ map_same f g xs all.1 i

-- keys differ in what is made of rows whose keys differ
pub keys_made : {A B : Type 0} (key : B → ℕ) (f : A → B) (xs : List A) → KeysDiffer (λ x. key (f x)) xs → KeysDiffer key (map f xs)
keys_made key f [] differ = tt
keys_made key f (x ∷ xs) differ = (all_map (λ other. key (f x) ≢ key other) f xs differ.0, keys_made key f xs differ.1)

-- ---- rows as they were read, and back

abbrev pub letter_out : column.Letter → Letter
letter_out column.good = Good
letter_out column.revoked = Revoked
letter_out column.expired = Expired

letter_back : (letter : Letter) → letter_out (letter_in letter) ≡ letter
letter_back Good = refl
letter_back Revoked = refl
letter_back Expired = refl

abbrev pub standing_out : column.Standing → Standing
standing_out row = record { serial = row.serial; not_after = row.not_after; letter = letter_out row.letter }

standing_back : (row : Standing) → standing_out (standing_in row) ≡ row
standing_back row = λ i. record { serial = row.serial; not_after = row.not_after; letter = letter_back row.letter i }

abbrev pub listed_out : column.Listed → Listed
listed_out row = record { serial = row.serial; at = row.at; reason = row.reason; first = row.first; not_after = row.not_after; last = row.last }

all_back : {A B : Type 0} (f : A → B) (g : B → A) → ((x : A) → g (f x) ≡ x) → (xs : List A) → map g (map f xs) ≡ xs
all_back f g back [] = refl
all_back f g back (x ∷ xs) = λ i. back x i ∷ all_back f g back xs i

-- lists that are the same but for their order are so where they are read
unread : {A B : Type 0} (f : A → B) (g : B → A) → ((x : A) → g (f x) ≡ x) → (xs ys : List A) → IsPermutation (map f xs) (map f ys) → IsPermutation xs ys
unread f g back xs ys same = subst (λ l. IsPermutation l ys) (all_back f g back xs) (subst (IsPermutation (map g (map f xs))) (all_back f g back ys) (IsPermutation-map g (map f xs) (map f ys) same))

-- ---- a letter and its status

letters_are : (status : Status) → letter_in (letter_by status) ≡ letter_of status
letters_are state.Unknown = refl
letters_are state.Good = refl
letters_are state.Expired = refl
letters_are (state.Revoked at reason) = refl

record Tests (status : Status) : Type 0 where
  good : same_letter (letter_by status) Good ≡ is_good status
  revoked : same_letter (letter_by status) Revoked ≡ is_revoked status
  expired : same_letter (letter_by status) Expired ≡ is_expired status

tests_status : (last : ℕ) (certificate : CertRow) (revocation : Option RevocationRow) → Tests (status_by last (Some certificate) revocation)
tests_status last certificate (Some revocation) = record { good = refl; revoked = refl; expired = refl }
tests_status last certificate None = elim (cases_Bool (nat_lt certificate.not_after last)) [
  | inl gone ↦ rw gone (record { good = refl; revoked = refl; expired = refl })
  | inr here ↦ rw here (record { good = refl; revoked = refl; expired = refl })
]

-- ---- the last listing of a revocation whose certificate is known

module _ (certificates : List CertRow) (row : RevocationRow) (certificate : CertRow) (known : certificate_in certificates row.serial ≡ Some certificate) where
  past_same : (crl : Crl) → ends_listing certificates row crl ≡ (nat_le row.first crl.number && nat_lt certificate.not_after crl.this_update)
  past_same crl = ap (λ b. nat_le row.first crl.number && b) (past_end_is certificates row.serial crl.this_update certificate known)

  found_rows : (crls : List Crl) → last_in (map row_of crls) row.first certificate.not_after ≡ option_map (λ (crl : Crl). crl.number) (find (ends_listing certificates row) crls)
  found_rows [] = refl
  found_rows (crl ∷ crls) = go (ends_listing certificates row crl) (sym (past_same crl)) (found_rows crls)
    where
      go : (b : Bool) → (nat_le row.first crl.number && nat_lt certificate.not_after crl.this_update) ≡ b
          → last_in (map row_of crls) row.first certificate.not_after ≡ option_map (λ (crl : Crl). crl.number) (find (ends_listing certificates row) crls)
          → last_in (map row_of (crl ∷ crls)) row.first certificate.not_after
          ≡ option_map (λ (crl : Crl). crl.number) (cond b (Some crl) (find (ends_listing certificates row) crls))
      go true is rest = ap (λ c. option_map (λ (crl : CrlRow). crl.number) (cond c (Some (row_of crl)) (find (λ (crl : CrlRow). nat_le row.first crl.number && nat_lt certificate.not_after crl.this_update) (map row_of crls)))) is
      go false is rest =
          ap (λ c. option_map (λ (crl : CrlRow). crl.number) (cond c (Some (row_of crl)) (find (λ (crl : CrlRow). nat_le row.first crl.number && nat_lt certificate.not_after crl.this_update) (map row_of crls)))) is ∙ rest

-- ---- what was read, and the records

module _ (rows : Rows) (records : Records) (are : AreOf rows records) (sound : SoundRows records) where
  module _ (revocations : ℕ → Option RevocationRow) (found : (key : ℕ) → revocations key ≡ find (λ (row : RevocationRow). row.serial == key) rows.revocations.now) where
    abbrev made : CertRow → Standing
    made = standing_by rows.last revocations

    abbrev pub wanted_letters : List Standing
    wanted_letters = map made rows.certificates.now

    abbrev is_known : CertRow → Type 0
    is_known row = certificate_in records.certificates row.serial ≡ Some row

    each_known : AllByRecursion is_known records.certificates
    each_known = each_found (λ (row : CertRow). row.serial) records.certificates sound.certificates.serials_differ

    status_is : (row : CertRow) → is_known row → status_by rows.last (Some row) (revocations row.serial) ≡ status_by records.last (certificate_in records.certificates row.serial) (revocation_in records.revocations row.serial)
    status_is row known = λ i. status_by (are.last i) (sym known i) ((found row.serial ∙ ap (λ l. revocation_in l row.serial) are.revocations) i)

    letters_made : map standing_in wanted_letters ≡ map (standing_of records) records.certificates
    letters_made =
        map-map standing_in made rows.certificates.now
        ∙ ap (map (λ row. standing_in (made row))) are.certificates
        ∙ map_same (λ row. standing_in (made row)) (standing_of records) records.certificates
        (all_weaker is_known (λ row. standing_in (made row) ≡ standing_of records row)
        (λ row known. let letter = letters_are (status_by rows.last (Some row) (revocations row.serial)) ∙ ap letter_of (status_is row known) in λ i. record { serial = row.serial; not_after = row.not_after; letter = letter i }) records.certificates each_known)

    pub letters_differ : KeysDiffer (λ (row : Standing). row.serial) wanted_letters
    letters_differ = keys_made (λ (row : Standing). row.serial) made rows.certificates.now (rw are.certificates sound.certificates.serials_differ)

    count_is : (letter : Letter) (test : Status → Bool) → ((status : Status) → Tests status → same_letter (letter_by status) letter ≡ test status)
        → length (filter (λ (row : Standing). same_letter row.letter letter) wanted_letters) ≡ length (filter (λ (row : CertRow). test (status_by records.last (certificate_in records.certificates row.serial) (revocation_in records.revocations row.serial))) records.certificates)
    count_is letter test tests =
        ap length (filter-map (λ (row : Standing). same_letter row.letter letter) made rows.certificates.now)
        ∙ mapped made (filter (λ (row : CertRow). same_letter (made row).letter letter) rows.certificates.now)
        ∙ ap (λ l. length (filter (λ (row : CertRow). same_letter (made row).letter letter) l)) are.certificates
        ∙ same_length (λ (row : CertRow). same_letter (made row).letter letter) (λ (row : CertRow). test (status_by records.last (certificate_in records.certificates row.serial) (revocation_in records.revocations row.serial))) records.certificates
        (all_weaker is_known (λ row. same_letter (made row).letter letter ≡ test (status_by records.last (certificate_in records.certificates row.serial) (revocation_in records.revocations row.serial)))
        (λ row known. tests (status_by rows.last (Some row) (revocations row.serial)) (tests_status rows.last row (revocations row.serial)) ∙ ap test (status_is row known)) records.certificates each_known)

    pub counts_made : found_counts wanted_letters ≡ counts records records.last
    counts_made = λ i. record {
      good = count_is Good is_good (λ status t. t.good) i;
      revoked = count_is Revoked is_revoked (λ status t. t.revoked) i;
      expired = count_is Expired is_expired (λ status t. t.expired) i;
    }

    pub letters_follow : (held : List Standing) (letters : List column.Standing) → map standing_in held ≡ letters → IsPermutation wanted_letters held → IsPermutation (map (standing_of records) records.certificates) letters
    letters_follow held letters is same = subst (λ l. IsPermutation l letters) letters_made (subst (IsPermutation (map standing_in wanted_letters)) is (IsPermutation-map standing_in wanted_letters held same))

    pub letters_back : (held : List Standing) (letters : List column.Standing) → map standing_in held ≡ letters → IsPermutation (map (standing_of records) records.certificates) letters → IsPermutation wanted_letters held
    letters_back held letters is same = unread standing_in standing_out standing_back wanted_letters held (subst (λ l. IsPermutation l (map standing_in held)) (sym letters_made) (subst (IsPermutation (map (standing_of records) records.certificates)) (sym is) same))

  module _ (certificates : ℕ → Option CertRow) (found : (key : ℕ) → certificates key ≡ find (λ (row : CertRow). row.serial == key) rows.certificates.now) where
    abbrev listed_made : RevocationRow → Listed
    listed_made = listed_with rows.crls.now certificates

    abbrev pub wanted_listed : List Listed
    wanted_listed = map listed_made rows.revocations.now

    one_listed : (row : RevocationRow) → SoundRevocation records.last records.certificates records.requests records.crls row → listed_in (listed_made row) ≡ listed_of records row
    one_listed row fits =
        let known = some_and_of (λ (certificate : CertRow). Rattle.std.proofs.Common.◌≤◌ row.at certificate.not_after) (certificate_in records.certificates row.serial) fits.within_validity in
        let certificate = known.0 in
        let at : certificates row.serial ≡ Some certificate = found row.serial ∙ ap (λ l. certificate_in l row.serial) are.certificates ∙ known.1 in
        let ends : found_not_after (certificates row.serial) ≡ certificate.not_after = ap found_not_after at in
        let ends_so : not_after_of records row.serial ≡ certificate.not_after = ap (λ o. unwrap_or (option_map (λ (c : CertRow). c.not_after) o) 0) known.1 in
        let last : last_in rows.crls.now row.first (found_not_after (certificates row.serial)) ≡ last_listing records row = (λ i. last_in (are.crls i) row.first (ends i)) ∙ found_rows records.certificates row certificate known.1 records.crls in
        λ i. record { serial = row.serial; at = row.at; reason = row.reason; first = row.first; not_after = (ends ∙ sym ends_so) i; last = last i }

    all_listed : map listed_in wanted_listed ≡ map (listed_of records) records.revocations
    all_listed =
        map-map listed_in listed_made rows.revocations.now
        ∙ ap (map (λ row. listed_in (listed_made row))) are.revocations
        ∙ map_same (λ row. listed_in (listed_made row)) (listed_of records) records.revocations
        (all_weaker (SoundRevocation records.last records.certificates records.requests records.crls) (λ row. listed_in (listed_made row) ≡ listed_of records row) one_listed records.revocations sound.revocations.each)

    pub listed_differ : KeysDiffer (λ (row : Listed). row.serial) wanted_listed
    listed_differ = keys_made (λ (row : Listed). row.serial) listed_made rows.revocations.now (rw are.revocations sound.revocations.serials_differ)

    pub listed_follow : (held : List Listed) (listed : List column.Listed) → map listed_in held ≡ listed → IsPermutation wanted_listed held → IsPermutation (map (listed_of records) records.revocations) listed
    listed_follow held listed is same = subst (λ l. IsPermutation l listed) all_listed (subst (IsPermutation (map listed_in wanted_listed)) is (IsPermutation-map listed_in wanted_listed held same))

    pub listed_back : (held : List Listed) (listed : List column.Listed) → map listed_in held ≡ listed → IsPermutation (map (listed_of records) records.revocations) listed → IsPermutation wanted_listed held
    listed_back held listed is same = unread listed_in listed_out (λ row. refl) wanted_listed held (subst (λ l. IsPermutation l (map listed_in held)) (sym all_listed) (subst (IsPermutation (map (listed_of records) records.revocations)) (sym is) same))
