-- The entries of a CRL and its signature, by what is kept of each revocation, and by the records.
use Rattle.std.proofs.Common.{◌≡◌, ◌≤◌, ◌<◌, ◌+◌, ◌&&◌, ℕ, Bool, false, not, List, [], ◌∷◌, map, find, filter, option_map, refl, sym, ap, subst, ◌∙◌, arith, inl, inr, length, ◌^◌, ◌++◌, Some, append-nil, append_assoc, length-append}
use Rattle.std.specs.Prelude.{nat_le, nat_lt}
use Rattle.std.specs.List.{list_any}
use Rattle.std.specs.List.Sorted.{IsPermutation, IsNonDecreasingBy}
use Rattle.std.proofs.lemmas.Bool.{cases_Bool, le-ltb, ltb-true, ltb-false}
use Rattle.std.proofs.lemmas.List.Sorted.{IsPermutation-map, IsPermutation-trans, IsPermutation-sym, length_permutation}
use Rattle.sqlite_trees.proofs.ListLemmas.{filter-map, map-map, IsPermutation-filter}
use Rattle.reg_core.specs.Crls.{EntriesAscend, entries, entry_of, listed_revocations, is_listed_on, ends_listing, CertList}
use Rattle.reg_core.specs.Records.{Records, Crl}
use Rattle.reg_core.specs.Sound.{NumberedFrom, KeysDiffer}
use Rattle.reg_core.specs.declared.rows.Entry.{Entry}
use Rattle.reg_core.specs.declared.rows.RevocationRow.{RevocationRow}
use Rattle.reg_store_tables.specs.DerivedRows as column
use Rattle.reg_store_tables.specs.Kept.{listed_of}
use Rattle.reg_store_tables.proofs.PublicLaws.{serial_of, ascending_same, ascending_sorted, Rises, sorted_same, and_true, and_false, not_le, is_le}
use Rattle.reg_audit.specs.DerivedAsRead.{listed_in}
use Rattle.reg_audit.specs.Crls.{still_on, lists_row, listed_entry, IsCrlOf, signature_at}
use Rattle.reg_audit.specs.declared.derived_rows.Listed.{Listed}
use Rattle.std.proofs.lemmas.List.{length-map}
use Rattle.reg_core_laws.proofs.PublicLaws.{keys_kept}
use Rattle.reg_audit.proofs.Following.{keys_made}
use Rattle.reg_audit.proofs.Sorted.{in_strict_order}
use Rattle.reg_crl.specs.Crl.{tbs_of, tbs_cert_list, certificate_list}
use Rattle.reg_crl.specs.Signing.{IsAlgorithm}
use Rattle.reg_der.specs.Der.{tlv}
use Rattle.reg_der.specs.ValueReading.{value_at}
use Rattle.reg_der.specs.WrittenValues.{bits_value}
use Rattle.reg_der.proofs.PublicLaws.{value_again, value_size}

abbrev kept_lists : ℕ → column.Listed → Bool
kept_lists n row = nat_le row.first n && still_on n row.last

abbrev kept_entry : column.Listed → Entry
kept_entry row = record { serial = row.serial; at = row.at; reason = row.reason }

-- ---- a row is listed where its revocation is

none_below : (p : Crl → Bool) (n from : ℕ) (crls : List Crl) → NumberedFrom (λ crl. crl.number) from crls → n ≤ from → list_any (λ crl. nat_lt crl.number n && p crl) crls ≡ false
none_below p n from [] numbered low = refl
none_below p n from (crl ∷ rest) numbered low =
    let above : n ≤ crl.number = let is = numbered.0 in omega arith in
    rw (le-ltb crl.number n above) (none_below p n (from + 1) rest numbered.1 (omega arith))

-- the first that passes is the one of the least number
first_any : (p : Crl → Bool) (n from : ℕ) (crls : List Crl) → NumberedFrom (λ crl. crl.number) from crls
    → not (list_any (λ crl. nat_lt crl.number n && p crl) crls) ≡ still_on n (option_map (λ (crl : Crl). crl.number) (find p crls))
first_any p n from [] numbered = refl
first_any p n from (crl ∷ rest) numbered = elim (cases_Bool (p crl)) [
  | inl passes ↦ rw (passes, and_true (nat_lt crl.number n)) (elim (cases_Bool (nat_lt crl.number n)) [
    | inl before ↦ let below : crl.number < n = ltb-true crl.number n before in rw before (sym (not_le n crl.number below))
    | inr after ↦
        let above : n ≤ crl.number = ltb-false crl.number n after in
        let later : n ≤ from + 1 = let is = numbered.0 in omega arith in
        rw (after, none_below p n (from + 1) rest numbered.1 later) (sym (is_le n crl.number above))
  ])
  | inr fails ↦ rw (fails, and_false (nat_lt crl.number n)) (first_any p n (from + 1) rest numbered.1)
]

same_filter : {A : Type 0} (p q : A → Bool) → ((x : A) → p x ≡ q x) → (xs : List A) → filter p xs ≡ filter q xs
same_filter p q same [] = refl
same_filter p q same (x ∷ xs) = rw (same x, same_filter p q same xs) refl

module _ (records : Records) (n : ℕ) (numbered : NumberedFrom (λ (crl : Crl). crl.number) 1 records.crls) where
  listed_on : (row : RevocationRow) → kept_lists n (listed_of records row) ≡ is_listed_on records.certificates records.crls n row
  listed_on row = ap (λ b. nat_le row.first n && b) (sym (first_any (ends_listing records.certificates row) n 1 records.crls numbered))

  entries_listed : map kept_entry (filter (kept_lists n) (map (listed_of records) records.revocations)) ≡ map entry_of (listed_revocations records n)
  entries_listed =
      ap (map kept_entry) (filter-map (kept_lists n) (listed_of records) records.revocations)
      ∙ map-map kept_entry (listed_of records) (filter (λ row. kept_lists n (listed_of records row)) records.revocations)
      ∙ ap (map entry_of) (same_filter (λ row. kept_lists n (listed_of records row)) (is_listed_on records.certificates records.crls n) listed_on records.revocations)

  read_entries : (listed : List Listed) → map kept_entry (filter (kept_lists n) (map listed_in listed)) ≡ map listed_entry (filter (lists_row n) listed)
  read_entries listed = ap (map kept_entry) (filter-map (kept_lists n) listed_in listed) ∙ map-map kept_entry listed_in (filter (lists_row n) listed)

  as_rises : (those : List Entry) → EntriesAscend those → Rises serial_of those
  as_rises [] up = tt
  as_rises (entry ∷ rest) up = (up.0, as_rises rest up.1)

  -- in ascending order what is listed is what the records say
  pub entries_are : (listed : List Listed) (found : List Entry) → IsPermutation (map (listed_of records) records.revocations) (map listed_in listed) → IsPermutation (map listed_entry (filter (lists_row n) listed)) found → EntriesAscend found → found ≡ entries records n
  entries_are listed found kept same up =
      let kept_filtered = IsPermutation-filter (kept_lists n) (map (listed_of records) records.revocations) (map listed_in listed) kept in
      let mapped = IsPermutation-map kept_entry (filter (kept_lists n) (map (listed_of records) records.revocations)) (filter (kept_lists n) (map listed_in listed)) kept_filtered in
      let content_read : IsPermutation (map entry_of (listed_revocations records n)) (map listed_entry (filter (lists_row n) listed)) = subst (λ l. IsPermutation l (map listed_entry (filter (lists_row n) listed))) entries_listed (subst (IsPermutation (map kept_entry (filter (kept_lists n) (map (listed_of records) records.revocations)))) (read_entries listed) mapped) in
      let to_found : IsPermutation (map entry_of (listed_revocations records n)) found = IsPermutation-trans (map entry_of (listed_revocations records n)) (map listed_entry (filter (lists_row n) listed)) found content_read same in
      sym (sorted_same serial_of found (entries records n) (as_rises found up)
      (IsPermutation-trans found (map entry_of (listed_revocations records n)) (entries records n) (IsPermutation-sym (map entry_of (listed_revocations records n)) found to_found) (ascending_same (map entry_of (listed_revocations records n))))
      (ascending_sorted (map entry_of (listed_revocations records n))))

-- ---- entries in order

as_entries : (those : List Entry) → Rises serial_of those → EntriesAscend those
as_entries [] rises = tt
as_entries (entry ∷ rest) rises = (rises.0, as_entries rest rises.1)

filter_short : {A : Type 0} (test : A → Bool) (xs : List A) → length (filter test xs) ≤ length xs
filter_short test [] = omega arith
filter_short test (x ∷ xs) = let rest = filter_short test xs in elim (cases_Bool (test x)) [
  | inl passes ↦ rw passes (omega (arith, rest))
  | inr fails ↦ rw fails (omega (arith, rest))
]

module _ (number : ℕ) (listed : List Listed) (those : List Entry) (same : IsPermutation (map listed_entry (filter (lists_row number) listed)) those) where
  pub entries_ascend : KeysDiffer (λ (row : Listed). row.serial) listed → IsNonDecreasingBy serial_of those → EntriesAscend those
  entries_ascend differ rises =
      as_entries those (in_strict_order serial_of (map listed_entry (filter (lists_row number) listed)) those
      (keys_made serial_of listed_entry (filter (lists_row number) listed) (keys_kept (λ (row : Listed). row.serial) (lists_row number) listed differ)) same rises)

  pub entries_few : length listed ≤ 1000000 → length those ≤ 1000000
  entries_few few =
      let sizes = length_permutation (map listed_entry (filter (lists_row number) listed)) those same in
      let mapped : length (map listed_entry (filter (lists_row number) listed)) ≡ length (filter (lists_row number) listed) = rw length-map refl in
      let short = filter_short (lists_row number) listed in
      omega (arith, few, sizes, mapped, short)

-- ---- the signature

signature_again : (tbs algorithm signature : List ℕ) → length (tlv 48 tbs) ≤ 2 ^ 27 → length (tlv 48 algorithm) ≤ 1024 → length signature ≤ 65536 → signature_at (certificate_list (tlv 48 tbs) (tlv 48 algorithm) signature) ≡ Some signature
unfolding certificate_list
signature_again tbs algorithm signature short_tbs short_algorithm short_signature =
    let list = tlv 48 tbs ++ tlv 48 algorithm ++ bits_value signature in
    let at_tbs = (value_size 48 tbs).least in
    let at_algorithm = (value_size 48 algorithm).least in
    let at_bits = (value_size 3 (0 ∷ signature)).most in
    let size : length list ≡ length (tlv 48 tbs) + length (tlv 48 algorithm) + length (bits_value signature) = rw (length-append, length-append) refl in
    let one : value_at (tlv 48 list) ≡ Some (record { tag = 48; contents = list }, []) = ap value_at (sym (append-nil (tlv 48 list))) ∙ value_again 48 list [] (omega arith) (omega arith) in
    let two : value_at list ≡ Some (record { tag = 48; contents = tbs }, tlv 48 algorithm ++ bits_value signature) = ap value_at (append_assoc (tlv 48 tbs) (tlv 48 algorithm) (bits_value signature)) ∙ value_again 48 tbs (tlv 48 algorithm ++ bits_value signature) (omega arith) (omega arith) in
    let three : value_at (tlv 48 algorithm ++ bits_value signature) ≡ Some (record { tag = 48; contents = algorithm }, bits_value signature) = value_again 48 algorithm (bits_value signature) (omega arith) (omega arith) in
    let four : value_at (bits_value signature) ≡ Some (record { tag = 3; contents = 0 ∷ signature }, []) = ap value_at (sym (append-nil (bits_value signature))) ∙ value_again 3 (0 ∷ signature) [] (omega arith) (omega arith) in
    rw one (rw two (rw three (rw four refl)))

pub crl_signature : (algorithm : List ℕ) (crl : CertList) (bytes : List ℕ) → IsAlgorithm algorithm → length algorithm ≤ 1024 → length (tbs_of algorithm crl) ≤ 2 ^ 27 → (is : IsCrlOf algorithm crl bytes) → signature_at bytes ≡ Some is.0
unfolding tbs_cert_list
crl_signature algorithm crl bytes form short short_tbs is =
    let spelled = form.sequence.spelled in
    ap signature_at (is.2 ∙ ap (λ a. certificate_list (tbs_of algorithm crl) a is.0) spelled)
    ∙ signature_again _ form.contents is.0 short_tbs (rw (← spelled) short) is.1
