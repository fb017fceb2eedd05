-- What is kept beside the records stands for them after each change.
use Rattle.std.proofs.Common.{◌≡◌, ◌≤◌, ℕ, Bool, true, false, cond, ◌&&◌, ◌==◌, [], ◌∷◌, ◌++◌, map, length, Option, Some, None, option_map, unwrap_or, refl, sym, ap, ap₂, subst, ◌∙◌, inl, inr, arith}
use Rattle.std.specs.Prelude.{nat_lt, nat_le}
use Rattle.std.specs.List.{AllByRecursion}
use Rattle.std.specs.List.Sorted.{IsPermutation}
use Rattle.std.proofs.lemmas.Bool.{cases_Bool}
use Rattle.std.proofs.lemmas.Bool.Decides.{nat_tests}
use Rattle.std.proofs.lemmas.List.{map-append, length-map}
use Rattle.std.proofs.lemmas.List.Sorted.{IsPermutation-map, IsPermutation-append, IsPermutation-refl, length_permutation}
use Rattle.sqlite_trees.proofs.ListLemmas.{map-map, filter-map, IsPermutation-filter}
use Rattle.reg_core_laws.proofs.PublicLaws.{same_length, one_has, equal_numbers, same_number, all_push, all_weaker, all_join, find_none, find_front, find_back, find_past, some_and_of, past_end_is, last_stays, last_added, first_by_next, last_new, last_kept}
use Rattle.reg_core.specs.Changes.{Fits, changed_by, touched, with_certificate, with_revocation, with_crl}
use Rattle.reg_core.specs.Crls.{last_listing, is_past_end, ends_listing, next_number}
use Rattle.reg_core.specs.Records.{Records, Crl, certificate_in, revocation_in}
use Rattle.reg_core.specs.Sound.{SoundRows, SoundRevocation}
use Rattle.reg_core.specs.Status.{status_by, counts}
use Rattle.reg_core.specs.declared.change.Change.{Change}
use Rattle.reg_core.specs.declared.change.Change.TheVariants.{Touch, Subscriber, Order, Certificate, Request, Decline, Revocation, Crl as NewCrl}
use Rattle.reg_core.specs.declared.command.Counts.{Counts}
use Rattle.reg_core.specs.declared.command.Status.{Status}
use Rattle.reg_core.specs.declared.command.Status.TheVariants.{Good, Expired, Revoked}
use Rattle.reg_core.specs.declared.rows.CertRow.{CertRow}
use Rattle.reg_core.specs.declared.rows.RevocationRow.{RevocationRow}
use Rattle.reg_store_tables.specs.DerivedRows.{good, revoked, expired, is_good_letter, ends_before, Standing, Listed, DerivedRows, letter_counts, turned, with_counts}
use Rattle.reg_store_tables.specs.Kept.{letter_of, standing_of, not_after_of, listed_of, Kept}
use Rattle.reg_store_changes.specs.DerivedEffects.{lettered, with_expired, count_ended_before, is_good_at, good_at, with_revoked_letter, has_passed, with_last_listing, with_good, with_last_listings, shifted}
use Rattle.reg_store_changes.specs.ChangeEffects.{derived_after}
use Rattle.reg_store_tables.proofs.PublicLaws.{map_same, found_each, counts_stand}
use Rattle.reg_store_changes.proofs.Letters.{counts_swept, counts_good, counts_revoked, ended_enough}

-- ---- time passes

abbrev standing_at : ℕ → CertRow → Option CertRow → Option RevocationRow → Standing
standing_at moment row known revocation = record { serial = row.serial; not_after = row.not_after; letter = letter_of (status_by moment known revocation) }

abbrev letter_standing : CertRow → Status → Standing
letter_standing row of = record { serial = row.serial; not_after = row.not_after; letter = letter_of of }

later_too : (m l n : ℕ) → m ≤ l → nat_lt n m ≡ true → nat_lt n l ≡ true
later_too m l n up e = grind (arith, nat_tests)

pass_by : (row : CertRow) (was is : Bool) → (was ≡ true → is ≡ true)
    → cond (is_good_letter (letter_of (cond was Expired Good)) && is) (record { serial = row.serial; not_after = row.not_after; letter = expired }) (record { serial = row.serial; not_after = row.not_after; letter = letter_of (cond was Expired Good) })
    ≡ letter_standing row (cond is Expired Good)
pass_by row true true up = refl
pass_by row true false up = absurd (let e = up refl in cc)
pass_by row false true up = refl
pass_by row false false up = refl

pass_at : (last now : ℕ) → last ≤ now → (row : CertRow) (revocation : Option RevocationRow)
    → turned (ends_before now) (lettered expired) (standing_at last row (Some row) revocation) ≡ standing_at now row (Some row) revocation
pass_at last now up row (Some revocation) = refl
pass_at last now up row None = pass_by row (nat_lt row.not_after last) (nat_lt row.not_after now) (later_too last now row.not_after up)

-- the letters that stood stand once time has passed
pub letters_pass : (records : Records) (now : ℕ) → SoundRows records → records.last ≤ now
    → map (turned (ends_before now) (lettered expired)) (map (standing_of records) records.certificates) ≡ map (standing_of (touched records now)) records.certificates
letters_pass records now sound up =
    map-map (turned (ends_before now) (lettered expired)) (standing_of records) records.certificates
    ∙ map_same (λ row. turned (ends_before now) (lettered expired) (standing_of records row)) (standing_of (touched records now)) records.certificates
    (all_weaker (λ (row : CertRow). certificate_in records.certificates row.serial ≡ Some row) (λ (row : CertRow). turned (ends_before now) (lettered expired) (standing_of records row) ≡ standing_of (touched records now) row)
    (λ row found.
    let P : Option CertRow → Type 0 = λ known. turned (ends_before now) (lettered expired) (standing_at records.last row known (revocation_in records.revocations row.serial)) ≡ standing_at now row known (revocation_in records.revocations row.serial) in
    subst P (sym found) (pass_at records.last now up row (revocation_in records.revocations row.serial)))
    records.certificates (found_each records sound))

module _ (records : Records) (columns : DerivedRows) (now : ℕ) (sound : SoundRows records) (up : records.last ≤ now) (kept : Kept columns records) where
  -- the letters once time has passed
  passed : IsPermutation (map (standing_of (touched records now)) records.certificates) (with_expired now columns).letters
  passed = subst (λ those. IsPermutation those (with_expired now columns).letters) (letters_pass records now sound up)
      (IsPermutation-map (turned (ends_before now) (lettered expired)) (map (standing_of records) records.certificates) columns.letters kept.letters)

  counted : columns.counts ≡ letter_counts columns.letters
  counted = kept.counts ∙ sym (counts_stand records (found_each records sound) columns.letters kept.letters)

  moved : shifted columns.counts (count_ended_before now columns) 0 0 ≡ letter_counts (with_expired now columns).letters
  moved = ap (λ base. shifted base (count_ended_before now columns) 0 0) counted ∙ counts_swept now columns.letters

  enough : count_ended_before now columns ≤ columns.counts.good
  enough = subst (λ (base : Counts). count_ended_before now columns ≤ base.good) (sym counted) (ended_enough now columns.letters)

  moved_stand : shifted columns.counts (count_ended_before now columns) 0 0 ≡ counts (touched records now) now
  moved_stand = moved ∙ counts_stand (touched records now) (found_each records sound) (with_expired now columns).letters passed

-- ---- one certificate more

-- a serial number that is not registered is not revoked
pub unrevoked : (records : Records) (serial : ℕ) → SoundRows records → certificate_in records.certificates serial ≡ None → revocation_in records.revocations serial ≡ None
unrevoked records serial sound none =
    find_none (λ (row : RevocationRow). row.serial == serial) records.revocations
    (all_weaker (SoundRevocation records.last records.certificates records.requests records.crls) (λ (row : RevocationRow). (row.serial == serial) ≡ false)
    (λ row its. elim (cases_Bool (row.serial == serial)) [
      | inl same ↦
          let known = some_and_of (λ certificate. row.at ≤ certificate.not_after) (certificate_in records.certificates row.serial) its.within_validity in
          let is : certificate_in records.certificates serial ≡ Some known.0 = ap (certificate_in records.certificates) (sym (equal_numbers row.serial serial same)) ∙ known.1 in
          absurd (let both = sym none ∙ is in cc)
      | inr other ↦ other
    ])
    records.revocations sound.revocations.each)

module _ (records : Records) (columns : DerivedRows) (now : ℕ) (sound : SoundRows records) (up : records.last ≤ now) (kept : Kept columns records) (row : CertRow)
    (fresh : certificate_in records.certificates row.serial ≡ None) (lasting : now ≤ row.not_after) where
  abbrev later : Records
  later = with_certificate records now row

  found_on : (r : CertRow) → certificate_in records.certificates r.serial ≡ Some r → certificate_in later.certificates r.serial ≡ Some r
  found_on r found = find_front (λ (other : CertRow). other.serial == r.serial) records.certificates (row ∷ []) r found

  found_row : certificate_in later.certificates row.serial ≡ Some row
  found_row = find_back (λ (other : CertRow). other.serial == row.serial) records.certificates (row ∷ []) fresh ∙ ap (λ b. cond b (Some row) None) (same_number row.serial)

  found_all : AllByRecursion (λ (r : CertRow). certificate_in later.certificates r.serial ≡ Some r) later.certificates
  found_all = all_push (λ (r : CertRow). certificate_in later.certificates r.serial ≡ Some r) records.certificates row
      (all_weaker (λ (r : CertRow). certificate_in records.certificates r.serial ≡ Some r) (λ (r : CertRow). certificate_in later.certificates r.serial ≡ Some r) found_on records.certificates (found_each records sound)) found_row

  old_letters : map (standing_of later) records.certificates ≡ map (standing_of (touched records now)) records.certificates
  old_letters = map_same (standing_of later) (standing_of (touched records now)) records.certificates
      (all_weaker (λ (r : CertRow). certificate_in records.certificates r.serial ≡ Some r) (λ (r : CertRow). standing_of later r ≡ standing_of (touched records now) r)
      (λ r found. ap (λ known. standing_at now r known (revocation_in records.revocations r.serial)) (found_on r found ∙ sym found)) records.certificates (found_each records sound))

  not_ended : nat_lt row.not_after now ≡ false
  not_ended = grind (arith, nat_tests)

  new_letter : standing_of later row ≡ record { serial = row.serial; not_after = row.not_after; letter = good }
  new_letter =
      ap₂ (λ known revocation. standing_at now row known revocation) found_row (unrevoked records row.serial sound fresh)
      ∙ ap (λ b. letter_standing row (cond b Expired Good)) not_ended

  letters_grown : IsPermutation (map (standing_of later) later.certificates) (with_good row.serial row.not_after (with_expired now columns)).letters
  letters_grown =
      let new : Standing = record { serial = row.serial; not_after = row.not_after; letter = good } in
      subst (λ those. IsPermutation those ((with_expired now columns).letters ++ new ∷ []))
      (sym (map-append (standing_of later) records.certificates (row ∷ []) ∙ ap₂ ◌++◌ old_letters (ap (λ x. x ∷ []) new_letter)))
      (IsPermutation-append _ _ _ _ (passed records columns now sound up kept) (IsPermutation-refl (new ∷ [])))

  old_listed : map (listed_of later) records.revocations ≡ map (listed_of records) records.revocations
  old_listed = map_same (listed_of later) (listed_of records) records.revocations
      (all_join (SoundRevocation records.last records.certificates records.requests records.crls) (λ (r : RevocationRow). last_listing later r ≡ last_listing records r) (λ (r : RevocationRow). listed_of later r ≡ listed_of records r)
      (λ r its lasts.
      let known = some_and_of (λ certificate. r.at ≤ certificate.not_after) (certificate_in records.certificates r.serial) its.within_validity in
      let ends : not_after_of later r.serial ≡ not_after_of records r.serial =
      ap (λ found. unwrap_or (option_map (λ (certificate : CertRow). certificate.not_after) found) 0)
      (find_front (λ (other : CertRow). other.serial == r.serial) records.certificates (row ∷ []) known.0 known.1 ∙ sym known.1) in
      λ i. record { serial = r.serial; at = r.at; reason = r.reason; first = r.first; not_after = ends i; last = lasts i })
      records.revocations sound.revocations.each (last_kept records now row sound))

  kept_certificate : Kept (derived_after now (Certificate row) columns) (with_certificate records now row)
  kept_certificate = record {
    letters = letters_grown;
    counts = counts_good (count_ended_before now columns) row.serial row.not_after columns.counts (with_expired now columns).letters (moved records columns now sound up kept) (enough records columns now sound up kept)
        ∙ counts_stand later found_all (with_good row.serial row.not_after (with_expired now columns)).letters letters_grown;
    listed = subst (λ those. IsPermutation those columns.listed) (sym old_listed) kept.listed;
  }

-- ---- one revocation more

module _ (records : Records) (columns : DerivedRows) (now : ℕ) (sound : SoundRows records) (up : records.last ≤ now) (kept : Kept columns records) (row : RevocationRow) (certificate : CertRow)
    (found : certificate_in records.certificates row.serial ≡ Some certificate) (lasting : now ≤ certificate.not_after) (none : revocation_in records.revocations row.serial ≡ None) where
  abbrev revoking : Records
  revoking = with_revocation records now row

  not_past : nat_lt certificate.not_after now ≡ false
  not_past = grind (arith, nat_tests)

  letter_here : (c : CertRow) → certificate_in records.certificates c.serial ≡ Some c → c.serial ≡ row.serial
      → turned (is_good_at row.serial) (lettered revoked) (standing_at now c (Some c) (revocation_in records.revocations c.serial)) ≡ standing_at now c (Some c) (revocation_in revoking.revocations c.serial)
  letter_here c is same =
      let one : c ≡ certificate = let both = sym is ∙ ap (certificate_in records.certificates) same ∙ found in cc in
      let unended : nat_lt c.not_after now ≡ false = ap (λ (x : CertRow). nat_lt x.not_after now) one ∙ not_past in
      let before : revocation_in records.revocations c.serial ≡ None = ap (revocation_in records.revocations) same ∙ none in
      let here : (row.serial == c.serial) ≡ true = ap (λ n. row.serial == n) same ∙ same_number row.serial in
      let after : revocation_in revoking.revocations c.serial ≡ Some row = find_back (λ (other : RevocationRow). other.serial == c.serial) records.revocations (row ∷ []) before ∙ ap (λ b. cond b (Some row) None) here in
      let hit : (c.serial == row.serial) ≡ true = ap (λ n. n == row.serial) same ∙ same_number row.serial in
      ap (λ revocation. turned (is_good_at row.serial) (lettered revoked) (standing_at now c (Some c) revocation)) before
      ∙ ap (λ b. turned (is_good_at row.serial) (lettered revoked) (letter_standing c (cond b Expired Good))) unended
      ∙ ap (λ b. cond (b && true) (letter_standing c (Revoked row.at row.reason)) (letter_standing c Good)) hit
      ∙ sym (ap (λ revocation. standing_at now c (Some c) revocation) after)

  letter_apart : (c : CertRow) → (c.serial == row.serial) ≡ false
      → turned (is_good_at row.serial) (lettered revoked) (standing_at now c (Some c) (revocation_in records.revocations c.serial)) ≡ standing_at now c (Some c) (revocation_in revoking.revocations c.serial)
  letter_apart c apart =
      let other : (row.serial == c.serial) ≡ false = grind (arith, nat_tests) in
      let after : revocation_in revoking.revocations c.serial ≡ revocation_in records.revocations c.serial = find_past (λ (r : RevocationRow). r.serial == c.serial) records.revocations (row ∷ []) (other, tt) in
      let was = standing_at now c (Some c) (revocation_in records.revocations c.serial) in
      ap (λ b. cond (b && is_good_letter was.letter) (lettered revoked was) was) apart ∙ sym (ap (λ revocation. standing_at now c (Some c) revocation) after)

  letters_revoked : map (turned (is_good_at row.serial) (lettered revoked)) (map (standing_of (touched records now)) records.certificates) ≡ map (standing_of revoking) records.certificates
  letters_revoked =
      map-map (turned (is_good_at row.serial) (lettered revoked)) (standing_of (touched records now)) records.certificates
      ∙ map_same (λ c. turned (is_good_at row.serial) (lettered revoked) (standing_of (touched records now) c)) (standing_of revoking) records.certificates
      (all_weaker (λ (c : CertRow). certificate_in records.certificates c.serial ≡ Some c) (λ (c : CertRow). turned (is_good_at row.serial) (lettered revoked) (standing_of (touched records now) c) ≡ standing_of revoking c)
      (λ c is.
      let P : Option CertRow → Type 0 = λ known. turned (is_good_at row.serial) (lettered revoked) (standing_at now c known (revocation_in records.revocations c.serial)) ≡ standing_at now c known (revocation_in revoking.revocations c.serial) in
      subst P (sym is) (elim (cases_Bool (c.serial == row.serial)) [
        | inl same ↦ letter_here c is (equal_numbers c.serial row.serial same)
        | inr apart ↦ letter_apart c apart
      ]))
      records.certificates (found_each records sound))

  letters_lost : IsPermutation (map (standing_of revoking) records.certificates) (with_revoked_letter row.serial (with_expired now columns)).letters
  letters_lost = subst (λ those. IsPermutation those (with_revoked_letter row.serial (with_expired now columns)).letters) letters_revoked
      (IsPermutation-map (turned (is_good_at row.serial) (lettered revoked)) (map (standing_of (touched records now)) records.certificates) (with_expired now columns).letters (passed records columns now sound up kept))

  new_listed : row.first ≡ next_number records.crls → listed_of revoking row ≡ record { serial = row.serial; at = row.at; reason = row.reason; first = row.first; not_after = certificate.not_after; last = None }
  new_listed next =
      let ends : not_after_of records row.serial ≡ certificate.not_after = ap (λ known. unwrap_or (option_map (λ (c : CertRow). c.not_after) known) 0) found in
      let lasts : last_listing records row ≡ None = last_new records row sound next in
      λ i. record { serial = row.serial; at = row.at; reason = row.reason; first = row.first; not_after = ends i; last = lasts i }

  -- the letter of its certificate is the one good one with the serial number
  good_here : (c : CertRow) → certificate_in records.certificates c.serial ≡ Some c → is_good_at row.serial (standing_of (touched records now) c) ≡ (c.serial == row.serial)
  good_here c is = elim (cases_Bool (c.serial == row.serial)) [
    | inl hit ↦
        let same : c.serial ≡ row.serial = equal_numbers c.serial row.serial hit in
        let one : c ≡ certificate = let both = sym is ∙ ap (certificate_in records.certificates) same ∙ found in cc in
        let unended : nat_lt c.not_after now ≡ false = ap (λ (x : CertRow). nat_lt x.not_after now) one ∙ not_past in
        let before : revocation_in records.revocations c.serial ≡ None = ap (revocation_in records.revocations) same ∙ none in
        let letter : is_good_letter (standing_of (touched records now) c).letter ≡ true =
        ap₂ (λ known revocation. is_good_letter (letter_of (status_by now known revocation))) is before ∙ ap (λ b. is_good_letter (letter_of (cond b Expired Good))) unended in
        ap₂ ◌&&◌ hit letter ∙ sym hit
    | inr apart ↦ ap (λ b. b && is_good_letter (standing_of (touched records now) c).letter) apart ∙ sym apart
  ]

  good_once : good_at row.serial (with_expired now columns) ≡ 1
  good_once =
      length_permutation _ _ (IsPermutation-filter (is_good_at row.serial) (map (standing_of (touched records now)) records.certificates) (with_expired now columns).letters (passed records columns now sound up kept))
      ∙ ap length (filter-map (is_good_at row.serial) (standing_of (touched records now)) records.certificates) ∙ length-map _ _
      ∙ same_length (λ c. is_good_at row.serial (standing_of (touched records now) c)) (λ (c : CertRow). c.serial == row.serial) records.certificates
      (all_weaker (λ (c : CertRow). certificate_in records.certificates c.serial ≡ Some c) (λ (c : CertRow). is_good_at row.serial (standing_of (touched records now) c) ≡ (c.serial == row.serial)) good_here records.certificates (found_each records sound))
      ∙ one_has (λ (c : CertRow). c.serial) row.serial records.certificates certificate sound.certificates.serials_differ found

  kept_revocation : row.first ≡ next_number records.crls → Kept (derived_after now (Revocation row certificate.not_after) columns) (with_revocation records now row)
  kept_revocation next = record {
    letters = letters_lost;
    counts = counts_revoked (count_ended_before now columns) row.serial columns.counts (with_expired now columns).letters (moved records columns now sound up kept) good_once (enough records columns now sound up kept)
        ∙ counts_stand revoking (found_each records sound) (with_revoked_letter row.serial (with_expired now columns)).letters letters_lost;
    listed =
        let new : Listed = record { serial = row.serial; at = row.at; reason = row.reason; first = row.first; not_after = certificate.not_after; last = None } in
        subst (λ those. IsPermutation those (columns.listed ++ new ∷ []))
        (sym (map-append (listed_of revoking) records.revocations (row ∷ []) ∙ ap (λ x. map (listed_of records) records.revocations ++ x ∷ []) (new_listed next)))
        (IsPermutation-append _ _ _ _ kept.listed (IsPermutation-refl (new ∷ [])));
  }

-- ---- one CRL more

module _ (records : Records) (columns : DerivedRows) (now : ℕ) (sound : SoundRows records) (up : records.last ≤ now) (kept : Kept columns records) (crl : Crl) (next : crl.number ≡ next_number records.crls) where
  abbrev listing : RevocationRow → ℕ → Option ℕ → Listed
  listing r not_after last = record { serial = r.serial; at = r.at; reason = r.reason; first = r.first; not_after = not_after; last = last }

  listed_on : (r : RevocationRow) → SoundRevocation records.last records.certificates records.requests records.crls r → r.first ≤ next_number records.crls
      → turned (has_passed crl.this_update) (with_last_listing crl.number) (listed_of records r) ≡ listed_of (with_crl records now crl) r
  listed_on r its can = go (last_listing records r) refl
    where
      known : (c : CertRow) × (certificate_in records.certificates r.serial ≡ Some c) × (r.at ≤ c.not_after)
      known = some_and_of (λ certificate. r.at ≤ certificate.not_after) (certificate_in records.certificates r.serial) its.within_validity

      ends : not_after_of records r.serial ≡ known.0.not_after
      ends = ap (λ found. unwrap_or (option_map (λ (c : CertRow). c.not_after) found) 0) known.1

      past : ends_listing records.certificates r crl ≡ nat_lt (not_after_of records r.serial) crl.this_update
      past =
          let first : nat_le r.first crl.number ≡ true = grind (arith, nat_tests) in
          ap (λ b. b && is_past_end records.certificates r.serial crl.this_update) first ∙ past_end_is records.certificates r.serial crl.this_update known.0 known.1 ∙ ap (λ n. nat_lt n crl.this_update) (sym ends)

      by_test : (b : Bool) → cond b (listing r (not_after_of records r.serial) (Some crl.number)) (listing r (not_after_of records r.serial) None) ≡ listing r (not_after_of records r.serial) (cond b (Some crl.number) None)
      by_test true = refl
      by_test false = refl

      go : (last : Option ℕ) → last_listing records r ≡ last → turned (has_passed crl.this_update) (with_last_listing crl.number) (listed_of records r) ≡ listed_of (with_crl records now crl) r
      go (Some last) is =
          ap (λ l. turned (has_passed crl.this_update) (with_last_listing crl.number) (listing r (not_after_of records r.serial) l)) is
          ∙ ap (listing r (not_after_of records r.serial)) (sym (last_stays records now crl r last is))
      go None is =
          ap (λ l. turned (has_passed crl.this_update) (with_last_listing crl.number) (listing r (not_after_of records r.serial) l)) is
          ∙ by_test (nat_lt (not_after_of records r.serial) crl.this_update)
          ∙ ap (λ b. listing r (not_after_of records r.serial) (cond b (Some crl.number) None)) (sym past)
          ∙ ap (listing r (not_after_of records r.serial)) (sym (last_added records now crl r is))

  all_listed_on : map (turned (has_passed crl.this_update) (with_last_listing crl.number)) (map (listed_of records) records.revocations) ≡ map (listed_of (with_crl records now crl)) records.revocations
  all_listed_on =
      map-map (turned (has_passed crl.this_update) (with_last_listing crl.number)) (listed_of records) records.revocations
      ∙ map_same (λ r. turned (has_passed crl.this_update) (with_last_listing crl.number) (listed_of records r)) (listed_of (with_crl records now crl)) records.revocations
      (all_join (SoundRevocation records.last records.certificates records.requests records.crls) (λ (r : RevocationRow). r.first ≤ next_number records.crls)
      (λ (r : RevocationRow). turned (has_passed crl.this_update) (with_last_listing crl.number) (listed_of records r) ≡ listed_of (with_crl records now crl) r) listed_on records.revocations sound.revocations.each (first_by_next records sound))

  kept_crl : Kept (with_counts (shifted columns.counts (count_ended_before now columns) 0 0) (with_last_listings crl.number crl.this_update (with_expired now columns))) (with_crl records now crl)
  kept_crl = record {
    letters = passed records columns now sound up kept;
    counts = moved_stand records columns now sound up kept;
    listed = subst (λ those. IsPermutation those (map (turned (has_passed crl.this_update) (with_last_listing crl.number)) columns.listed)) all_listed_on
        (IsPermutation-map (turned (has_passed crl.this_update) (with_last_listing crl.number)) (map (listed_of records) records.revocations) columns.listed kept.listed);
  }

-- ---- each change

pub kept_change : (records : Records) (columns : DerivedRows) (now : ℕ) → SoundRows records → records.last ≤ now → Kept columns records → (change : Change) → Fits records now change
    → Kept (derived_after now change columns) (changed_by records now change)
kept_change records columns now sound up kept Touch fits = record { letters = passed records columns now sound up kept; counts = moved_stand records columns now sound up kept; listed = kept.listed }
kept_change records columns now sound up kept (Subscriber row) fits = record { letters = passed records columns now sound up kept; counts = moved_stand records columns now sound up kept; listed = kept.listed }
kept_change records columns now sound up kept (Order row) fits = record { letters = passed records columns now sound up kept; counts = moved_stand records columns now sound up kept; listed = kept.listed }
kept_change records columns now sound up kept (Certificate row) fits = kept_certificate records columns now sound up kept row fits.0 fits.1
kept_change records columns now sound up kept (Request row) fits = record { letters = passed records columns now sound up kept; counts = moved_stand records columns now sound up kept; listed = kept.listed }
kept_change records columns now sound up kept (Decline id) fits = record { letters = passed records columns now sound up kept; counts = moved_stand records columns now sound up kept; listed = kept.listed }
kept_change records columns now sound up kept (Revocation row not_after) fits =
    let known = some_and_of (λ certificate. certificate.not_after ≡ not_after) (certificate_in records.certificates row.serial) fits.1 in
    subst (λ moment. Kept (derived_after now (Revocation row moment) columns) (with_revocation records now row)) known.2
    (kept_revocation records columns now sound up kept row known.0 known.1 (subst (λ moment. now ≤ moment) (sym known.2) fits.2) fits.0 fits.3)
kept_change records columns now sound up kept (NewCrl row der) fits =
    kept_crl records columns now sound up kept (record { number = row.number; this_update = row.this_update; bytes = der.now }) fits
