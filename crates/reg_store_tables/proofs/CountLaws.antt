-- The counts at a moment are those at the last accepted moment, and the good certificates that ended since.
use Rattle.std.proofs.Common.{◌≡◌, ◌≢◌, ◌≤◌, ◌<◌, ◌+◌, ◌&&◌, ◌||◌, ℕ, true, false, Bool, cond, Option, None, Some, List, [], ◌∷◌, map, length, refl, sym, ap, subst, eq-eqb, ◌∙◌, arith, inl, inr}
use Rattle.std.specs.Prelude.{nat_lt}
use Rattle.std.specs.List.{filter, AllByRecursion}
use Rattle.std.proofs.lemmas.Bool.{cases_Bool, ltb-true, lt-ltb, ne_eqb}
use Rattle.std.proofs.lemmas.List.{length-map}
use Rattle.std.proofs.lemmas.List.Sorted.{length_permutation}
use Rattle.sqlite_trees.proofs.ListLemmas.{filter-map, filter_same, IsPermutation-filter}
use Rattle.reg_core.specs.Records.{Records, certificate_in, revocation_in}
use Rattle.reg_core.specs.Policy.{IsPolicy}
use Rattle.reg_core.specs.Sound.{KeysDiffer, SoundRows}
use Rattle.reg_core.specs.Status.{status, status_by, counts, is_good, is_revoked, is_expired}
use Rattle.reg_core.specs.declared.command.Counts.{Counts}
use Rattle.reg_core.specs.declared.command.Status.{Status}
use Rattle.reg_core.specs.declared.command.Status.TheVariants.{Good, Expired}
use Rattle.reg_core.specs.declared.rows.CertRow.{CertRow}
use Rattle.reg_core.specs.declared.rows.RevocationRow.{RevocationRow}
use Rattle.reg_store_tables.specs.DerivedRows.{DerivedRows, Standing, is_good_letter, ends_before}
use Rattle.reg_store_tables.specs.Kept.{Kept, letter_of, standing_of}
use Rattle.reg_store_tables.proofs.Few.{fewer}
use Rattle.reg_store_tables.proofs.Greatest.{all_map}

all_both : {A : Type 0} (P Q R : A → Type 0) → ((x : A) → P x → Q x → R x) → (xs : List A) → AllByRecursion P xs → AllByRecursion Q xs → AllByRecursion R xs
all_both P Q R to [] p q = tt
all_both P Q R to (x ∷ xs) p q = (to x p.0 q.0, all_both P Q R to xs p.1 q.1)

-- each certificate is the one with its serial number
found_itself : (rows : List CertRow) → KeysDiffer (λ (row : CertRow). row.serial) rows → AllByRecursion (λ (row : CertRow). certificate_in rows row.serial ≡ Some row) rows
found_itself [] differ = tt
found_itself (first ∷ rest) differ = (
  rw (eq-eqb first.serial first.serial refl) refl,
  all_both (λ (row : CertRow). certificate_in rest row.serial ≡ Some row) (λ (row : CertRow). first.serial ≢ row.serial) (λ (row : CertRow). certificate_in (first ∷ rest) row.serial ≡ Some row)
      (λ row here apart. rw (ne_eqb first.serial row.serial apart) here) rest (found_itself rest differ.1) differ.0,
)

-- what becomes of a certificate between two moments
pub record Passes (good expired good_then expired_then ended : Bool) : Type 0 where
  pub were_good : good ≡ (good_then || ended)
  pub not_both : (good_then && ended) ≡ false
  pub are_expired : expired_then ≡ (expired || ended)
  pub not_before : (expired && ended) ≡ false

abbrev passes_by : ℕ → ℕ → CertRow → Option RevocationRow → Type 0
passes_by last now row revocation =
    Passes (is_good (status_by last (Some row) revocation)) (is_expired (status_by last (Some row) revocation)) (is_good (status_by now (Some row) revocation)) (is_expired (status_by now (Some row) revocation))
    (is_good_letter (letter_of (status_by last (Some row) revocation)) && nat_lt row.not_after now)

passes_with : (last now : ℕ) (row : CertRow) (revocation : Option RevocationRow) → last ≤ now → passes_by last now row revocation
passes_with last now row (Some revocation) later = record { were_good = refl; not_both = refl; are_expired = refl; not_before = refl }
passes_with last now row None later = elim (cases_Bool (nat_lt row.not_after last)) [
  | inl gone ↦
      let before : row.not_after < last = ltb-true row.not_after last gone in
      let gone_now : nat_lt row.not_after now ≡ true = lt-ltb row.not_after now (omega arith) in
      rw (gone, gone_now) (record { were_good = refl; not_both = refl; are_expired = refl; not_before = refl })
  | inr here ↦ elim (cases_Bool (nat_lt row.not_after now)) [
    | inl ends ↦ rw (here, ends) (record { were_good = refl; not_both = refl; are_expired = refl; not_before = refl })
    | inr stays ↦ rw (here, stays) (record { were_good = refl; not_both = refl; are_expired = refl; not_before = refl })
  ]
]

still_revoked : (last now : ℕ) (row : CertRow) (revocation : Option RevocationRow) → is_revoked (status_by last (Some row) revocation) ≡ is_revoked (status_by now (Some row) revocation)
still_revoked last now row (Some revocation) = refl
still_revoked last now row None = not_revoked (nat_lt row.not_after last) (nat_lt row.not_after now)
  where
    not_revoked : (gone gone_now : Bool) → is_revoked (cond gone Expired Good) ≡ is_revoked (cond gone_now Expired Good)
    not_revoked true true = refl
    not_revoked true false = refl
    not_revoked false true = refl
    not_revoked false false = refl

-- ---- the sums

pub record Splits (whole part rest : Bool) : Type 0 where
  pub is : whole ≡ (part || rest)
  pub apart : (part && rest) ≡ false

split_case : {A : Type 0} (p q s : A → Bool) (x : A) (xs : List A) (b c : Bool) → q x ≡ b → s x ≡ c → Splits (p x) (q x) (s x) → length (filter p xs) ≡ length (filter q xs) + length (filter s xs)
    → length (filter p (x ∷ xs)) ≡ length (filter q (x ∷ xs)) + length (filter s (x ∷ xs))
split_case p q s x xs true true qb sc h rest = absurd (let no_both : (true && true) ≡ false = rw (qb, sc) at h.apart in cc)
split_case p q s x xs true false qb sc h rest = let e : p x ≡ true = h.is ∙ (λ i. qb i || sc i) in rw (e, qb, sc) (omega arith)
split_case p q s x xs false true qb sc h rest = let e : p x ≡ true = h.is ∙ (λ i. qb i || sc i) in rw (e, qb, sc) (omega arith)
split_case p q s x xs false false qb sc h rest = let e : p x ≡ false = h.is ∙ (λ i. qb i || sc i) in rw (e, qb, sc) (omega arith)

split_length : {A : Type 0} (p q s : A → Bool) (xs : List A) → AllByRecursion (λ x. Splits (p x) (q x) (s x)) xs → length (filter p xs) ≡ length (filter q xs) + length (filter s xs)
split_length p q s [] all = refl
split_length p q s (x ∷ xs) all = split_case p q s x xs (q x) (s x) refl refl all.0 (split_length p q s xs all.1)

-- ---- the law

module _ (records : Records) (differ : KeysDiffer (λ (row : CertRow). row.serial) records.certificates) (now : ℕ) (later : records.last ≤ now) where
  abbrev passed : (Status → Bool) → ℕ → CertRow → Bool
  passed test moment row = test (status records row.serial moment)

  abbrev ended : CertRow → Bool
  ended row = ends_before now (standing_of records row)

  abbrev at_row : CertRow → Option CertRow → Type 0
  at_row row found =
      Passes (is_good (status_by records.last found (revocation_in records.revocations row.serial))) (is_expired (status_by records.last found (revocation_in records.revocations row.serial)))
      (is_good (status_by now found (revocation_in records.revocations row.serial))) (is_expired (status_by now found (revocation_in records.revocations row.serial)))
      (is_good_letter (letter_of (status_by records.last found (revocation_in records.revocations row.serial))) && nat_lt row.not_after now)

  each_passes : AllByRecursion (λ row. at_row row (certificate_in records.certificates row.serial)) records.certificates
  each_passes =
      all_map (λ (row : CertRow). certificate_in records.certificates row.serial ≡ Some row) (λ (row : CertRow). at_row row (certificate_in records.certificates row.serial))
      (λ row is. subst (at_row row) (sym is) (passes_with records.last now row (revocation_in records.revocations row.serial) later)) records.certificates (found_itself records.certificates differ)

  each_revoked : AllByRecursion (λ row. passed is_revoked records.last row ≡ passed is_revoked now row) records.certificates
  each_revoked =
      all_map (λ (row : CertRow). certificate_in records.certificates row.serial ≡ Some row) (λ (row : CertRow). passed is_revoked records.last row ≡ passed is_revoked now row)
      (λ row is. subst (λ (found : Option CertRow). is_revoked (status_by records.last found (revocation_in records.revocations row.serial)) ≡ is_revoked (status_by now found (revocation_in records.revocations row.serial))) (sym is)
      (still_revoked records.last now row (revocation_in records.revocations row.serial))) records.certificates (found_itself records.certificates differ)

  good_splits : length (filter (passed is_good records.last) records.certificates) ≡ length (filter (passed is_good now) records.certificates) + length (filter ended records.certificates)
  good_splits =
      split_length (passed is_good records.last) (passed is_good now) ended records.certificates
      (all_map (λ (row : CertRow). at_row row (certificate_in records.certificates row.serial)) (λ (row : CertRow). Splits (passed is_good records.last row) (passed is_good now row) (ended row))
      (λ row h. record { is = h.were_good; apart = h.not_both }) records.certificates each_passes)

  expired_splits : length (filter (passed is_expired now) records.certificates) ≡ length (filter (passed is_expired records.last) records.certificates) + length (filter ended records.certificates)
  expired_splits =
      split_length (passed is_expired now) (passed is_expired records.last) ended records.certificates
      (all_map (λ (row : CertRow). at_row row (certificate_in records.certificates row.serial)) (λ (row : CertRow). Splits (passed is_expired now row) (passed is_expired records.last row) (ended row))
      (λ row h. record { is = h.are_expired; apart = h.not_before }) records.certificates each_passes)

  revoked_same : length (filter (passed is_revoked records.last) records.certificates) ≡ length (filter (passed is_revoked now) records.certificates)
  revoked_same = ap length (filter_same (passed is_revoked records.last) (passed is_revoked now) records.certificates each_revoked)

  module _ (kept : DerivedRows) (law : Kept kept records) where
    ended_as_many : length (filter (ends_before now) kept.letters) ≡ length (filter ended records.certificates)
    ended_as_many =
        let same = length_permutation (filter (ends_before now) (map (standing_of records) records.certificates)) (filter (ends_before now) kept.letters)
        (IsPermutation-filter (ends_before now) (map (standing_of records) records.certificates) kept.letters law.letters) in
        let mapped : length (map (standing_of records) (filter ended records.certificates)) ≡ length (filter ended records.certificates) = rw length-map refl in
        same ∙ ap length (filter-map (ends_before now) (standing_of records) records.certificates) ∙ mapped

    pub letters_as_many : length kept.letters ≡ length records.certificates
    letters_as_many =
        let mapped : length (map (standing_of records) records.certificates) ≡ length records.certificates = rw length-map refl in
        length_permutation (map (standing_of records) records.certificates) kept.letters law.letters ∙ mapped

    pub good_then : kept.counts.good ≡ (counts records now).good + length (filter (ends_before now) kept.letters)
    good_then = ap (λ (c : Counts). c.good) law.counts ∙ good_splits ∙ ap (λ n. (counts records now).good + n) (sym ended_as_many)

    pub revoked_then : kept.counts.revoked ≡ (counts records now).revoked
    revoked_then = ap (λ (c : Counts). c.revoked) law.counts ∙ revoked_same

    pub expired_then : (counts records now).expired ≡ kept.counts.expired + length (filter (ends_before now) kept.letters)
    expired_then =
        let was : kept.counts.expired ≡ length (filter (passed is_expired records.last) records.certificates) = ap (λ (c : Counts). c.expired) law.counts in
        let split = expired_splits in
        let many = ended_as_many in
        omega arith

-- ---- over records that a register writes

ends_still : (now later : ℕ) → now ≤ later → (row : Standing) → ends_before now row ≡ true → ends_before later row ≡ true
ends_still now later le row ends = elim (cases_Bool (is_good_letter row.letter)) [
  | inl good ↦
      let before : nat_lt row.not_after now ≡ true = rw good at ends in
      let less : row.not_after < now = ltb-true row.not_after now before in
      let after : nat_lt row.not_after later ≡ true = lt-ltb row.not_after later (omega arith) in
      rw (good, after) refl
  | inr other ↦ absurd (let no : false ≡ true = rw other at ends in cc)
]

ends_later : (now later : ℕ) → now ≤ later → (rows : List Standing) → length (filter (ends_before now) rows) ≤ length (filter (ends_before later) rows)
ends_later now later le [] = omega arith
ends_later now later le (row ∷ rows) = let rest = ends_later now later le rows in elim (cases_Bool (ends_before now row)) [
  | inl ends ↦ let still = ends_still now later le row ends in rw (ends, still) (omega arith)
  | inr stays ↦ elim (cases_Bool (ends_before later row)) [
    | inl then ↦ rw (stays, then) (omega arith)
    | inr lasts ↦ rw (stays, lasts) rest
  ]
]

module _ (records : Records) (sound : SoundRows records) where
  -- no more certificates are kept than a table has rows
  pub letters_few : IsPolicy records.policy → (kept : DerivedRows) → Kept kept records → length kept.letters ≤ 1000000
  letters_few policy kept law =
      let many = letters_as_many records sound.certificates.serials_differ records.last (omega arith) kept law in
      let within = sound.certificates.within_cap in
      let cap = policy.cap.1 in
      omega arith

  -- of those that are kept as good no more end before a moment than there are
  pub ended_within : (now : ℕ) (kept : DerivedRows) → Kept kept records → length (filter (ends_before now) kept.letters) ≤ kept.counts.good
  ended_within now kept law =
      let good = good_then records sound.certificates.serials_differ (now + records.last) (omega arith) kept law in
      let more = ends_later now (now + records.last) (omega arith) kept.letters in
      omega arith

  -- and what is added to the expired ones stays a number
  pub sums_few : IsPolicy records.policy → (now : ℕ) (kept : DerivedRows) → Kept kept records → kept.counts.expired + length (filter (ends_before now) kept.letters) ≤ 2000000
  sums_few policy now kept law =
      let expired : kept.counts.expired ≡ length (filter (λ (row : CertRow). is_expired (status records row.serial records.last)) records.certificates) = ap (λ (c : Counts). c.expired) law.counts in
      let some = fewer (λ (row : CertRow). is_expired (status records row.serial records.last)) records.certificates in
      let within = sound.certificates.within_cap in
      let cap = policy.cap.1 in
      let letters = letters_few policy kept law in
      let ended = fewer (ends_before now) kept.letters in
      omega arith
