-- Numbered rows found by their numbers, and the rows of CRLs without their bytes.
use Rattle.std.proofs.Common.{◌≡◌, ◌⊎◌, ℕ, zero, suc, ◌+◌, ◌<◌, ◌≤◌, ◌==◌, ◌||◌, true, false, List, [], ◌∷◌, length, map, find, slice_get, Option, Some, None, Bool, IsSome, IsSomeAnd, IsTrue, refl, sym, ap, subst, ◌∙◌, arith}
use Rattle.std.specs.List.{AllByRecursion, list_any}
use Rattle.std.proofs.lemmas.Bool.Decides.{nat_tests}
use Rattle.std.proofs.lemmas.List.{length-map}
use Rattle.reg_core.specs.Crls.{row_of}
use Rattle.reg_core.specs.Records.{Crl, Records, certificate_in, request_in}
use Rattle.reg_core.specs.Calendar.{clock_end}
use Rattle.reg_core.specs.Reached.{LeadsTo, ReachedRevocations, ReachedSubscribers, ReachedOrders, ReachedCertificates, ReachedRequests, ReachedRows}
use Rattle.reg_core.specs.Sound.{NumberedFrom, NeverDecreases, SoundRevocation, SoundCrls}
use Rattle.reg_core.specs.declared.rows.CertRow.{CertRow}
use Rattle.reg_core.specs.declared.rows.CrlRow.{CrlRow}
use Rattle.reg_core.specs.declared.rows.RequestRow.{RequestRow}
use Rattle.reg_core.specs.declared.rows.RevocationRow.{RevocationRow}
use Rattle.reg_core_laws.proofs.PublicLaws.{all_found, all_join, all_map, all_weaker, key_found, numbered_above, numbered_below, some_of}
use Rattle.reg_audit.specs.declared.rows.Rows.{Rows}
use Rattle.reg_audit.specs.Read.{FitsIn, AreCrls, AreRevocations, AreOf, IsLastSet}

-- ---- numbers

at_number : {Row : Type 0} (number : Row → ℕ) (from k : ℕ) (rows : List Row) → NumberedFrom number from rows → find (λ row. number row == from + k) rows ≡ slice_get rows k
at_number number from k [] numbered = refl
at_number number from zero (row ∷ rest) numbered = let same : (number row == from + 0) ≡ true = (let is = numbered.0 in grind (arith, nat_tests)) in rw same refl
at_number number from (suc k) (row ∷ rest) numbered =
    let other : (number row == from + suc k) ≡ false = (let is = numbered.0 in grind (arith, nat_tests)) in
    let next : from + suc k ≡ (from + 1) + k = omega arith in
    rw other (ap (λ n. find (λ r. number r == n) rest) next ∙ at_number number (from + 1) k rest numbered.1)

-- the row with a number stands at its place
pub with_number : {Row : Type 0} (number : Row → ℕ) (id k : ℕ) (rows : List Row) → NumberedFrom number 1 rows → id ≡ k + 1 → find (λ row. number row == id) rows ≡ slice_get rows k
with_number number id k rows numbered is = let next : id ≡ 1 + k = omega arith in ap (λ n. find (λ r. number r == n) rows) next ∙ at_number number 1 k rows numbered

-- none has the number 0
pub none_at_zero : {Row : Type 0} (number : Row → ℕ) (from : ℕ) (rows : List Row) → 1 ≤ from → NumberedFrom number from rows → find (λ row. number row == 0) rows ≡ None
none_at_zero number from [] low numbered = refl
none_at_zero number from (row ∷ rest) low numbered = let other : (number row == 0) ≡ false = (let is = numbered.0 in grind (arith, nat_tests)) in rw other (none_at_zero number (from + 1) rest (omega arith) numbered.1)

is_some_at : {Row : Type 0} (k : ℕ) (rows : List Row) → k < length rows → IsSome (slice_get rows k)
is_some_at k [] within = absurd (omega arith)
is_some_at zero (row ∷ rest) within = refl
is_some_at (suc k) (row ∷ rest) within = is_some_at k rest (omega arith)

abbrev pub IsOneOf : ℕ → ℕ → Type 0
IsOneOf id held = (1 ≤ id) × (id ≤ held)

pub one_found : {Row : Type 0} (number : Row → ℕ) (id : ℕ) (rows : List Row) → NumberedFrom number 1 rows → IsOneOf id (length rows) → IsSome (find (λ row. number row == id) rows)
one_found number zero rows numbered one = absurd (omega (arith, one.0))
one_found number (suc k) rows numbered one = subst IsSome (sym (with_number number (suc k) k rows numbered (omega arith))) (is_some_at k rows (omega (arith, one.1)))

pub found_one : {Row : Type 0} (number : Row → ℕ) (id : ℕ) (rows : List Row) → NumberedFrom number 1 rows → IsSome (find (λ row. number row == id) rows) → IsOneOf id (length rows)
found_one number id rows numbered some =
    let known = some_of (find (λ row. number row == id) rows) some in
    let is : number known.0 ≡ id = key_found number rows id known.0 known.1 in
    let low : 1 ≤ number known.0 = all_found (λ row. 1 ≤ number row) (λ row. number row == id) rows known.0 known.1 (numbered_above number 1 rows numbered) in
    let high : number known.0 < 1 + length rows = all_found (λ row. number row < 1 + length rows) (λ row. number row == id) rows known.0 known.1 (numbered_below number 1 rows numbered) in
    (omega arith, omega arith)

-- ---- CRLs without their bytes

pub all_unmap : {Row Other : Type 0} (P : Other → Type 0) (f : Row → Other) (rows : List Row) → AllByRecursion P (map f rows) → AllByRecursion (λ row. P (f row)) rows
all_unmap P f [] all = tt
all_unmap P f (row ∷ rows) all = (all.0, all_unmap P f rows all.1)

abbrev number_of : CrlRow → ℕ
number_of crl = crl.number

abbrev update_of : CrlRow → ℕ
update_of crl = crl.this_update

-- a test of CRLs that looks at no bytes
any_row : (test : CrlRow → Bool) (crls : List Crl) → list_any test (map row_of crls) ≡ list_any (λ (crl : Crl). test (row_of crl)) crls
any_row test [] = refl
any_row test (crl ∷ crls) = ap (λ later. test (row_of crl) || later) (any_row test crls)

numbered_to : (from : ℕ) (crls : List Crl) → NumberedFrom (λ (crl : Crl). crl.number) from crls → NumberedFrom number_of from (map row_of crls)
numbered_to from [] numbered = tt
numbered_to from (crl ∷ crls) numbered = (numbered.0, numbered_to (from + 1) crls numbered.1)

numbered_of : (from : ℕ) (crls : List Crl) → NumberedFrom number_of from (map row_of crls) → NumberedFrom (λ (crl : Crl). crl.number) from crls
numbered_of from [] numbered = tt
numbered_of from (crl ∷ crls) numbered = (numbered.0, numbered_of (from + 1) crls numbered.1)

falls_to : (crls : List Crl) → NeverDecreases (λ (crl : Crl). crl.this_update) crls → NeverDecreases update_of (map row_of crls)
falls_to [] never = tt
falls_to (crl ∷ crls) never = (all_map (λ later. crl.this_update ≤ later.this_update) row_of crls never.0, falls_to crls never.1)

falls_of : (crls : List Crl) → NeverDecreases update_of (map row_of crls) → NeverDecreases (λ (crl : Crl). crl.this_update) crls
falls_of [] never = tt
falls_of (crl ∷ crls) never = (all_unmap (λ later. crl.this_update ≤ later.this_update) row_of crls never.0, falls_of crls never.1)

pub crls_to : (cap last : ℕ) (crls : List Crl) → SoundCrls cap last crls → AreCrls cap last (map row_of crls)
crls_to cap last crls sound = record {
  numbered = numbered_to 1 crls sound.numbered;
  updates_never_decrease = falls_to crls sound.updates_never_decrease;
  updates_by_last = all_map (λ crl. crl.this_update ≤ last) row_of crls sound.updates_by_last;
  within_cap = rw length-map sound.within_cap;
}

pub crls_of : (cap last : ℕ) (crls : List Crl) → AreCrls cap last (map row_of crls) → SoundCrls cap last crls
crls_of cap last crls are = record {
  numbered = numbered_of 1 crls are.numbered;
  updates_never_decrease = falls_of crls are.updates_never_decrease;
  updates_by_last = all_unmap (λ crl. crl.this_update ≤ last) row_of crls are.updates_by_last;
  within_cap = rw length-map at are.within_cap;
}

-- ---- revocations

pub fits_of : (last : ℕ) (certificates : List CertRow) (requests : List RequestRow) (crls : List Crl) (row : RevocationRow) → SoundRevocation last certificates requests crls row → IsSomeAnd (request_in requests row.request) (LeadsTo row) → FitsIn last (certificate_in certificates row.serial) (request_in requests row.request) (map row_of crls) row
fits_of last certificates requests crls row sound led = record {
  within_validity = sound.within_validity;
  by_request = led;
  at_by_last = sound.at_by_last;
  first_from_one = sound.first_from_one;
  first_by_next = rw length-map sound.first_by_next;
  around = record {
    before = all_map (λ (crl : CrlRow). crl.number < row.first → crl.this_update ≤ row.at) row_of crls sound.crls_before;
    after = all_map (λ (crl : CrlRow). row.first ≤ crl.number → row.at ≤ crl.this_update) row_of crls sound.crls_after;
  };
}

pub sound_of : (last : ℕ) (certificates : List CertRow) (requests : List RequestRow) (crls : List Crl) (row : RevocationRow) → FitsIn last (certificate_in certificates row.serial) (request_in requests row.request) (map row_of crls) row → SoundRevocation last certificates requests crls row
sound_of last certificates requests crls row fits = record {
  within_validity = fits.within_validity;
  by_request = same_serial (request_in requests row.request) fits.by_request;
  at_by_last = fits.at_by_last;
  first_from_one = fits.first_from_one;
  first_by_next = rw length-map at fits.first_by_next;
  crls_before = all_unmap (λ (crl : CrlRow). crl.number < row.first → crl.this_update ≤ row.at) row_of crls fits.around.before;
  crls_after = all_unmap (λ (crl : CrlRow). row.first ≤ crl.number → row.at ≤ crl.this_update) row_of crls fits.around.after;
}
  where
    same_serial : (request : Option RequestRow) → IsSomeAnd request (LeadsTo row) → IsSomeAnd request (λ found. found.serial ≡ row.serial)
    same_serial None led = led
    same_serial (Some request) led = led.same_serial

-- ---- the rows that were read and the records

module _ (rows : Rows) (records : Records) (are : AreOf rows records) where
  -- before anybody is entered, CRLs alone set the last accepted moment: whether one did is told
  abbrev IsSetWhere : Bool → Type 0
  IsSetWhere issued = records.subscribers ≡ [] → (records.last ≡ 0) ⊎ IsTrue issued

  issued : list_any (λ (crl : CrlRow). crl.this_update == records.last) (map row_of records.crls) ≡ list_any (λ (crl : Crl). crl.this_update == records.last) records.crls
  issued = any_row (λ (crl : CrlRow). crl.this_update == records.last) records.crls

  pub last_set_read : ReachedRows records → IsLastSet rows
  last_set_read reached = rw (are.subscribers, are.last, are.crls) (subst IsSetWhere (sym issued) reached.last_set)

  last_set_of : IsLastSet rows → IsSetWhere (list_any (λ (crl : Crl). crl.this_update == records.last) records.crls)
  last_set_of set = subst IsSetWhere issued (rw (are.subscribers, are.last, are.crls) at set)

  pub crls_read : SoundCrls records.policy.cap records.last records.crls → AreCrls rows.cap rows.last rows.crls.now
  crls_read sound = rw (are.cap, are.last, are.crls) (crls_to records.policy.cap records.last records.crls sound)

  module _ (found : ℕ → Option CertRow) (same : (key : ℕ) → found key ≡ find (λ (row : CertRow). row.serial == key) rows.certificates.now) where
    found_is : (key : ℕ) → found key ≡ certificate_in records.certificates key
    found_is key = same key ∙ ap (λ l. certificate_in l key) are.certificates

    pub revocations_read : ReachedRows records → AreRevocations found rows
    revocations_read reached =
        let sound = reached.revocations.sound in
        record {
          serials_differ = rw are.revocations sound.serials_differ;
          requests_differ = rw are.revocations sound.requests_differ;
          each = rw (are.revocations, are.last, are.requests, are.crls)
              (all_join (SoundRevocation records.last records.certificates records.requests records.crls) (λ row. IsSomeAnd (request_in records.requests row.request) (LeadsTo row))
              (λ row. FitsIn records.last (found row.serial) (request_in records.requests row.request) (map row_of records.crls) row)
              (λ row one led. subst (λ o. FitsIn records.last o (request_in records.requests row.request) (map row_of records.crls) row) (sym (found_is row.serial)) (fits_of records.last records.certificates records.requests records.crls row one led))
              records.revocations sound.each reached.revocations.led);
          moments_never_decrease = rw are.revocations reached.revocations.moments_never_decrease;
          firsts_never_decrease = rw are.revocations reached.revocations.firsts_never_decrease;
          none_after = rw (are.revocations, are.requests) reached.revocations.none_after;
        }

    revocations_reached : AreRevocations found rows → ReachedRevocations records.last records.certificates records.requests records.crls records.revocations
    revocations_reached read =
        let each : AllByRecursion (λ row. FitsIn records.last (certificate_in records.certificates row.serial) (request_in records.requests row.request) (map row_of records.crls) row) records.revocations =
        all_weaker (λ row. FitsIn records.last (found row.serial) (request_in records.requests row.request) (map row_of records.crls) row) _
        (λ row one. subst (λ o. FitsIn records.last o (request_in records.requests row.request) (map row_of records.crls) row) (found_is row.serial) one) records.revocations
        (rw (are.revocations, are.last, are.requests, are.crls) at read.each) in
        record {
          sound = record {
            serials_differ = rw are.revocations at read.serials_differ;
            requests_differ = rw are.revocations at read.requests_differ;
            each = all_weaker _ _ (λ row one. sound_of records.last records.certificates records.requests records.crls row one) records.revocations each;
          };
          led = all_weaker _ _ (λ row one. one.by_request) records.revocations each;
          moments_never_decrease = rw are.revocations at read.moments_never_decrease;
          firsts_never_decrease = rw are.revocations at read.firsts_never_decrease;
          none_after = rw (are.revocations, are.requests) at read.none_after;
        }

    pub rows_reached : rows.last < clock_end → IsLastSet rows → ReachedSubscribers rows.cap rows.subscribers.now → ReachedOrders rows.cap rows.subscribers.now rows.orders.now → ReachedCertificates rows.cap rows.orders.now rows.certificates.now
        → ReachedRequests rows.cap rows.last rows.certificates.now rows.requests.now → AreCrls rows.cap rows.last rows.crls.now → AreRevocations found rows → ReachedRows records
    rows_reached last entered subscribers orders certificates requests crls revocations = record {
      policy = are.policy;
      before_clock_end = rw are.last at last;
      last_set = last_set_of entered;
      subscribers = rw (are.cap, are.subscribers) at subscribers;
      orders = rw (are.cap, are.subscribers, are.orders) at orders;
      certificates = rw (are.cap, are.orders, are.certificates) at certificates;
      requests = rw (are.cap, are.last, are.certificates, are.requests) at requests;
      revocations = revocations_reached revocations;
      crls = crls_of records.policy.cap records.last records.crls (rw (are.cap, are.last, are.crls) at crls);
    }
