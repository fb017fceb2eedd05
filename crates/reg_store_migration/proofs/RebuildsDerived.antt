-- What is kept beside the records, made anew, stands for them.
use Rattle.std.proofs.Common.{◌≡◌, ◌+◌, ◌<◌, ◌≤◌, ℕ, pos, Bool, true, false, cond, ◌&&◌, List, [], ◌∷◌, ◌++◌, map, length, find, take, get_or, Some, option_map, unwrap_or, refl, sym, ap, subst, ◌∙◌, arith}
use Rattle.std.specs.Prelude.{nat_lt, nat_le}
use Rattle.std.specs.List.Sorted.{IsPermutation}
use Rattle.std.proofs.lemmas.List.{map-append, take_more, length-map}
use Rattle.std.proofs.lemmas.List.Sorted.{IsPermutation-refl, length_permutation}
use Rattle.sqlite.specs.Effect.{Database}
use Rattle.reg_core.specs.Crls.{row_of, last_listing, ends_listing}
use Rattle.reg_core.specs.Records.{Records, Crl, certificate_in}
use Rattle.reg_core.specs.Schedule.{greatest_of}
use Rattle.reg_core.specs.Sound.{NumberedFrom, NeverDecreases, SoundRows}
use Rattle.reg_core.specs.declared.rows.CertRow.{CertRow}
use Rattle.reg_core.specs.declared.rows.CrlRow.{CrlRow}
use Rattle.reg_core.specs.declared.rows.RevocationRow.{RevocationRow}
use Rattle.reg_core_laws.proofs.PublicLaws.{all_map, past_end_is}
use Rattle.reg_store_tables.specs.DerivedRows.{DerivedRows, letter_counts, with_counts}
use Rattle.reg_store_tables.specs.Kept.{not_after_of, standing_of, listed_of, Kept}
use Rattle.reg_store_tables.specs.Shows.{AreRecordsAndDerived}
use Rattle.reg_store_tables.proofs.PublicLaws.{found_each, counts_stand}
use Rattle.reg_store_migration.specs.Refilled.{AreIssued, HasLetters, last_in, listed_by, with_listed, HasRelisted}

-- ---- one revocation after another

module _ (records : Records) (row : RevocationRow) (certificate : CertRow) (found : certificate_in records.certificates row.serial ≡ Some certificate) where
  -- the last listing is the first CRL from the revocation's first on that is past its certificate's end
  past_same : (crl : Crl) → ends_listing records.certificates row crl ≡ (nat_le row.first crl.number && nat_lt certificate.not_after crl.this_update)
  past_same crl = ap (λ b. nat_le row.first crl.number && b) (past_end_is records.certificates row.serial crl.this_update certificate found)

  last_same : last_listing records row ≡ last_in (map row_of records.crls) row.first certificate.not_after
  last_same = sym (found_rows records.crls)
    where
      found_rows : (crls : List Crl) → last_in (map row_of crls) row.first certificate.not_after ≡ option_map (λ (crl : Crl). crl.number) (find (ends_listing records.certificates row) crls)
      found_rows [] = refl
      found_rows (crl ∷ crls) = go (ends_listing records.certificates row crl) (sym (past_same crl)) (found_rows crls)
        where
          go : (b : Bool) → (nat_le row.first crl.number && nat_lt certificate.not_after crl.this_update) ≡ b
              → last_in (map row_of crls) row.first certificate.not_after ≡ option_map (λ (crl : Crl). crl.number) (find (ends_listing records.certificates row) crls)
              → last_in (map row_of (crl ∷ crls)) row.first certificate.not_after
              ≡ option_map (λ (crl : Crl). crl.number) (cond b (Some crl) (find (ends_listing records.certificates row) crls))
          go true is rest = ap (λ c. option_map (λ (crl : CrlRow). crl.number) (cond c (Some (row_of crl)) (find (λ (crl : CrlRow). nat_le row.first crl.number && nat_lt certificate.not_after crl.this_update) (map row_of crls)))) is
          go false is rest =
              ap (λ c. option_map (λ (crl : CrlRow). crl.number) (cond c (Some (row_of crl)) (find (λ (crl : CrlRow). nat_le row.first crl.number && nat_lt certificate.not_after crl.this_update) (map row_of crls)))) is ∙ rest

  pub new_listed : listed_of records row ≡ listed_by (map row_of records.crls) row certificate.not_after
  new_listed =
      let ends : not_after_of records row.serial ≡ certificate.not_after = ap (λ known. unwrap_or (option_map (λ (c : CertRow). c.not_after) known) 0) found in
      λ i. record { serial = row.serial; at = row.at; reason = row.reason; first = row.first; not_after = ends i; last = last_same i }

rows_numbered : (from : ℕ) (crls : List Crl) → NumberedFrom (λ (crl : Crl). crl.number) from crls → NumberedFrom (λ (crl : CrlRow). crl.number) from (map row_of crls)
rows_numbered from [] numbered = tt
rows_numbered from (crl ∷ crls) numbered = (numbered.0, rows_numbered (from + 1) crls numbered.1)

rows_rise : (crls : List Crl) → NeverDecreases (λ (crl : Crl). crl.this_update) crls → NeverDecreases (λ (crl : CrlRow). crl.this_update) (map row_of crls)
rows_rise [] never = tt
rows_rise (crl ∷ crls) never = (all_map (λ (later : CrlRow). crl.this_update ≤ later.this_update) row_of crls never.0, rows_rise crls never.1)

-- the CRLs of sound records without their bytes were issued as they were
pub rows_issued : (records : Records) → SoundRows records → AreIssued (map row_of records.crls)
rows_issued records sound = (rows_numbered 1 records.crls sound.crls.numbered, rows_rise records.crls sound.crls.updates_never_decrease)

-- one more of the revocations is listed
pub relisted_more : (db : Database) (records : Records) (at : ℕ) (row : RevocationRow) → at < length records.revocations → row ≡ get_or records.revocations at row → (certificate : CertRow)
    → certificate_in records.certificates row.serial ≡ Some certificate → (columns : DerivedRows) → HasLetters columns records → columns.listed ≡ map (listed_of records) (take at records.revocations)
    → columns.days ≡ pos (greatest_of records.policy.schedule)
    → AreRecordsAndDerived db records (with_listed (listed_by (map row_of records.crls) row certificate.not_after) columns) → HasRelisted db records (at + 1)
relisted_more db records at row within is certificate found columns letters listed days both =
    let rows = records.revocations in
    let new = listed_by (map row_of records.crls) row certificate.not_after in
    let grown : take at rows ++ row ∷ [] ≡ take (at + 1) rows = ap (λ (r : RevocationRow). take at rows ++ r ∷ []) is ∙ sym (take_more rows at row within) in
    let listed_more : columns.listed ++ new ∷ [] ≡ map (listed_of records) (take (at + 1) rows) =
    ap (λ l. l ++ new ∷ []) listed ∙ ap (λ x. map (listed_of records) (take at rows) ++ x ∷ []) (sym (new_listed records row certificate found))
    ∙ sym (map-append (listed_of records) (take at rows) (row ∷ [])) ∙ ap (map (listed_of records)) grown in
    (with_listed new columns, both, letters, listed_more, days)

-- there are no more letters than the cap
pub few_letters : (records : Records) (columns : DerivedRows) → SoundRows records → records.policy.cap ≤ 1000000 → HasLetters columns records → length columns.letters ≤ 1000000
few_letters records columns sound most letters =
    let many : length columns.letters ≡ length records.certificates = length_permutation (map (standing_of records) records.certificates) columns.letters letters ∙ rw length-map refl in
    let within = sound.certificates.within_cap in
    omega arith

-- all revocations are listed, and the counts are those of the letters
pub kept_counted : (records : Records) (columns : DerivedRows) → SoundRows records → HasLetters columns records → columns.listed ≡ map (listed_of records) records.revocations → Kept (with_counts (letter_counts columns.letters) columns) records
kept_counted records columns sound letters listed = record {
  letters = letters;
  counts = counts_stand records (found_each records sound) columns.letters letters;
  listed = subst (IsPermutation (map (listed_of records) records.revocations)) (sym listed) (IsPermutation-refl (map (listed_of records) records.revocations));
}
