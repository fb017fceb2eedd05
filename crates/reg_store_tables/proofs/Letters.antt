-- The letters of the records, and their counts.
use Rattle.std.proofs.Common.{◌≡◌, ℕ, Bool, true, false, cond, List, [], ◌∷◌, map, length, Option, Some, None, refl, sym, ap, ap₂, subst, ◌∙◌}
use Rattle.std.specs.Prelude.{nat_lt}
use Rattle.std.specs.List.{AllByRecursion}
use Rattle.std.specs.List.Sorted.{IsPermutation}
use Rattle.std.proofs.lemmas.List.{length-map}
use Rattle.std.proofs.lemmas.List.Sorted.{length_permutation}
use Rattle.sqlite_trees.proofs.ListLemmas.{filter-map, IsPermutation-filter}
use Rattle.reg_core.specs.Records.{Records, certificate_in, revocation_in}
use Rattle.reg_core.specs.Sound.{SoundRows}
use Rattle.reg_core.specs.Status as core
use Rattle.reg_core.specs.Status.{status, status_by, counts, registered}
use Rattle.reg_core.specs.declared.command.Counts.{Counts}
use Rattle.reg_core.specs.declared.command.Status.{Status}
use Rattle.reg_core.specs.declared.command.Status.TheVariants.{Good, Expired, Revoked}
use Rattle.reg_core.specs.declared.rows.CertRow.{CertRow}
use Rattle.reg_core.specs.declared.rows.RevocationRow.{RevocationRow}
use Rattle.reg_store_tables.specs.DerivedRows.{Letter, good, revoked, expired, is_good_letter, is_revoked_letter, is_expired_letter, Standing, with_letter, letter_counts}
use Rattle.reg_store_tables.specs.Kept.{letter_of, standing_of}
use Rattle.reg_core_laws.proofs.PublicLaws.{same_length, all_weaker, each_found}

pub same_counts : (a b : Counts) → a.good ≡ b.good → a.revoked ≡ b.revoked → a.expired ≡ b.expired → a ≡ b
same_counts a b p q r = λ i. record { good = p i; revoked = q i; expired = r i }

pub map_same : {A B : Type 0} (f g : A → B) (xs : List A) → AllByRecursion (λ x. f x ≡ g x) xs → map f xs ≡ map g xs
map_same f g [] all = refl
map_same f g (x ∷ xs) all = ap₂ ◌∷◌ all.0 (map_same f g xs all.1)

-- each certificate is found by its serial number
pub found_each : (records : Records) → SoundRows records → AllByRecursion (λ (row : CertRow). certificate_in records.certificates row.serial ≡ Some row) records.certificates
found_each records sound = each_found (λ (row : CertRow). row.serial) records.certificates sound.certificates.serials_differ

-- the letters of the records are counted as their statuses are
letter_as : (test : Letter → Bool) (of : Status → Bool) → test good ≡ of Good → test expired ≡ of Expired → ((at reason : ℕ) → test revoked ≡ of (Revoked at reason)) → (moment : ℕ) (row : CertRow) (revocation : Option RevocationRow)
    → test (letter_of (status_by moment (Some row) revocation)) ≡ of (status_by moment (Some row) revocation)
letter_as test of goods ends revokes moment row (Some revocation) = revokes revocation.at revocation.reason
letter_as test of goods ends revokes moment row None =
    elim (nat_lt row.not_after moment) as (λ b. test (letter_of (cond b Expired Good)) ≡ of (cond b Expired Good)) [ true ↦ ends | false ↦ goods ]

module _ (records : Records) (found : AllByRecursion (λ (row : CertRow). certificate_in records.certificates row.serial ≡ Some row) records.certificates) (letters : List Standing)
    (stand : IsPermutation (map (standing_of records) records.certificates) letters) where
  counted_by : (test : Letter → Bool) (of : Status → Bool) → ((row : CertRow) (revocation : Option RevocationRow) → test (letter_of (status_by records.last (Some row) revocation)) ≡ of (status_by records.last (Some row) revocation))
      → with_letter test letters ≡ length (registered of records records.last)
  counted_by test of same =
      let those = map (standing_of records) records.certificates in
      length_permutation _ _ (IsPermutation-filter (λ (row : Standing). test row.letter) those letters stand)
      ∙ ap length (filter-map (λ (row : Standing). test row.letter) (standing_of records) records.certificates) ∙ length-map _ _
      ∙ same_length (λ row. test (standing_of records row).letter) (λ (row : CertRow). of (status records row.serial records.last)) records.certificates
      (all_weaker (λ (row : CertRow). certificate_in records.certificates row.serial ≡ Some row) (λ (row : CertRow). test (standing_of records row).letter ≡ of (status records row.serial records.last))
      (λ row is.
      let P : Option CertRow → Type 0 = λ known. test (letter_of (status_by records.last known (revocation_in records.revocations row.serial))) ≡ of (status_by records.last known (revocation_in records.revocations row.serial)) in
      subst P (sym is) (same row (revocation_in records.revocations row.serial)))
      records.certificates found)

  -- the letters count the statuses at the last accepted moment
  pub counts_stand : letter_counts letters ≡ counts records records.last
  counts_stand = same_counts _ _
      (counted_by is_good_letter core.is_good (letter_as is_good_letter core.is_good refl refl (λ at reason. refl) records.last))
      (counted_by is_revoked_letter core.is_revoked (letter_as is_revoked_letter core.is_revoked refl refl (λ at reason. refl) records.last))
      (counted_by is_expired_letter core.is_expired (letter_as is_expired_letter core.is_expired refl refl (λ at reason. refl) records.last))
