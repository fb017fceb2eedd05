-- Each value of sound records with a register's values, and of what follows from them, is one that is read.
use Rattle.std.proofs.Common.{ℕ, ◌<◌, Bool, true, false, cond, ◌==◌, List, [], ◌∷◌, map, find, Some, option_map, unwrap_or, arith}
use Rattle.std.specs.List.{AllByRecursion}
use Rattle.std.specs.List.Sorted.{IsPermutation}
use Rattle.std.proofs.lemmas.List.Elements.{All-from_recursion, recursion_from_All}
use Rattle.std.proofs.lemmas.List.Sorted.{All-permutation}
use Rattle.reg_core.specs.Calendar.{IsMoment}
use Rattle.reg_core.specs.Records.{Records}
use Rattle.reg_core.specs.Sound.{SoundRows}
use Rattle.reg_core.specs.declared.rows.CertRow.{CertRow}
use Rattle.reg_core.specs.declared.rows.RevocationRow.{RevocationRow}
use Rattle.reg_core_laws.proofs.PublicLaws.{all_map, all_weaker}
use Rattle.reg_store_tables.specs.DerivedRows.{DerivedRows, Standing, Listed}
use Rattle.reg_store_tables.specs.Kept.{Kept, standing_of, listed_of, not_after_of}
use Rattle.reg_store_tables.proofs.PublicLaws.{received_early, revocations_have, updated_early}
use Rattle.reg_audit.specs.ReadableValues.{IsValidity, AreMomentAndReason, HasValues, AreReadable}

all_shuffled : {Row : Type 0} (P : Row → Type 0) (rows others : List Row) → IsPermutation rows others → AllByRecursion P rows → AllByRecursion P others
all_shuffled P rows others same all = recursion_from_All P others (All-permutation P rows others same (All-from_recursion P rows all))

-- what a look-up gives is at most what all rows have
found_below : {Row : Type 0} (value : Row → ℕ) (end : ℕ) (test : Row → Bool) (rows : List Row) → 0 < end → AllByRecursion (λ row. value row < end) rows → unwrap_or (option_map value (find test rows)) 0 < end
found_below value end test [] some all = some
found_below value end test (row ∷ rows) some all = go (test row) all.0 (found_below value end test rows some all.1)
  where
    go : (passes : Bool) → value row < end → unwrap_or (option_map value (find test rows)) 0 < end → unwrap_or (option_map value (cond passes (Some row) (find test rows))) 0 < end
    go true here later = here
    go false here later = later

module _ (records : Records) (columns : DerivedRows) (values : HasValues records) (sound : SoundRows records) (kept : Kept columns records) where
  -- a certificate that is looked up ends at a moment
  ends : (serial : ℕ) → IsMoment (not_after_of records serial)
  ends serial =
      found_below (λ (row : CertRow). row.not_after) 253402300800 (λ row. row.serial == serial) records.certificates (omega arith)
      (all_weaker (λ row. IsValidity row.not_before row.not_after) (λ row. IsMoment row.not_after) (λ row both. both.1) records.certificates values.validities)

  pub each_has : AreReadable records columns
  each_has = record {
    office = sound.before_clock_end;
    subscribers = values.names;
    certificates = values.validities;
    requests = received_early records sound;
    revocations = revocations_have records sound values;
    crls = updated_early records sound;
    letters =
        all_shuffled (λ (row : Standing). IsMoment row.not_after) (map (standing_of records) records.certificates) columns.letters kept.letters
        (all_map (λ (row : Standing). IsMoment row.not_after) (standing_of records) records.certificates
        (all_weaker (λ row. IsValidity row.not_before row.not_after) (λ row. IsMoment row.not_after) (λ row both. both.1) records.certificates values.validities));
    listed =
        all_shuffled (λ (row : Listed). AreMomentAndReason row.at row.reason × IsMoment row.not_after) (map (listed_of records) records.revocations) columns.listed kept.listed
        (all_map (λ (row : Listed). AreMomentAndReason row.at row.reason × IsMoment row.not_after) (listed_of records) records.revocations
        (all_weaker (λ (row : RevocationRow). AreMomentAndReason row.at row.reason) (λ row. AreMomentAndReason row.at row.reason × IsMoment (not_after_of records row.serial)) (λ row is. (is, ends row.serial)) records.revocations (revocations_have records sound values)));
  }
