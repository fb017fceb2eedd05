-- What is denied where an audit tells a row.
use Rattle.std.proofs.Common.{◌≡◌, ◌≢◌, ◌<◌, ◌≤◌, ℕ, ◌==◌, Bool, true, false, List, [], ◌∷◌, map, filter, length, Option, Some, refl, sym, subst, arith, inl, inr}
use Rattle.std.specs.Prelude.{IsSomeAnd}
use Rattle.std.specs.List.{AllByRecursion}
use Rattle.std.specs.List.Sorted.{IsPermutation}
use Rattle.std.proofs.lemmas.Bool.{cases_Bool}
use Rattle.std.proofs.lemmas.Bool.Decides.{nat_tests}
use Rattle.std.proofs.lemmas.List.Sorted.{length_permutation}
use Rattle.sqlite_trees.proofs.ListLemmas.{IsPermutation-filter}
use Rattle.reg_core.specs.Calendar.{clock_end}
use Rattle.reg_core.specs.Crls.{row_of, cert_list}
use Rattle.reg_core.specs.Policy.{IsPolicy}
use Rattle.reg_core.specs.Records.{Records, Crl, crl_in}
use Rattle.reg_core.specs.Reached.{ReachedRows}
use Rattle.reg_core.specs.Sound.{NumberedFrom, KeysDiffer, CrlsSigned, SoundRows}
use Rattle.reg_core.specs.declared.rows.CrlRow.{CrlRow}
use Rattle.reg_core_laws.proofs.PublicLaws.{reached_sound, revocations_within, all_map, all_weaker, each_found}
use Rattle.reg_store_tables.specs.DerivedRows as column
use Rattle.reg_store_tables.specs.DerivedRows.{DerivedRows}
use Rattle.reg_store_tables.specs.Kept.{Kept, listed_of}
use Rattle.reg_store_tables.proofs.PublicLaws.{mapped}
use Rattle.reg_audit.proofs.Following.{keys_made}
use Rattle.reg_audit.specs.DerivedAsRead.{listed_in}
use Rattle.reg_audit.specs.declared.derived_rows.Listed.{Listed}
use Rattle.reg_audit.proofs.Signed.{numbers_differ}
use Rattle.reg_audit.specs.Faults.{EndsAtBrokenRow, BreaksRule, IsDisproved}
use Rattle.reg_audit.specs.Stored.{CanList, IsSomeCrl, IsStored}
use Rattle.reg_audit.specs.ReadableValues.{HasAllowedDays, HasValues}
use Rattle.reg_audit.specs.declared.fault.AuditFault.{AuditFault}
use Rattle.reg_audit.specs.declared.fault.AuditFault.TheVariants.{Memory, Store, Broken}

-- ---- keys differ in any order

module _ {Row : Type 0} (key : Row → ℕ) where
  abbrev has : ℕ → Row → Bool
  has k = λ row. key row == k

  none_has : (k : ℕ) (rows : List Row) → AllByRecursion (λ row. k ≢ key row) rows → length (filter (has k) rows) ≡ 0
  none_has k [] all = refl
  none_has k (row ∷ rest) all = let no : (key row == k) ≡ false = (let apart = all.0 in grind (arith, nat_tests)) in rw no (none_has k rest all.1)

  one_each : (k : ℕ) (rows : List Row) → KeysDiffer key rows → length (filter (has k) rows) ≤ 1
  one_each k [] differ = omega arith
  one_each k (row ∷ rest) differ = elim (cases_Bool (key row == k)) [
    | inl is ↦
        let same : key row ≡ k = grind (arith, nat_tests) in
        let none = none_has k rest (subst (λ n. AllByRecursion (λ other. n ≢ key other) rest) same differ.0) in
        rw is (omega (arith, none))
    | inr other ↦ rw other (one_each k rest differ.1)
  ]

  apart : (k : ℕ) (rows : List Row) → length (filter (has k) rows) ≤ 0 → AllByRecursion (λ row. k ≢ key row) rows
  apart k [] none = tt
  apart k (row ∷ rest) none = elim (cases_Bool (key row == k)) [
    | inl is ↦ absurd (let some : length (row ∷ filter (has k) rest) ≤ 0 = rw is at none in omega arith)
    | inr other ↦ ((λ same. let no : (key row == k) ≡ true = grind (arith, nat_tests) in let bad : ⊥ = cc in bad), apart k rest (rw other at none))
  ]

  fewer : (k : ℕ) (row : Row) (rest : List Row) → length (filter (has k) rest) ≤ length (filter (has k) (row ∷ rest))
  fewer k row rest = elim (cases_Bool (key row == k)) [
    | inl is ↦ rw is (omega arith)
    | inr other ↦ rw other (omega arith)
  ]

  all_differ : (rows : List Row) → ((k : ℕ) → length (filter (has k) rows) ≤ 1) → KeysDiffer key rows
  all_differ [] few = tt
  all_differ (row ∷ rest) few =
      let here : (key row == key row) ≡ true = grind (arith, nat_tests) in
      let whole : length (row ∷ filter (has (key row)) rest) ≤ 1 = rw here at (few (key row)) in
      (apart (key row) rest (omega (arith, whole)), all_differ rest (λ k. let less = fewer k row rest in let most = few k in omega arith))

  pub differ_shuffled : (rows others : List Row) → KeysDiffer key rows → IsPermutation rows others → KeysDiffer key others
  differ_shuffled rows others differ same =
      all_differ others (λ k. (let one = one_each k rows differ in let sizes = length_permutation (filter (has k) rows) (filter (has k) others) (IsPermutation-filter (has k) rows others same) in omega arith))

differ_mapped : {A B : Type 0} (f : A → B) (key : B → ℕ) (rows : List A) → KeysDiffer key (map f rows) → KeysDiffer (λ row. key (f row)) rows
differ_mapped f key [] differ = tt
differ_mapped f key (row ∷ rest) differ = (unmapped f (λ other. key (f row) ≢ key other) rest differ.0, differ_mapped f key rest differ.1)
  where
    unmapped : {A B : Type 0} (f : A → B) (P : B → Type 0) (rows : List A) → AllByRecursion P (map f rows) → AllByRecursion (λ row. P (f row)) rows
    unmapped f P [] all = tt
    unmapped f P (row ∷ rest) all = (all.0, unmapped f P rest all.1)

-- what was read of the listings can be listed, where the records are sound and what is kept follows from them
pub can_list : {listed : List Listed} (records : Records) (columns : DerivedRows) → IsPolicy records.policy → SoundRows records → Kept columns records → map listed_in listed ≡ columns.listed → CanList listed
can_list {listed} records columns policy sound kept are =
    let made = map (listed_of records) records.revocations in
    let same : IsPermutation made (map listed_in listed) = subst (IsPermutation made) (sym are) kept.listed in
    let differ : KeysDiffer (λ (row : column.Listed). row.serial) made = keys_made (λ (row : column.Listed). row.serial) (listed_of records) records.revocations sound.revocations.serials_differ in
    let sizes = length_permutation made (map listed_in listed) same in
    let few = revocations_within records sound in
    record {
      differ = differ_mapped listed_in (λ (row : column.Listed). row.serial) listed (differ_shuffled (λ (row : column.Listed). row.serial) made (map listed_in listed) differ same);
      few = omega (arith, sizes, mapped (listed_of records) records.revocations, mapped listed_in listed, few, sound.requests.within_cap, policy.cap.1);
    }

-- ---- the bytes of CRLs

abbrev IsFoundIn : Records → Crl → Type 0
IsFoundIn records crl = crl_in records.crls crl.number ≡ Some crl

abbrev HasBytes : Records → Crl → Type 0
HasBytes records crl = IsSomeCrl (cert_list records crl.number crl.this_update) crl.bytes

each_stored : (records : Records) (crls : List Crl) → AllByRecursion (IsFoundIn records) crls → AllByRecursion (HasBytes records) crls → AllByRecursion (IsStored records) (map row_of crls)
each_stored records [] found signed = tt
each_stored records (crl ∷ crls) found signed = (
  subst (λ (o : Option Crl). IsSomeAnd o (λ one. IsSomeCrl (cert_list records crl.number crl.this_update) one.bytes)) (sym found.0) signed.0,
  each_stored records crls found.1 signed.1,
)

-- where each CRL's bytes are those of what it lists, there are such bytes for each row
pub all_stored : (records : Records) → NumberedFrom (λ crl. crl.number) 1 records.crls → CrlsSigned IsSomeCrl records → AllByRecursion (IsStored records) (map row_of records.crls)
all_stored records numbered signed =
    each_stored records records.crls (each_found (λ (crl : Crl). crl.number) records.crls (numbers_differ (λ (crl : Crl). crl.number) 1 records.crls numbered)) signed

-- each thisUpdate is one that the clock lets pass
pub updates_before : (records : Records) → SoundRows records → AllByRecursion (λ (crl : CrlRow). crl.this_update < clock_end) (map row_of records.crls)
updates_before records sound =
    all_map (λ (crl : CrlRow). crl.this_update < clock_end) row_of records.crls
    (all_weaker (λ (crl : Crl). crl.this_update ≤ records.last) (λ crl. crl.this_update < clock_end) (λ crl by. omega (arith, by, sound.before_clock_end)) records.crls sound.crls.updates_by_last)

-- ---- what is denied

module _ (records : Records) (columns : DerivedRows) where
  -- where the rows are no reached records
  pub rows_denied : (fault : AuditFault) → (EndsAtBrokenRow fault → ¬ (HasValues records × ReachedRows records × Kept columns records)) → IsDisproved fault records columns
  rows_denied Memory never = tt
  rows_denied Store never = tt
  rows_denied (Broken row) never = record {
    whole = λ values reached kept days. never tt (values, reached.rows, kept);
    rows = λ other values reached kept days. never tt (values, reached, kept);
  }

  -- where the bytes of a CRL are others
  pub bytes_denied : (fault : AuditFault) → (HasValues records → SoundRows records → Kept columns records → ¬ BreaksRule fault) → (HasValues records → SoundRows records → Kept columns records → EndsAtBrokenRow fault → ¬ CrlsSigned IsSomeCrl records)
      → IsDisproved fault records columns
  bytes_denied Memory never others = tt
  bytes_denied Store never others = tt
  bytes_denied (Broken row) never others = record {
    whole = λ values reached kept days. others values (reached_sound records reached.rows) kept tt reached.signatures;
    rows = λ other values reached kept days. never values (reached_sound records reached) kept other;
  }

  -- where the office was made with other days
  pub days_denied : (fault : AuditFault) → (EndsAtBrokenRow fault → ¬ HasAllowedDays columns) → IsDisproved fault records columns
  days_denied Memory never = tt
  days_denied Store never = tt
  days_denied (Broken row) never = record {
    whole = λ values reached kept days. never tt days;
    rows = λ other values reached kept days. never tt days;
  }
