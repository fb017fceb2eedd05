-- The bytes of CRLs that are found by their numbers, and of all CRLs.
use Rattle.std.proofs.Common.{◌≡◌, ◌≢◌, ◌<◌, ◌≤◌, ◌+◌, ℕ, List, [], ◌∷◌, map, take, length, get_or, Option, Some, sym, subst, arith}
use Rattle.std.specs.Prelude.{IsSomeAnd}
use Rattle.std.specs.List.{AllByRecursion}
use Rattle.std.specs.List.Sorted.{IsPermutation}
use Rattle.std.proofs.lemmas.List.{take_more}
use Rattle.reg_core.specs.Crls.{row_of, cert_list}
use Rattle.reg_core.specs.Issuer.{Issuer}
use Rattle.reg_core.specs.Records.{Records, Crl, crl_in}
use Rattle.reg_core.specs.Sound.{NumberedFrom, KeysDiffer, CrlsSigned}
use Rattle.reg_core_laws.proofs.PublicLaws.{all_push, all_weaker, numbered_above, each_found}
use Rattle.reg_store_tables.specs.DerivedRows.{DerivedRows}
use Rattle.reg_store_tables.specs.Kept.{Kept, listed_of}
use Rattle.reg_audit.specs.DerivedAsRead.{listed_in}
use Rattle.reg_audit.specs.Crls.{MatchRecords}
use Rattle.reg_audit.specs.declared.derived_rows.Listed.{Listed}
use Rattle.reg_audit.specs.Faults.{EndsAtBrokenRow, BreaksRule}
use Rattle.reg_audit.specs.declared.fault.AuditFault.{AuditFault}
use Rattle.reg_audit.specs.declared.fault.AuditFault.TheVariants.{Memory, Store, Broken}
use Rattle.reg_audit.specs.Stored.{IsSomeCrl, IsStored}

-- numbers that rise by one differ
pub numbers_differ : {Row : Type 0} (number : Row → ℕ) (from : ℕ) (rows : List Row) → NumberedFrom number from rows → KeysDiffer number rows
numbers_differ number from [] numbered = tt
numbers_differ number from (row ∷ rest) numbered = (
  all_weaker (λ other. from + 1 ≤ number other) (λ other. number row ≢ number other) (λ other above same. let is = numbered.0 in omega arith) rest (numbered_above number (from + 1) rest numbered.1),
  numbers_differ number (from + 1) rest numbered.1,
)

abbrev IsFoundIn : Records → Crl → Type 0
IsFoundIn records crl = crl_in records.crls crl.number ≡ Some crl

abbrev HasBytes : Records → Crl → Type 0
HasBytes records crl = IsSomeCrl (cert_list records crl.number crl.this_update) crl.bytes

each_signed : (records : Records) (crls : List Crl) → AllByRecursion (IsFoundIn records) crls → AllByRecursion (IsStored records) (map row_of crls) → AllByRecursion (HasBytes records) crls
each_signed records [] found stored = tt
each_signed records (crl ∷ crls) found stored = (
  subst (λ (o : Option Crl). IsSomeAnd o (λ one. IsSomeCrl (cert_list records crl.number crl.this_update) one.bytes)) found.0 stored.0,
  each_signed records crls found.1 stored.1,
)

-- where there are bytes for each row, they are those of each CRL
pub all_signed : (records : Records) → NumberedFrom (λ crl. crl.number) 1 records.crls → AllByRecursion (IsStored records) (map row_of records.crls) → CrlsSigned IsSomeCrl records
all_signed records numbered stored =
    each_signed records records.crls (each_found (λ (crl : Crl). crl.number) records.crls (numbers_differ (λ (crl : Crl). crl.number) 1 records.crls numbered)) stored

-- one row more
pub all_more : {Row : Type 0} (P : Row → Type 0) (rows : List Row) (i : ℕ) (row : Row) → i < length rows → row ≡ get_or rows i row → AllByRecursion P (take i rows) → P row → AllByRecursion P (take (i + 1) rows)
all_more P rows i row within is all one = subst (AllByRecursion P) (sym (take_more rows i row within)) (all_push P (take i rows) (get_or rows i row) all (subst P is one))

-- what was read of the office and of the listings is that of the records
pub lists_are : {issuer : Issuer} {crl_life : ℕ} {listed : List Listed} (records : Records) (columns : DerivedRows) → issuer ≡ records.issuer → crl_life ≡ records.policy.crl_life → NumberedFrom (λ crl. crl.number) 1 records.crls → map listed_in listed ≡ columns.listed
    → Kept columns records → MatchRecords issuer crl_life listed records
lists_are records columns by_issuer by_life numbered listed kept = record {
  by_issuer = by_issuer;
  by_life = by_life;
  numbered = numbered;
  kept = subst (IsPermutation (map (listed_of records) records.revocations)) (sym listed) kept.listed;
}

-- a row that breaks a rule is told
pub row_is_broken : (reason : AuditFault) → BreaksRule reason → EndsAtBrokenRow reason
row_is_broken Memory is = is
row_is_broken Store is = is
row_is_broken (Broken broken) is = tt
