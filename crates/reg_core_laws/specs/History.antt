-- The history of CRLs: which ones list a revocation, that they list nothing else, and that a recorded CRL never
-- changes.
use Rattle.std.specs.Prelude.{◌≡◌, ℕ, ◌↔◌, ◌≤◌, List, ◌++◌, Result, IsTrue, IfSome}
use Rattle.std.specs.List.{AllByRecursion}
use Rattle.reg_core.specs.Crls.{CertList, cert_list, listed_revocations, last_listing}
use Rattle.reg_core.specs.Records.{Records, Crl}
use Rattle.reg_core.specs.Sound.{Sound}
use Rattle.reg_core.specs.declared.command.Command.{Command}
use Rattle.reg_core.specs.declared.command.Reply.{Reply}
use Rattle.reg_core.specs.declared.refusal.Fault.{Fault}
use Rattle.reg_core_laws.specs.Headline.{lists, ListsNothingElse}
use Rattle.reg_core_laws.specs.Run.{Run}

-- the CRLs that list a revoked serial number are exactly those from its first to its last, or all from its first on while
-- the last is not issued
abbrev pub ListedFromFirstToLast : Records → Type 0
ListedFromFirstToLast records =
    AllByRecursion
    (λ revocation. (n : ℕ)
    → IsTrue (lists records n revocation.serial)
    ↔ ((revocation.first ≤ n) × IfSome (last_listing records revocation) (λ last. n ≤ last)))
    records.revocations

-- a recorded CRL never changes, nor do the revocations that it lists and the fields that are signed in it, and it stays signed
pub record CrlsStay (signed : CertList → List ℕ → Type 0) (records after : Records) : Type 0 where
  pub later : List Crl
  pub recorded : after.crls ≡ records.crls ++ later
  pub contents : AllByRecursion (λ crl. listed_revocations after crl.number ≡ listed_revocations records crl.number) records.crls
  pub texts : AllByRecursion
      (λ crl. cert_list after crl.number crl.this_update ≡ cert_list records crl.number crl.this_update)
      records.crls
  pub signatures : AllByRecursion
      (λ crl. signed (cert_list after crl.number crl.this_update) crl.bytes)
      records.crls

-- after every run from sound records: `ListedFromFirstToLast`, `ListsNothingElse` and `CrlsStay`
abbrev pub HistoryIsKept : (CertList → List ℕ → Type 0) → Type 0
HistoryIsKept signed =
    (records after : Records)
    (commands : List (ℕ × Command))
    (outcomes : List (Result Reply Fault))
    → Sound signed records
    → Run signed records commands outcomes after
    → ListedFromFirstToLast after × ListsNothingElse after × CrlsStay signed records after
