-- Look-ups of a store's tables, and a decision over what look-ups told.
use Rattle.std.specs.Prelude.{IsErrAnd}
use Rattle.std.proofs.Common.{◌≡◌, Option, Some, Result, Ok, Err, sym, subst}
use Rattle.sqlite_trees.specs.declared.store.Store.{Ghosts}
use Rattle.sqlite.specs.Held.{Held}
use Rattle.reg_core.specs.Records.{Records}
use Rattle.reg_core.specs.declared.refusal.Fault.{Fault}
use Rattle.reg_core.specs.declared.refusal.Fault.TheVariants.{Refused, Memory, Store, Signer, Read, Write}
use Rattle.reg_core.specs.declared.refusal.Refusal.{Refusal}
use Rattle.reg_store_tables.specs.Faults.{fault_of}
use Rattle.reg_store_tables.specs.LookUps.{LooksUp}
use Rattle.reg_store_tables.specs.Stays.{Looked}
use Rattle.reg_store_tables.specs.declared.fault.DatabaseFault.{DatabaseFault}
use Rattle.reg_store_tables.proofs.PublicLaws.{by_none, so}
use Rattle.reg_office_reads.specs.Faults.{IsTableFault}
use Rattle.reg_office_reads.specs.Looking.{LooksAndDecides, IsDecidedOr}
use Rattle.reg_office_reads.proofs.Composing.{of_failure}

-- what is looked up in the tables that a store lends is looked up in the store
pub lent : {C : Type 0} {g : Ghosts C} {store tables new : Held C} {IsSo : Records → Type 0} → tables ≡ store → LooksUp g tables new IsSo → LooksUp g store new IsSo
lent {g = g} {new = new} {IsSo = IsSo} same looks = subst (λ those. LooksUp g those new IsSo) same looks

module _ {C T : Type 0} {g : Ghosts C} {a b : Held C} {refused : Records → Option Refusal} {IsDecision : Records → T → Type 0} where
  -- a look-up fails, and nothing is decided
  pub not_decided : (outcome : Result T Fault) (failure : DatabaseFault) → IsErrAnd outcome (λ fault. fault ≡ fault_of failure) → Looked g a b → LooksAndDecides g a b refused IsDecision outcome
  not_decided (Ok x) failure failed looked = absurd failed
  not_decided (Err fault) failure failed looked = record {
    looks = by_none looked (λ records. subst (λ f. IsDecidedOr {T = T} (refused records) (IsDecision records) (Err f)) (sym failed) (of_failure (λ f. IsDecidedOr {T = T} (refused records) (IsDecision records) (Err f)) tt tt failure));
    faults = subst IsTableFault (sym failed) (of_failure IsTableFault tt tt failure);
  }

  -- the decision is a refusal
  pub decided_against : (outcome : Result T Fault) (why : Refusal) → IsErrAnd outcome (λ fault. fault ≡ Refused why)
      → LooksUp g a b (λ records. refused records ≡ Some why) → LooksAndDecides g a b refused IsDecision outcome
  decided_against (Ok x) why failed looks = absurd failed
  decided_against (Err fault) why failed looks = record {
    looks = so looks (λ records sound is. subst (λ f. IsDecidedOr {T = T} (refused records) (IsDecision records) (Err f)) (sym failed) is);
    faults = subst IsTableFault (sym failed) tt;
  }

  -- or this
  pub decided_for : (decided : T) → LooksUp g a b (λ records. IsDecision records decided) → LooksAndDecides g a b refused IsDecision (Ok decided)
  decided_for decided looks = record { looks = looks; faults = tt }

  -- an error that is passed on
  pub decided_as : {U : Type 0} {What : Records → U → Type 0} (outcome : Result T Fault) (fault : Fault) → IsErrAnd outcome (λ error. error ≡ fault)
      → LooksAndDecides g a b refused What (Err fault) → LooksAndDecides g a b refused IsDecision outcome
  decided_as (Ok x) fault failed decides = absurd failed
  decided_as {U = U} {What = What} (Err same) fault failed decides = record {
    looks = so decides.looks (λ records sound is. subst (λ f. IsDecidedOr {T = T} (refused records) (IsDecision records) (Err f)) (sym failed) (still records fault is));
    faults = subst IsTableFault (sym failed) decides.faults;
  }
    where
      still : (records : Records) (f : Fault) → IsDecidedOr {T = U} (refused records) (What records) (Err f) → IsDecidedOr {T = T} (refused records) (IsDecision records) (Err f)
      still records (Refused why) is = is
      still records Memory is = is
      still records Store is = is
      still records Signer is = is
      still records Read is = is
      still records Write is = is
