-- The failure if files can't be read, or if the database fails.
use Rattle.std.proofs.Common.{◌≡◌, ◌⊎◌, ◌∙◌, inl, inr, sym, subst}
use Rattle.reg_core.specs.declared.refusal.Fault.{Fault}
use Rattle.reg_core.specs.declared.refusal.Fault.TheVariants.{Memory, Store}
use Rattle.reg_office_api.specs.LookUps.{IsOfStore}
use Rattle.reg_desk_cli.specs.declared.failure.Failure.{Failure}
use Rattle.reg_desk_cli.specs.declared.failure.Failure.TheVariants as failure
use Rattle.reg_desk_service.specs.RegisterFailures.{IsOpenFailure}
use Rattle.reg_office.proofs.PublicLaws.{of_failure}
use Rattle.reg_store_tables.specs.Faults.{fault_of}
use Rattle.reg_store_tables.specs.declared.fault.DatabaseFault.{DatabaseFault}

-- a file's fault is one of the store
pub of_store : (fault other : Fault) → fault ≡ other → (other ≡ Memory) ⊎ (other ≡ Store) → IsOfStore fault
of_store fault other is which =
    let P : Fault → Type 0 = λ f. IsOfStore f in
    elim which [
      | inl memory ↦ subst P (sym (is ∙ memory)) tt
      | inr store ↦ subst P (sym (is ∙ store)) tt
    ]

-- a failure of the database ends an opening
pub opens_faulty : (fault : DatabaseFault) (why : Failure) → why ≡ failure.Fault (fault_of fault) → IsOpenFailure why
opens_faulty fault why is = subst IsOpenFailure (sym is) (of_failure IsOfStore tt tt fault)
