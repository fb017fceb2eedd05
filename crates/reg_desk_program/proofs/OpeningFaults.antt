-- The failure of a job that opens or creates a register, from the store's fault.
use Rattle.std.proofs.Common.{◌≡◌, ◌≢◌, ◌⊎◌, refl, sym, subst, inl, inr}
use Rattle.reg_desk_cli.specs.ExitStatus.{store_failure}
use Rattle.reg_desk_cli.specs.declared.failure.Failure.{Failure}
use Rattle.reg_store_tables.specs.Stays.{IsDatabaseFault}
use Rattle.reg_store_tables.specs.declared.fault.StoreFault.{StoreFault}
use Rattle.reg_store_tables.specs.declared.fault.StoreFault.TheVariants as stored
use Rattle.reg_desk_service.specs.RegisterFailures.{IsCreateFailure, IsOpenFailure}

-- a register that can't be opened
pub opened : (fault : StoreFault) (why : Failure) → why ≡ store_failure fault → fault ≢ stored.NotEmpty → IsOpenFailure why
opened fault why is other =
    let P : Failure → Type 0 = λ w. IsOpenFailure w in
    subst P (sym is) (go fault other)
  where
    go : (f : StoreFault) → f ≢ stored.NotEmpty → IsOpenFailure (store_failure f)
    go stored.NotEmpty not = absurd (not refl)
    go other not = tt

-- a register that can't be created
pub not_created : (fault : StoreFault) (why : Failure) → why ≡ store_failure fault → (fault ≡ stored.NotEmpty) ⊎ IsDatabaseFault fault → IsCreateFailure why
not_created fault why is which =
    let P : Failure → Type 0 = λ w. IsCreateFailure w in
    let Q : StoreFault → Type 0 = λ f. IsCreateFailure (store_failure f) in
    subst P (sym is) (elim which [
      | inl taken ↦ subst Q (sym taken) tt
      | inr (inl memory) ↦ subst Q (sym memory) tt
      | inr (inr store) ↦ subst Q (sym store) tt
    ])
