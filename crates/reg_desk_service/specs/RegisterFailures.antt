-- The failures to create and to open a register.
use Rattle.reg_office_api.specs.LookUps.{IsOfStore}
use Rattle.reg_desk_cli.specs.declared.failure.Failure.{Failure}
use Rattle.reg_desk_cli.specs.declared.failure.Failure.TheVariants as failure

-- to create one: out of memory, a failure of the store, or a file that has tables already
abbrev pub IsCreateFailure : Failure → Type 0
IsCreateFailure (failure.Fault fault) = IsOfStore fault
IsCreateFailure failure.NotEmpty = Unit {0}
IsCreateFailure other = ⊥

-- to open one: out of memory, a failure of the store, a file without a register, a register of a newer version, `bad-signer` or `bad-responder`
abbrev pub IsOpenFailure : Failure → Type 0
IsOpenFailure (failure.Fault fault) = IsOfStore fault
IsOpenFailure failure.NotARegister = Unit {0}
IsOpenFailure failure.NewVersion = Unit {0}
IsOpenFailure failure.BadSigner = Unit {0}
IsOpenFailure failure.BadResponder = Unit {0}
IsOpenFailure other = ⊥

-- to check or copy a file: out of memory, a failure of the store, or a file without a register
abbrev pub IsReadFailure : Failure → Type 0
IsReadFailure (failure.Fault fault) = IsOfStore fault
IsReadFailure failure.NotARegister = Unit {0}
IsReadFailure other = ⊥
