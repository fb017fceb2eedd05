-- How a check fails.
use Rattle.std.specs.Prelude.{Option, Result, IfErr, MatchOption}
use Rattle.reg_audit.specs.declared.check_fault.CheckFault.{CheckFault}
use Rattle.reg_audit.specs.declared.check_fault.CheckFault.TheVariants.{Memory, Broken}

-- the fault is a row that breaks a rule, not out of memory
abbrev pub IsBroken : CheckFault → Type 0
IsBroken Memory = ⊥
IsBroken (Broken broken) = Unit {0}

-- the result is not a row that breaks a rule
abbrev pub NotBroken : {T : Type 0} → Result T CheckFault → Type 0
NotBroken result = IfErr result (λ fault. ¬ IsBroken fault)

-- there is no defect exactly if the rule holds
abbrev pub NoDefectIff : {D : Type 0} → Type 0 → Option D → Type 0
NoDefectIff Holds defect = MatchOption defect Holds (λ _. ¬ Holds)

-- if a check ends at a row that breaks a rule, `Holds` is false
abbrev pub NotBrokenIf : {T : Type 0} → Type 0 → Result T CheckFault → Type 0
NotBrokenIf Holds result = IfErr result (λ fault. IsBroken fault → ¬ Holds)
