-- The faults that calls of the office return.
use Rattle.std.specs.Prelude.{◌≡◌, ◌⊎◌}
use Rattle.reg_core.specs.declared.refusal.Fault.{Fault}
use Rattle.reg_core.specs.declared.refusal.Fault.TheVariants.{Refused, Memory, Store, Signer, Read, Write}

-- a refusal, out of memory, or a failure of the store
abbrev pub IsTableFault : Fault → Type 0
IsTableFault (Refused why) = Unit {0}
IsTableFault Memory = Unit {0}
IsTableFault Store = Unit {0}
IsTableFault Signer = ⊥
IsTableFault Read = ⊥
IsTableFault Write = ⊥

-- a refusal, out of memory, or a failure of the store or of the signer
abbrev pub IsOfficeFault : Fault → Type 0
IsOfficeFault (Refused why) = Unit {0}
IsOfficeFault Memory = Unit {0}
IsOfficeFault Store = Unit {0}
IsOfficeFault Signer = Unit {0}
IsOfficeFault Read = ⊥
IsOfficeFault Write = ⊥

-- out of memory, or a failure of the signer
abbrev pub IsSigningFault : Fault → Type 0
IsSigningFault fault = (fault ≡ Memory) ⊎ (fault ≡ Signer)

-- out of memory, or a failure of the store or of the signer: why a CRL is not made
abbrev pub IsMakingFault : Fault → Type 0
IsMakingFault Memory = Unit {0}
IsMakingFault Store = Unit {0}
IsMakingFault Signer = Unit {0}
IsMakingFault other = ⊥
