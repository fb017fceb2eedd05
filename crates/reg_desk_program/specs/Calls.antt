-- Statements about the machine's calls.
use Rattle.std.specs.Prelude.{◌≡◌, Bool, true, false, Result, Ok, Err}
use Rattle.reg_core.specs.declared.memory.Memory.{Memory as NoMemory}
use Rattle.reg_desk_files.specs.declared.file.ClaimFault.{ClaimFault}
use Rattle.reg_desk_files.specs.declared.file.ClaimFault.TheVariants as claim

-- a call was made with these arguments: always true, since no clause can state what the call did outside the program
abbrev pub Unspecified : {A : Type 0} → A → Type 0
Unspecified arguments = arguments ≡ arguments

-- whether a path was claimed
abbrev pub is_claimed : Result (Unit {0}) ClaimFault → Result Bool NoMemory
is_claimed (Ok done) = Ok true
is_claimed (Err claim.Memory) = Err (record {})
is_claimed (Err (claim.Taken cause)) = Ok false
