-- A call of an office that is not made.
use Rattle.std.proofs.Common.{ℕ, List, Err, refl}
use Rattle.reg_office_api.specs.declared.office.Office.{Ghosts as Office}
use Rattle.reg_office_api.proofs.PublicLaws.{stays}
use Rattle.reg_core.specs.declared.memory.Memory.{Memory as NoMemory}
use Rattle.reg_lines.specs.ByCalls.{LineCalls, responded}

-- an OCSP request that is not asked, because out of memory, is one that was given nothing
pub unasked : {O : Type 0} (office : Office O) (s : O) (now : ℕ) (request : List ℕ) (memory : NoMemory)
    → LineCalls office s now (responded request (Err memory)) s
unasked office s now request memory = (stays office.is_clean office.stands s s refl, (λ failed. absurd failed))
