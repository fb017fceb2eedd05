-- Runs of commands.
use Rattle.std.specs.Prelude.{◌≡◌, ℕ, ◌<◌, List, [], ◌∷◌, None, Result, Ok, Err}
use Rattle.reg_core.specs.Checks.{clock_end}
use Rattle.reg_core.specs.Crls.{CertList}
use Rattle.reg_core.specs.Records.{Records}
use Rattle.reg_core.specs.Step.{Step, refusal}
use Rattle.reg_core.specs.declared.command.Command.{Command}
use Rattle.reg_core.specs.declared.command.Command.TheVariants.{Crl as IssueCrl}
use Rattle.reg_core.specs.declared.command.Reply.{Reply}
use Rattle.reg_core.specs.declared.refusal.Fault.{Fault}
use Rattle.reg_core.specs.declared.refusal.Fault.TheVariants.{Refused, Memory, Store, Signer, Read, Write}

-- the outcome of a command: that of its step; or a fault of memory or of the store; or, if the command issues a CRL and is not refused, a
-- fault of the signer. A fault leaves the records as they are. From the clock's end on (`clock_end`), a command is refused before memory or
-- the store is used, so neither fails then.
abbrev pub Happens : (CertList → List ℕ → Type 0) → Records → ℕ → Command
    → Result Reply Fault → Records → Type 0
Happens signed records now command (Ok reply) after = Step signed records now command (Ok reply) after
Happens signed records now command (Err (Refused refused)) after =
    Step signed records now command (Err (Refused refused)) after
Happens signed records now command (Err Memory) after = (now < clock_end) × (after ≡ records)
Happens signed records now command (Err Store) after = (now < clock_end) × (after ≡ records)
Happens signed records now command (Err Signer) after =
    (command ≡ IssueCrl) × (refusal records now command ≡ None) × (after ≡ records)
Happens signed records now command (Err Read) after = ⊥
Happens signed records now command (Err Write) after = ⊥

-- a run: one outcome for each command, in order
abbrev pub Run : (CertList → List ℕ → Type 0) → Records → List (ℕ × Command)
    → List (Result Reply Fault) → Records → Type 0
Run signed records [] [] after = after ≡ records
Run signed records [] (outcome ∷ outcomes) after = ⊥
Run signed records (timed ∷ commands) [] after = ⊥
Run signed records (timed ∷ commands) (outcome ∷ outcomes) after =
    (next : Records) × Happens signed records timed.0 timed.1 outcome next
    × Run signed next commands outcomes after
