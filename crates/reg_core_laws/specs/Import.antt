-- Imports: rows that are registered one after another, at one moment.
use Rattle.std.specs.Prelude.{◌≡◌, ℕ, ◌⊎◌, List, [], ◌∷◌, Option, Some, None, Result, Ok, Err}
use Rattle.std.specs.List.{AllByRecursion, AllZip}
use Rattle.reg_core.specs.Crls.{CertList}
use Rattle.reg_core.specs.Records.{Records}
use Rattle.reg_core.specs.Sound.{Sound}
use Rattle.reg_core.specs.declared.rows.CertRow.{CertRow}
use Rattle.reg_core.specs.declared.command.Command.{Command}
use Rattle.reg_core.specs.declared.command.Command.TheVariants.{Register}
use Rattle.reg_core.specs.declared.command.Reply.{Reply}
use Rattle.reg_core.specs.declared.command.Reply.TheVariants.{Registered, Same}
use Rattle.reg_core.specs.declared.refusal.Refusal.TheVariants.{Syntax}
use Rattle.reg_core.specs.declared.refusal.Fault.{Fault}
use Rattle.reg_core.specs.declared.refusal.Fault.TheVariants.{Refused, Memory, Store, Signer, Read, Write}
use Rattle.reg_core_laws.specs.Run.{Happens}

-- the command that registers a row
abbrev pub register : CertRow → Command
register row = Register row.order row.serial row.not_before row.not_after

-- the outcome of each row, in order, at one moment; a row that can't be read (`None`) is refused with `Syntax`
abbrev pub Imports : (CertList → List ℕ → Type 0) → Records → ℕ → List (Option CertRow)
    → List (Result Reply Fault) → Records → Type 0
Imports signed records now [] [] after = after ≡ records
Imports signed records now [] (outcome ∷ outcomes) after = ⊥
Imports signed records now (row ∷ rows) [] after = ⊥
Imports signed records now (None ∷ rows) (outcome ∷ outcomes) after =
    (outcome ≡ Err (Refused Syntax)) × Imports signed records now rows outcomes after
Imports signed records now (Some row ∷ rows) (outcome ∷ outcomes) after =
    (next : Records) × Happens signed records now (register row) outcome next
    × Imports signed next now rows outcomes after

-- a fault of memory, store, signer, input or output
abbrev pub IsFault : Result Reply Fault → Type 0
IsFault (Ok reply) = ⊥
IsFault (Err (Refused refusal)) = ⊥
IsFault (Err Memory) = Unit {0}
IsFault (Err Store) = Unit {0}
IsFault (Err Signer) = Unit {0}
IsFault (Err Read) = Unit {0}
IsFault (Err Write) = Unit {0}

-- a row with the outcome `Registered` or `Same` the first time gets `Same` the second time, or a fault
abbrev pub AnsweredAgain : Result Reply Fault → Result Reply Fault → Type 0
AnsweredAgain first second = (first ≡ Ok Registered) ⊎ (first ≡ Ok Same) → (second ≡ Ok Same) ⊎ IsFault second

-- if an import without a fault is repeated at the same moment, with nothing between, the second one adds no certificate, and the
-- outcome of each row is as `AnsweredAgain` says
abbrev pub ImportsTwice : (CertList → List ℕ → Type 0) → Type 0
ImportsTwice signed =
    (records between after : Records)
    (now : ℕ)
    (rows : List (Option CertRow))
    (first second : List (Result Reply Fault))
    → Sound signed records
    → Imports signed records now rows first between
    → AllByRecursion (λ outcome. IsFault outcome → ⊥) first
    → Imports signed between now rows second after
    → (after.certificates ≡ between.certificates) × AllZip AnsweredAgain first second
