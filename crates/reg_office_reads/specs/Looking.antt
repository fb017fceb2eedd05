-- Decisions by rows that are looked up.
use Rattle.std.specs.Prelude.{◌≡◌, ℕ, [], ◌++◌, Option, None, Some, Result, Ok, Err, IfErr}
use Rattle.sqlite_trees.specs.declared.store.Store.{Ghosts}
use Rattle.sqlite.specs.Held.{Held}
use Rattle.reg_core.specs.Changes.{Fits, changed_by}
use Rattle.reg_core.specs.Checks.{clock_checks, first_refusal}
use Rattle.reg_core.specs.Queries.{query_checks, query_reply}
use Rattle.reg_core.specs.Records.{Records}
use Rattle.reg_core.specs.Step.{changed, refusal, reply}
use Rattle.reg_core.specs.declared.change.Change.{Change}
use Rattle.reg_core.specs.declared.command.Command.{Command}
use Rattle.reg_core.specs.declared.command.Query.{Query}
use Rattle.reg_core.specs.declared.command.Reply.{Reply}
use Rattle.reg_core.specs.declared.refusal.Fault.{Fault}
use Rattle.reg_core.specs.declared.refusal.Fault.TheVariants.{Refused, Memory, Store, Signer, Read, Write}
use Rattle.reg_core.specs.declared.refusal.Refusal.{Refusal}
use Rattle.reg_store_tables.specs.LookUps.{LooksUp}
use Rattle.reg_office_reads.specs.Faults.{IsTableFault}

-- a decision, of which `IsDecision` holds; or the refusal that applies; any other fault says nothing of the records
abbrev pub IsDecidedOr : {T : Type 0} → Option Refusal → (T → Type 0) → Result T Fault → Type 0
IsDecidedOr refused IsDecision (Ok decided) = IsDecision decided
IsDecidedOr refused IsDecision (Err (Refused why)) = refused ≡ Some why
IsDecidedOr refused IsDecision (Err Memory) = Unit {0}
IsDecidedOr refused IsDecision (Err Store) = Unit {0}
IsDecidedOr refused IsDecision (Err Signer) = Unit {0}
IsDecidedOr refused IsDecision (Err Read) = Unit {0}
IsDecidedOr refused IsDecision (Err Write) = Unit {0}

-- look-ups, and a decision over their results: the refusal that applies to the records, the decision, or the fault `Memory` or `Store`
pub record LooksAndDecides {C T : Type 0} (g : Ghosts C) (old new : Held C)
    (refused : Records → Option Refusal) (IsDecision : Records → T → Type 0)
    (result : Result T Fault) : Type 0 where
  pub looks : LooksUp g old new (λ records. IsDecidedOr (refused records) (IsDecision records) result)
  pub faults : IfErr result IsTableFault

-- no refusal applies to the command; this is its reply, and the one change that it makes to the records; `Fits` holds of the change
pub record IsAcceptance (now : ℕ) (command : Command) (records : Records)
    (decided : Reply × Change) : Type 0 where
  pub accepted : refusal records now command ≡ None
  pub replies : reply records now command ≡ decided.0
  pub changes : changed records now command [] ≡ changed_by records now decided.1
  pub fits : Fits records now decided.1

-- the decision on a command at a moment: the refusal that applies, or its reply and change
abbrev pub DecidesCommand : {C : Type 0} → Ghosts C → Held C → Held C → ℕ → Command
    → Result (Reply × Change) Fault → Type 0
DecidesCommand g old new now command result =
    LooksAndDecides g old new (λ records. refusal records now command) (IsAcceptance now command) result

-- the refusal of a moment by the clock checks
abbrev pub clock_refusal : Records → ℕ → Option Refusal
clock_refusal records now = first_refusal (clock_checks now records.last)

-- the refusal that applies to a query at a moment: by the clock checks, or else by those of the query
abbrev pub query_refusal : Records → ℕ → Query → Option Refusal
query_refusal records now query = first_refusal (clock_checks now records.last ++ query_checks records query)

-- the answer to a query at a moment: the refusal that applies, or the reply if none applies
abbrev pub AnswersQuery : {C : Type 0} → Ghosts C → Held C → Held C → ℕ → Query → Result Reply Fault → Type 0
AnswersQuery g old new now query result =
    LooksAndDecides g old new
    (λ records. query_refusal records now query)
    (λ records reply. (query_refusal records now query ≡ None) × (query_reply records now query ≡ reply))
    result
