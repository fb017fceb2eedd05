-- The texts that begin and end a transaction.
use Rattle.std.specs.Prelude.{IsErr, OnErr, OnOk}
use Rattle.std.proofs.Common.{◌≡◌, ◌⊎◌, ◌≤◌, inl, inr, ℕ, Bool, true, false, List, [], Option, None, Result, Ok, Err, IsTrue, refl, sym, ap, subst, ◌∙◌, arith}
use Rattle.std.proofs.lemmas.Bool.{false≢true}
use Rattle.sqlite_value.specs.Order.{Row}
use Rattle.sqlite_trees.specs.Tree.{Trees}
use Rattle.sqlite_schema.specs.declared.command.Command.{Command}
use Rattle.sqlite_schema.specs.declared.command.Command.TheVariants.{Begin}
use Rattle.sqlite_schema.specs.declared.command.Returning.{Returning}
use Rattle.sqlite_schema.specs.declared.schema.Schema.{Schema}
use Rattle.sqlite_trees.specs.declared.store.Store.{Ghosts}
use Rattle.sqlite.specs.declared.error.Error.{Error}
use Rattle.sqlite.specs.Given.{IsPlain}
use Rattle.sqlite.specs.Held.{Held, state}
use Rattle.sqlite.specs.Listing.{understood}
use Rattle.sqlite.specs.State.{State, HasCleanDisk, Executes, CommitsBy, MayCommit, Runs, Survives}
use Rattle.sqlite.proofs.Callers.{runs_as, statement_of}
use Rattle.sqlite.proofs.StateLemmas.{survives_weaker}
use Rattle.sqlite_tied.specs.Compute.{everything}
use Rattle.reg_store_tables.specs.ReadStatements.{command_of}
use Rattle.reg_store_tables.specs.Stays.{LeavesNothing, Stays}
use Rattle.reg_store_tables.proofs.PublicLaws.{Remains, stays_by}
use Rattle.reg_store_changes.specs.declared.sql.TheConstants.{BEGIN}
use Rattle.reg_store_changes.specs.WithinTransactions.{BeginsTransaction, IsTransactionBegun}
use Rattle.reg_store_changes.proofs.Within.{failed_remains}

begin_plain : (schema : Schema) → IsPlain (understood schema BEGIN.now)
unfolding understood everything
begin_plain schema = (refl, refl)

begin_is : (schema : Schema) → command_of (understood schema BEGIN.now) ≡ Begin
unfolding understood everything
begin_is schema = refl

pub begun : (old new : State) (count : ℕ) → Executes BEGIN.now [] old new (Ok count) → IsTransactionBegun old new
begun old new count ran =
    let schema = old.now.schema in
    let it : Runs old new None Begin (statement_of BEGIN.now (understood schema BEGIN.now)) [] count = runs_as BEGIN.now [] old new schema refl Begin (begin_is schema) (begin_plain schema) count ran in
    record { was_idle = it.0; was_open = it.1.was_open; is_open = it.1.is_open; now = it.1.now_is; committed = it.1.committed_is; under_way = it.1.mode }

abbrev begins : Command → Bool
begins Begin = true
begins command = false

may_begin : (s : State) (returning : Option Returning) (command : Command) (text : List ℕ) (params : Row) (db : Trees) → command ≡ Begin → returning ≡ None → MayCommit s returning command text params db → ⊥
may_begin s returning command text params db is none (inl (inl other, same)) = false≢true (ap begins (sym other ∙ is))
may_begin s returning command text params db is none (inl (inr it, same)) = false≢true (ap begins (sym it.2 ∙ is))
may_begin s returning command text params db is none (inr may) = let does = rw (is, none) at may.3 in let bad : ⊥ = cc in bad

never_begins : (s : State) (db : Trees) → CommitsBy BEGIN.now [] s db → ⊥
unfolding CommitsBy
never_begins s db h =
    may_begin s _ h.0.command _ _ db (ap command_of (sym h.1.is) ∙ begin_is s.now.schema) (subst IsPlain h.1.is (begin_plain s.now.schema)).0 h.2

pub begun_survives : (old new : State) → Survives old new (CommitsBy BEGIN.now [] old) → LeavesNothing old new
begun_survives old new survives = survives_weaker old new (CommitsBy BEGIN.now [] old) (λ _. ⊥) (λ clean db commits. never_begins old db commits) survives

-- where a failed text leaves the state, it begins no transaction
remains_idle : (old new : State) → Remains old new → old.in_transaction ≡ false → new.in_transaction ≡ false
remains_idle old new (inl same) was = same.0.mode ∙ was
remains_idle old new (inr back) was = back.autocommit

-- ---- the call

pub on_any : {T E X : Type 0} (r : Result T E) → X → OnErr r X
on_any (Ok x) holds = tt
on_any (Err e) holds = holds

pub no_ok : {T E : Type 0} (X : Type 0) (r : Result T E) → IsErr r → OnOk r X
no_ok X (Ok x) failed = absurd (false≢true failed)
no_ok X (Err e) failed = tt

pub leaves_itself : (s : State) → LeavesNothing s s
leaves_itself s = record { clean = omega arith; shield = λ shielded. shielded; counts = omega arith; limit = refl; closes = λ clean up. inl up; crash = λ clean trees may. inl may }

-- a transaction that was under way before is none that begins
pub not_begun : {S T E : Type 0} {g : Ghosts S} (h : Held S) (r : Result T E) → IsErr r → BeginsTransaction g h h r
not_begun {g = g} h r failed = record {
  ok = λ clean. no_ok _ r failed;
  stays = on_any r (record { was_open = λ clean up. up; now = λ clean up. inl refl; committed = λ clean up. refl });
  idle = on_any r (λ clean was. was);
  survives = leaves_itself (state g h);
}

pub fails_to_begin : {S T E : Type 0} {g : Ghosts S} (old new : Held S) (r : Result T E) → IsErr r → (e : Error) → (HasCleanDisk (state g new) → Executes BEGIN.now [] (state g old) (state g new) (Err e))
    → Survives (state g old) (state g new) (CommitsBy BEGIN.now [] (state g old)) → BeginsTransaction g old new r
fails_to_begin {g = g} old new r failed e fails survives =
    let remains : HasCleanDisk (state g new) → Remains (state g old) (state g new) = λ clean. failed_remains (state g old) (state g new) BEGIN.now [] e (fails clean) in
    record {
      ok = λ clean. no_ok _ r failed;
      stays = on_any r (stays_by (state g old) (state g new) remains);
      idle = on_any r (λ clean was. remains_idle (state g old) (state g new) (remains clean) was);
      survives = begun_survives (state g old) (state g new) survives;
    }

pub has_begun : {S : Type 0} {g : Ghosts S} {E : Type 0} (old new : Held S) (count : ℕ) → (HasCleanDisk (state g new) → Executes BEGIN.now [] (state g old) (state g new) (Ok count))
    → Survives (state g old) (state g new) (CommitsBy BEGIN.now [] (state g old)) → BeginsTransaction {T = Unit {0}} {E = E} g old new (Ok tt)
has_begun {g = g} old new count runs survives = record {
  ok = λ clean. begun (state g old) (state g new) count (runs clean);
  stays = tt;
  idle = tt;
  survives = begun_survives (state g old) (state g new) survives;
}
