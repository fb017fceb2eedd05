-- One step of a transaction after another.
use Rattle.std.proofs.Common.{◌≤◌, ℕ, List, Result, Ok, Err, IfOk, OnOk, IsTrue, refl, sym, subst, ◌∙◌, arith}
use Rattle.sqlite_value.specs.Order.{Row}
use Rattle.sqlite_trees.specs.View.{doubt}
use Rattle.sqlite_trees.specs.declared.store.Store.{Ghosts}
use Rattle.sqlite.specs.Effect.{Database}
use Rattle.sqlite.specs.Held.{state}
use Rattle.sqlite.specs.State.{State, HasCleanDisk, IsUnchanged}
use Rattle.sqlite.specs.declared.transaction.Transaction.{Transaction}
use Rattle.reg_store_tables.specs.Stays.{MayMove, Moves, Stepped, Ran}
use Rattle.reg_store_tables.specs.Steps.{IsUnderWay}

-- a statement that ran is a step, to tables of which this holds
pub moves : {sql : List ℕ} {params : Row} {old new : State} {count : ℕ} {P : Database → Type 0} → Ran sql params old new count → P new.now → Moves old new P
moves ran holds = record { was_open = ran.was_open; is_open = ran.is_open; committed = ran.committed; under_way = ran.under_way; tables = holds }

-- a step after a step
pub moves_on : {a b c : State} {P Q : Database → Type 0} → Moves a b P → Moves b c Q → Moves a c Q
moves_on first second = record {
  was_open = first.was_open;
  is_open = second.is_open;
  committed = second.committed ∙ first.committed;
  under_way = second.under_way;
  tables = second.tables;
}

-- what else holds of the tables
pub leading : {a b : State} {P Q : Database → Type 0} → Moves a b P → Q b.now → Moves a b Q
leading moved holds = record { was_open = moved.was_open; is_open = moved.is_open; committed = moved.committed; under_way = moved.under_way; tables = holds }

-- a step after steps, which may fail
pub then_moves : {T E : Type 0} (a b c : State) (P : Database → Type 0) (Q R : T → Database → Type 0) (r : Result T E) → Moves a b P → IfOk r (λ given. Moves b c (Q given))
    → ((given : T) → Q given c.now → R given c.now) → IfOk r (λ given. Moves a c (R given))
then_moves a b c P Q R (Ok given) first second leads = leading (moves_on first second) (leads given second.tables)
then_moves a b c P Q R (Err e) first second leads = tt

-- a step leads to what follows from what it leads to
pub moves_as : {T E : Type 0} (a b : State) (P Q : T → Database → Type 0) (r : Result T E) → IfOk r (λ given. Moves a b (P given)) → ((given : T) → P given b.now → Q given b.now) → IfOk r (λ given. Moves a b (Q given))
moves_as a b P Q (Ok given) moved leads = leading moved (leads given moved.tables)
moves_as a b P Q (Err e) moved leads = tt

-- a step leaves the transaction under way
pub under_way : {a b : State} {P : Database → Type 0} → Moves a b P → IsUnderWay b
under_way moved = (moved.is_open, moved.under_way)

-- no step is made
pub moves_in_place : {a : State} {P : Database → Type 0} → IsUnderWay a → P a.now → Moves a a P
moves_in_place under holds = record { was_open = under.0; is_open = under.0; committed = refl; under_way = under.1; tables = holds }

-- steps of which there may be none, in a transaction that is under way
pub may_move : {T E : Type 0} (a b : State) (P : Database → Type 0) (r : Result T E) → IsUnderWay a → IfOk r (λ _. MayMove a b P) → IfOk r (λ _. Moves a b P)
may_move a b P (Ok given) under moved =
    record { was_open = under.0; is_open = moved.is_open.0 under.0; committed = moved.committed; under_way = moved.under_way under.1; tables = moved.tables }
may_move a b P (Err e) under moved = tt

-- what an answer leaves is a step that changes nothing
pub stays_here : {a b : State} {P : Database → Type 0} → IsUnderWay a → IsUnchanged a b → P b.now → Moves a b P
stays_here under same holds = record { was_open = under.0; is_open = same.0.is_open; committed = same.0.committed_is; under_way = same.0.mode ∙ under.1; tables = holds }

-- a step after an answer, which may fail
pub asked_moves : {T E : Type 0} (a b c : State) (Q R : T → Database → Type 0) (r : Result T E) → IsUnchanged a b → IfOk r (λ given. Moves b c (Q given)) → ((given : T) → Q given c.now → R given c.now)
    → IfOk r (λ given. Moves a c (R given))
asked_moves a b c Q R (Ok given) same second leads =
    record { was_open = same.0.was_open; is_open = second.is_open; committed = second.committed ∙ same.0.committed_is; under_way = second.under_way; tables = leads given second.tables }
asked_moves a b c Q R (Err e) same second leads = tt

-- what holds while the connection is open still does
pub unchanged_before : (a b : State) (P : Database → Type 0) → IsUnchanged a b → (IsTrue a.is_open → P a.now) → IsTrue b.is_open → P b.now
unchanged_before a b P same before up = subst P (sym same.0.now_is) (before same.0.was_open)

-- the disk was clean before, if it is after
pub was_clean : (old new : State) → doubt old.is_clean ≤ doubt new.is_clean → HasCleanDisk new → HasCleanDisk old
was_clean old new forgets clean = omega arith

pub stepped_clean : {S : Type 0} {g : Ghosts S} {old new : Transaction S} → Stepped g old new → HasCleanDisk (state g new.conn.now) → HasCleanDisk (state g old.conn.now)
stepped_clean {g = g} {old = old} {new = new} stepped = was_clean (state g old.conn.now) (state g new.conn.now) stepped.survives.clean

pub ok_if : {A E : Type 0} (P : Type 0) (r : Result A E) → P → OnOk r P
ok_if P (Ok x) p = p
ok_if P (Err e) p = tt
