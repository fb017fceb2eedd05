-- Tables that are read one after another.
use Rattle.std.proofs.Common.{◌≡◌, ◌<◌, ◌≤◌, ◌+◌, ℕ, zero, suc, List, [], ◌∷◌, ◌++◌, take, length, get_or, sym, ap, subst, ◌∙◌, arith}
use Rattle.std.proofs.lemmas.List.{take_more}
use Rattle.sqlite_value.specs.Order.{Row}
use Rattle.sqlite_trees.specs.declared.store.Store.{Ghosts}
use Rattle.sqlite.specs.Effect.{Database}
use Rattle.sqlite.specs.Held.{Held, state}
use Rattle.reg_store_tables.specs.Schema.{register_schema}
use Rattle.reg_store_tables.specs.Shows.{Holds}
use Rattle.reg_store_tables.specs.Stays.{IsRegister}
use Rattle.reg_audit.specs.ReadQueries.{AreEach}
use Rattle.reg_audit.specs.declared.sql.AuditQuery.{AuditQuery}

module _ {Rows : Type 0} (Is : AuditQuery → List Row → Type 0) (items : Rows → List Row) where
  with_last : (whats : List AuditQuery) (what : AuditQuery) (all : List Rows) (rows : Rows) → AreEach Is whats all items → Is what (items rows) → AreEach Is (whats ++ what ∷ []) (all ++ rows ∷ []) items
  with_last [] what [] rows are is = (is, tt)
  with_last [] what (other ∷ all) rows are is = absurd are
  with_last (first ∷ whats) what [] rows are is = absurd are
  with_last (first ∷ whats) what (other ∷ all) rows are is = (are.0, with_last whats what all rows are.1 is)

  -- one table more is read
  pub are_more : (whats : List AuditQuery) (i : ℕ) (other : AuditQuery) (all new : List Rows) (rows : Rows) → i < length whats → AreEach Is (take i whats) all items → Is (get_or whats i other) (items rows)
      → new ≡ all ++ rows ∷ [] → AreEach Is (take (i + 1) whats) new items
  are_more whats i other all new rows within are is now =
      let what = get_or whats i other in
      let more : take (i + 1) whats ≡ take i whats ++ what ∷ [] = take_more whats i other within in
      subst (λ (ws : List AuditQuery). AreEach Is ws new items) (sym more) (subst (λ (vs : List Rows). AreEach Is (take i whats ++ what ∷ []) vs items) (sym now) (with_last (take i whats) what all rows are is))

  -- the rows that stand at a place are what is read there
  pub read_at : (whats : List AuditQuery) (i : ℕ) (other : AuditQuery) (all : List Rows) (rows : Rows) → AreEach Is whats all items → i < length whats → i < length all → rows ≡ get_or all i rows → Is (get_or whats i other) (items rows)
  read_at [] i other all rows are within there is = absurd (omega arith)
  read_at (what ∷ whats) i other [] rows are within there is = absurd are
  read_at (what ∷ whats) zero other (first ∷ all) rows are within there is = subst (λ v. Is what (items v)) (sym is) are.0
  read_at (what ∷ whats) (suc i) other (first ∷ all) rows are within there is = read_at whats i other all rows are.1 (omega arith) (omega arith) is

  -- and rows stand there
  pub there_are : (whats : List AuditQuery) (i : ℕ) (all : List Rows) → AreEach Is whats all items → i < length whats → length all ≤ i → ⊥
  there_are [] i all are within past = omega arith
  there_are (what ∷ whats) i [] are within past = are
  there_are (what ∷ whats) zero (first ∷ all) are within past = omega arith
  there_are (what ∷ whats) (suc i) (first ∷ all) are within past = there_are whats i all are.1 (omega arith) (omega arith)

-- ---- tables that are these

-- those of a register are a register's
pub holds_register : {S : Type 0} (g : Ghosts S) (h : Held S) (db : Database) → Holds g h (λ now. now ≡ db) → db.schema ≡ register_schema → IsRegister (state g h)
holds_register g h db holds schema = record {
  now = λ clean up. ap (λ (d : Database). d.schema) (holds.tables clean up) ∙ schema;
  committed = λ clean up. ap (λ (d : Database). d.schema) (sym (holds.saved clean up) ∙ holds.tables clean up) ∙ schema;
}
