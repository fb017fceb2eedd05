use Rattle.std.proofs.Common.{◌≡◌, ℕ, Bool, true, false, List, Ok, Err, IsTrue, refl}
use Rattle.sqlite_value.specs.Order.{Row}
use Rattle.sqlite.specs.declared.error.Error.{Error}
use Rattle.sqlite.specs.Held.{state}
use Rattle.sqlite.specs.State.{State, ExecutesInside}
use Rattle.reg_store_tables.specs.Stays.{Ran}
use Rattle.reg_store_tables.proofs.write_statements.write.Goals as goal

inside : (b : Bool) (count : ℕ) (e : Error) → (b ≡ false → Ok count ≡ Err e) → IsTrue b
inside true count e fails = refl
inside false count e fails = absurd (let h = fails refl in cc)

ran : (old new : State) (sql : List ℕ) (params : Row) (count : ℕ) → IsTrue old.in_transaction → (IsTrue old.in_transaction → ExecutesInside 0 sql params old new (Ok count)) → Ran sql params old new count
ran old new sql params count under runs =
    let it = runs under in
    record { was_open = it.1.was_open; is_open = it.1.is_open; committed = it.1.committed_is; under_way = it.1.mode; ran = it.0 }

pub returns-clause-ran : goal.returns-clause-ran
returns-clause-ran g c clean =
    let old = state g.S.Store c.args.tx.now.conn.now in
    let new = state g.S.Store c.execute.new.self.conn.now in
    let under : IsTrue old.in_transaction = inside old.in_transaction c.in_ok-execute.field-0 _ (λ out. (c.in_ok-execute.ensures.ended out).0) in
    ran old new _ _ c.in_ok-execute.field-0 under (c.in_ok-execute.ensures.runs clean)
