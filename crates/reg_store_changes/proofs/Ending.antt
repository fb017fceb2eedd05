-- The end of a transaction that is committed.
use Rattle.std.specs.Prelude.{IsErr, OnErr, OnOk}
use Rattle.std.proofs.Common.{◌≡◌, ◌⊎◌, ◌≤◌, inl, inr, ℕ, Bool, true, false, List, [], Option, None, Result, Ok, Err, IsTrue, refl, sym, ap, subst, ◌∙◌, arith}
use Rattle.std.proofs.lemmas.Bool.{false≢true}
use Rattle.sqlite_value.specs.Order.{Row}
use Rattle.sqlite_trees.specs.Tree.{Trees}
use Rattle.sqlite_trees.specs.declared.store.Store.{Ghosts}
use Rattle.sqlite_schema.specs.declared.command.Command.{Command}
use Rattle.sqlite_schema.specs.declared.command.Command.TheVariants.{Commit}
use Rattle.sqlite_schema.specs.declared.command.Returning.{Returning}
use Rattle.sqlite_schema.specs.declared.schema.Schema.{Schema}
use Rattle.sqlite.specs.declared.error.Error.{Error}
use Rattle.sqlite.specs.Given.{IsPlain}
use Rattle.sqlite.specs.Held.{Held, state}
use Rattle.sqlite.specs.Listing.{understood}
use Rattle.sqlite.specs.State.{State, HasCleanDisk, Executes, CommitsBy, MayCommit, Runs, Shows, Survives}
use Rattle.sqlite.proofs.Callers.{runs_as, statement_of}
use Rattle.sqlite.proofs.StateLemmas.{survives_then, survives_weaker}
use Rattle.sqlite_tied.specs.Compute.{everything}
use Rattle.reg_store_tables.specs.ReadStatements.{command_of}
use Rattle.reg_store_tables.proofs.PublicLaws.{Remains, remains_committed, remains_open}
use Rattle.reg_store_changes.specs.declared.sql.TheConstants.{COMMIT}
use Rattle.reg_store_changes.specs.WithinTransactions.{CommitsWithin, IsUndone, RollsBack}
use Rattle.reg_store_changes.proofs.Beginning.{leaves_itself, no_ok, on_any}
use Rattle.reg_store_changes.proofs.RollingBack.{none_undone}
use Rattle.reg_store_changes.proofs.Within.{failed_remains, was_clean}

commit_plain : (schema : Schema) → IsPlain (understood schema COMMIT.now)
unfolding understood everything
commit_plain schema = (refl, refl)

commit_is : (schema : Schema) → command_of (understood schema COMMIT.now) ≡ Commit
unfolding understood everything
commit_is schema = refl

committed : (old new : State) (count : ℕ) → Executes COMMIT.now [] old new (Ok count) → Shows old new old.now old.now false
committed old new count ran =
    let schema = old.now.schema in
    let it : Runs old new None Commit (statement_of COMMIT.now (understood schema COMMIT.now)) [] count =
    runs_as COMMIT.now [] old new schema refl Commit (commit_is schema) (commit_plain schema) count ran in
    it.1

-- it commits what the transaction wrote
what_commits : (s : State) (returning : Option Returning) (command : Command) (text : List ℕ) (params : Row) (db : Trees) → s.in_transaction ≡ true → MayCommit s returning command text params db → db ≡ s.now.trees
what_commits s returning command text params db under (inl (which, same)) = same
what_commits s returning command text params db under (inr may) = absurd (false≢true (sym may.0 ∙ under))

commits_by : (s : State) (db : Trees) → s.in_transaction ≡ true → CommitsBy COMMIT.now [] s db → db ≡ s.now.trees
unfolding CommitsBy
commits_by s db under h = what_commits s _ _ _ _ db under h.2

survives_commit : (old new : State) → old.in_transaction ≡ true → Survives old new (CommitsBy COMMIT.now [] old) → Survives old new (λ trees. trees ≡ old.now.trees)
survives_commit old new under survives = survives_weaker old new (CommitsBy COMMIT.now [] old) (λ trees. trees ≡ old.now.trees) (λ clean db commits. commits_by old db under commits) survives

-- ---- the call

-- a failure had ended the transaction
pub none_committed : {S T E : Type 0} {g : Ghosts S} (h : Held S) (r : Result T E) → IsErr r → h.in_transaction ≡ false → (IsTrue (state g h).is_open → (state g h).now ≡ (state g h).committed) → CommitsWithin g h h r
none_committed {g = g} h r failed idle settled = record {
  made = λ clean. no_ok _ r failed;
  undone = λ clean. on_any r (none_undone (state g h) idle settled);
  survives = survives_weaker (state g h) (state g h) (λ _. ⊥) (λ trees. trees ≡ (state g h).now.trees) (λ clean db none. absurd none) (leaves_itself (state g h));
}

pub is_committed : {S : Type 0} {g : Ghosts S} {E : Type 0} (old new : Held S) (count : ℕ) → (state g old).in_transaction ≡ true → (HasCleanDisk (state g new) → Executes COMMIT.now [] (state g old) (state g new) (Ok count))
    → Survives (state g old) (state g new) (CommitsBy COMMIT.now [] (state g old)) → CommitsWithin {T = Unit {0}} {E = E} g old new (Ok tt)
is_committed {g = g} old new count under runs survives = record {
  made = λ clean. committed (state g old) (state g new) count (runs clean);
  undone = λ clean. tt;
  survives = survives_commit (state g old) (state g new) under survives;
}

pub fails_to_commit : {S T E : Type 0} {g : Ghosts S} (old mid new : Held S) (r : Result T E) → IsErr r → (e : Error) → (state g old).in_transaction ≡ true
    → (HasCleanDisk (state g mid) → Executes COMMIT.now [] (state g old) (state g mid) (Err e)) → Survives (state g old) (state g mid) (CommitsBy COMMIT.now [] (state g old)) → RollsBack g mid new
    → CommitsWithin g old new r
fails_to_commit {g = g} old mid new r failed e under fails survives rolls =
    let remains : HasCleanDisk (state g new) → Remains (state g old) (state g mid) = λ clean. failed_remains (state g old) (state g mid) COMMIT.now [] e (fails (was_clean (state g mid) (state g new) rolls.survives.clean clean)) in
    record {
      made = λ clean. no_ok _ r failed;
      undone = λ clean. on_any r (record {
        idle = (rolls.undone clean).idle;
        was_open = λ up. remains_open (state g old) (state g mid) (remains clean) ((rolls.undone clean).was_open up);
        now = λ up. (rolls.undone clean).now up ∙ remains_committed (state g old) (state g mid) (remains clean) ((rolls.undone clean).was_open up);
        committed = λ up. (rolls.undone clean).committed up ∙ remains_committed (state g old) (state g mid) (remains clean) ((rolls.undone clean).was_open up);
      });
      survives =
          survives_then (state g old) (state g mid) (state g new) (λ trees. trees ≡ (state g old).now.trees) (λ _. ⊥) (λ trees. trees ≡ (state g old).now.trees) (λ clean db is. is) (λ clean db none. absurd none)
          (survives_commit (state g old) (state g mid) under survives) rolls.survives;
    }
