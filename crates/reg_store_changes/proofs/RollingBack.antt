-- The end of a transaction that is rolled back.
use Rattle.std.specs.Prelude.{◌&&◌, ◌||◌, is_some, not}
use Rattle.std.proofs.Common.{◌≡◌, ◌⊎◌, ◌≤◌, inl, inr, ℕ, Bool, true, false, List, [], Option, None, Result, Ok, Err, IsTrue, refl, sym, ap, subst, ◌∙◌, arith}
use Rattle.std.proofs.lemmas.Bool.{cases_Bool, false≢true}
use Rattle.sqlite_value.specs.Order.{Row}
use Rattle.sqlite_trees.specs.Tree.{Trees}
use Rattle.sqlite_trees.specs.declared.store.Store.{Ghosts}
use Rattle.sqlite_schema.specs.declared.command.Command.{Command}
use Rattle.sqlite_schema.specs.declared.command.Command.TheVariants.{Rollback}
use Rattle.sqlite_schema.specs.declared.command.Returning.{Returning}
use Rattle.sqlite_schema.specs.declared.schema.Schema.{Schema}
use Rattle.sqlite.specs.declared.error.Error.{Error}
use Rattle.sqlite_resolve.specs.declared.compiled.Compiled.{Compiled}
use Rattle.sqlite.specs.Calls.{IsWrite}
use Rattle.sqlite.specs.Effect.{is_query}
use Rattle.sqlite.specs.Given.{IsPlain}
use Rattle.sqlite.specs.Held.{Held, state}
use Rattle.sqlite.specs.Listing.{understood}
use Rattle.sqlite.specs.State.{State, HasCleanDisk, Executes, ExecutesIn, CommitsBy, IsMisplaced, IsNotRun, IsNoStatement, IsRolledBack, IsUnchanged, MayChange, MayCommit, Runs, RunsCommand, Survives, is_pragma, shows_rows}
use Rattle.sqlite.proofs.Callers.{runs_as, statement_of}
use Rattle.sqlite.proofs.StateLemmas.{survives_weaker}
use Rattle.sqlite_tied.specs.Compute.{everything}
use Rattle.reg_store_tables.specs.Failing.{IsOneStatement}
use Rattle.reg_store_tables.specs.ReadStatements.{command_of}
use Rattle.reg_store_tables.specs.Stays.{LeavesNothing}
use Rattle.reg_store_changes.specs.declared.sql.TheConstants.{ROLLBACK}
use Rattle.reg_store_changes.specs.WithinTransactions.{IsUndone, RollsBack}
use Rattle.reg_store_changes.proofs.Beginning.{leaves_itself}

rollback_plain : (schema : Schema) → IsPlain (understood schema ROLLBACK.now)
unfolding understood everything
rollback_plain schema = (refl, refl)

rollback_is : (schema : Schema) → command_of (understood schema ROLLBACK.now) ≡ Rollback
unfolding understood everything
rollback_is schema = refl

rollback_taken : (schema : Schema) → IsOneStatement (understood schema ROLLBACK.now) ROLLBACK.now []
unfolding understood everything
rollback_taken schema = (omega arith, refl)

abbrev rolls : Command → Bool
rolls Rollback = true
rolls command = false

module _ (old new : State) (under : old.in_transaction ≡ true) where
  no_statement : (e : Error) → IsNoStatement old ROLLBACK.now [] e → ⊥
  no_statement e (inl h) = absurd (subst IsPlain h.1 (rollback_plain old.now.schema))
  no_statement e (inr h) =
      let taken : IsOneStatement (Ok h.0) ROLLBACK.now [] = subst (λ r. IsOneStatement r ROLLBACK.now []) h.1 (rollback_taken old.now.schema) in
      let plain = subst IsPlain h.1 (rollback_plain old.now.schema) in
      elim h.2 [
        | inl longer ↦ absurd (longer.0 taken.0)
        | inr others ↦ elim others [
          | inl given ↦ absurd (given.0 taken.1)
          | inr formats ↦ absurd (formats.0 plain.1)
        ]
      ]

  not_run : (e : Error) → IsNotRun old new ROLLBACK.now [] e → IsRolledBack old new
  unfolding IsNotRun
  not_run e (inl h) = absurd (no_statement e h.0)
  not_run e (inr h) = h.3

  pub rolled : (count : ℕ) → Executes ROLLBACK.now [] old new (Ok count) → IsRolledBack old new
  rolled count ran =
      let schema = old.now.schema in
      let it : Runs old new None Rollback (statement_of ROLLBACK.now (understood schema ROLLBACK.now)) [] count =
      runs_as ROLLBACK.now [] old new schema refl Rollback (rollback_is schema) (rollback_plain schema) count ran in
      it.1

  misplaced : (command : Command) (e : Error) → command ≡ Rollback → IsMisplaced old command e → ⊥
  misplaced command e is (inl h) = elim h.1 [
    | inl begin ↦ false≢true (ap rolls (sym begin.0 ∙ is))
    | inr ends ↦ false≢true (sym ends.1 ∙ under)
  ]
  misplaced command e is (inr h) = elim h.2 [
    | inl release ↦ false≢true (ap rolls (sym release ∙ is))
    | inr to ↦ false≢true (ap rolls (sym to ∙ is))
  ]

  changes : (c : Compiled) → c.command ≡ Rollback → c.returning ≡ None → MayChange c → ⊥
  changes c is none (inl writes) = subst IsWrite is writes
  changes c is none (inr returns) = absurd (let some = rw none at returns in let bad : ⊥ = cc in bad)

  command_failed : (c : Compiled) (params : Row) (e : Error) → c.command ≡ Rollback → c.returning ≡ None → RunsCommand old new ROLLBACK.now c params (Err e) → IsRolledBack old new
  command_failed c params e is none (inl (inl why, same)) = absurd (misplaced c.command e is why)
  command_failed c params e is none (inl (inr why, same)) = absurd (changes c is none why.0)
  command_failed c params e is none (inr fails) = fails.3

  pub failed : (e : Error) → Executes ROLLBACK.now [] old new (Err e) → IsRolledBack old new
  unfolding ExecutesIn
  failed e (inl h) = not_run e h
  failed e (inr h) =
      let is : h.0.command ≡ Rollback = ap command_of (sym h.1.is) ∙ rollback_is old.now.schema in
      let none : h.0.returning ≡ None = (subst IsPlain h.1.is (rollback_plain old.now.schema)).0 in
      elim (cases_Bool (shows_rows false h.0)) [
        | inl shows ↦ absurd (let no : shows_rows false h.0 ≡ false = λ i. is_query (is i) || (not false && (is_pragma (is i) || is_some (none i))) in false≢true (sym no ∙ shows))
        | inr runs ↦ command_failed h.0 _ e is none (rw runs at h.2)
      ]

-- a rollback commits nothing
may_roll : (s : State) (returning : Option Returning) (command : Command) (text : List ℕ) (params : Row) (db : Trees) → command ≡ Rollback → s.in_transaction ≡ true → MayCommit s returning command text params db → ⊥
may_roll s returning command text params db is under (inl (inl other, same)) = false≢true (ap rolls (sym other ∙ is))
may_roll s returning command text params db is under (inl (inr it, same)) = false≢true (ap rolls (sym it.2 ∙ is))
may_roll s returning command text params db is under (inr may) = false≢true (sym may.0 ∙ under)

never_commits : (s : State) (db : Trees) → s.in_transaction ≡ true → CommitsBy ROLLBACK.now [] s db → ⊥
unfolding CommitsBy
never_commits s db under h = may_roll s _ h.0.command _ _ db (ap command_of (sym h.1.is) ∙ rollback_is s.now.schema) under h.2

-- a rollback by text ends the transaction, whether it succeeds or not
ended : (old new : State) (r : Result ℕ Error) → old.in_transaction ≡ true → Executes ROLLBACK.now [] old new r → IsRolledBack old new
ended old new (Ok count) under ran = rolled old new under count ran
ended old new (Err e) under ran = failed old new under e ran

-- ---- the call

pub is_undone : (old new : State) → IsRolledBack old new → IsUndone old new
is_undone old new back = record {
  idle = back.autocommit;
  was_open = back.was_open;
  now = λ up. (back.undone up).0;
  committed = λ up. (back.undone up).1;
}

pub rolls_back : {S : Type 0} {g : Ghosts S} (old new : Held S) (r : Result ℕ Error) → (state g old).in_transaction ≡ true → (HasCleanDisk (state g new) → Executes ROLLBACK.now [] (state g old) (state g new) r)
    → Survives (state g old) (state g new) (CommitsBy ROLLBACK.now [] (state g old)) → RollsBack g old new
rolls_back {g = g} old new r under ran survives = record {
  undone = λ clean. is_undone (state g old) (state g new) (ended (state g old) (state g new) r under (ran clean));
  survives = survives_weaker (state g old) (state g new) (CommitsBy ROLLBACK.now [] (state g old)) (λ _. ⊥) (λ clean db commits. never_commits (state g old) db under commits) survives;
}

-- no transaction is under way
pub none_undone : (s : State) → s.in_transaction ≡ false → (IsTrue s.is_open → s.now ≡ s.committed) → IsUndone s s
none_undone s idle settled = record { idle = idle; was_open = λ up. up; now = settled; committed = λ up. refl }

pub none_rolled : {S : Type 0} {g : Ghosts S} (h : Held S) → h.in_transaction ≡ false → (IsTrue (state g h).is_open → (state g h).now ≡ (state g h).committed) → RollsBack g h h
none_rolled {g = g} h idle settled = record { undone = λ clean. none_undone (state g h) idle settled; survives = leaves_itself (state g h) }
