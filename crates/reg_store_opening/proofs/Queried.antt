-- What a query answers, and why it fails.
use Rattle.std.proofs.Common.{◌≡◌, ◌≤◌, ◌⊎◌, inl, inr, ℕ, false, List, [], length, Option, None, Ok, IsTrue, refl, sym, ap, subst, ◌∙◌}
use Rattle.std.proofs.lemmas.Bool.{cases_Bool}
use Rattle.sqlite_value.specs.Order.{Row}
use Rattle.sqlite_ast.specs.declared.Select as written_select
use Rattle.sqlite_ast.specs.declared.Statement.TheVariants as written
use Rattle.sqlite_syntax.specs.declared.statement.Parsed.{Parsed}
use Rattle.sqlite_trees.specs.declared.error.StoreError.{StoreError}
use Rattle.sqlite_trees.specs.declared.error.StoreError.TheVariants.{Unstorable}
use Rattle.sqlite_schema.specs.declared.command.Command.{Command}
use Rattle.sqlite_schema.specs.declared.command.Command.TheVariants as command
use Rattle.sqlite_schema.specs.declared.schema.Schema.{Schema}
use Rattle.sqlite_resolve.specs.declared.compiled.Compiled.{Compiled}
use Rattle.sqlite_resolve.specs.Compile as compile
use Rattle.sqlite.specs.Clock.{timed}
use Rattle.sqlite.specs.declared.error.Error.{Error}
use Rattle.sqlite.specs.declared.error.Error.TheVariants.{SqliteFailure}
use Rattle.sqlite.specs.declared.error.ErrorCode.TheVariants as code
use Rattle.sqlite.specs.Effect.{Database, Reads, RefusesToRead}
use Rattle.sqlite.specs.Given.{IsPlain}
use Rattle.sqlite.specs.Listing.{understood, reads_listing, listing_schema, IsSourceOf}
use Rattle.sqlite.specs.State.{State, HasCause, store_error, Fails, IsUnchanged, IsRolledBack, KeepsCommit, IsStatement, IsNoStatement, IsNotRun, FailsToQuery, FailsToShow, ShowsRows, Shown, IsTooLate}
use Rattle.reg_store_tables.specs.ReadStatements.{command_of}
use Rattle.reg_store_tables.specs.Stays.{IsDatabaseFault}
use Rattle.reg_store_tables.specs.declared.fault.StoreFault.{StoreFault}
use Rattle.reg_store_tables.specs.declared.fault.StoreFault.TheVariants.{NotARegister}
use Rattle.reg_store_tables.proofs.PublicLaws.{select_planned, selected, fails_remains}
use Rattle.reg_store_opening.specs.VersionAndOffice.{is_call_error, NeverWrites, IsQuery, IsNeverRefused, IsRead, IsRefusedText}

-- ---- a text that is a SELECT, whatever the tables are

pub query_text : (text : List ℕ) (p : Parsed) (s : written_select.Select) → compile.first text ≡ Ok p → p.statement ≡ written.Select s → p.formats ≡ [] → length p.names ≡ 0 → length text ≤ p.tail → IsQuery text
unfolding understood compile.compiled
query_text text p s first is none unnamed whole schema c known =
    let by : (sch : Schema) → compile.compiled sch text ≡ Ok c → NeverWrites text c = λ sch made.
    let it = select_planned sch p s c is none (rw first at made) in
    record { returning = it.0; formats = it.1; names = ap (λ l. length l) it.2 ∙ unnamed; whole = subst (λ n. length text ≤ n) (sym it.3) whole } in
    elim (cases_Bool (reads_listing schema text)) [
      | inl listing ↦ by listing_schema (selected (compile.compiled listing_schema text) c (rw listing at known))
      | inr direct ↦ by schema (rw direct at known)
    ]

-- ---- its answer

module _ (text : List ℕ) (query : IsQuery text) (old new : State) where
  pub shown_reads : (rows : List Row) → Shown text [] old new rows → IsRead old.now text rows × IsUnchanged old new
  unfolding Shown
  shown_reads rows h =
      let never = query old.now.schema h.0 h.1.is in
      let it = subst (ShowsRows old new text h.0 (timed [] h.0.formats h.1.now) rows) never.returning h.2 in
      let reads : Reads h.0.command it.0 (timed [] [] h.1.now) rows = subst (λ f. Reads h.0.command it.0 (timed [] f h.1.now) rows) never.formats it.2 in
      (record { compiled = h.0; is = h.1.is; source = it.0; from = it.1; reads = reads }, it.3)

  never_late : (e : Error) → IsTooLate text [] old new e → ⊥
  never_late e h = let none = (query old.now.schema h.0 h.1.is).returning in let some = rw none at h.2 in absurd (cc)

  pub fails_keeps : (e : Error) → FailsToQuery text [] old new e ⊎ IsTooLate text [] old new e → KeepsCommit old new
  fails_keeps e (inl h) = keeps (fails_remains old new text [] e h)
    where
      keeps : IsUnchanged old new ⊎ IsRolledBack old new → KeepsCommit old new
      keeps (inl same) = record { was_open = λ up. same.0.was_open; committed = λ up. same.0.committed_is }
      keeps (inr back) = record { was_open = back.was_open; committed = λ up. (back.undone up).1 }
  fails_keeps e (inr h) = absurd (never_late e h)

-- ---- why it fails over the tables of a register

cause_is_call : (old new : State) (cause : StoreError) → HasCause old new ⊥ cause → IsTrue (is_call_error (store_error cause))
cause_is_call old new Unstorable why = absurd why
cause_is_call old new other why = refl

failed_is_call : (old new : State) (e : Error) → Fails old new ⊥ e → IsTrue (is_call_error e)
failed_is_call old new e h = subst (λ x. IsTrue (is_call_error x)) (sym h.1) (cause_is_call old new h.0 h.2)

module _ (tables : Schema) (text : List ℕ) (query : IsQuery text) (never : IsNeverRefused tables text) (old new : State) (e : Error) (register : IsTrue old.is_open → old.now.schema ≡ tables) where
  understood_is : IsTrue old.is_open → IsPlain (understood old.now.schema text)
  understood_is up = subst (λ s. IsPlain (understood s text)) (sym (register up)) never.plain

  no_statement : IsTrue old.is_open → IsNoStatement old text [] e → ⊥
  no_statement up (inl h) = absurd (subst IsPlain h.1 (understood_is up))
  no_statement up (inr h) =
      let is = query old.now.schema h.0 h.1 in
      elim h.2 [
        | inl longer ↦ absurd (longer.0 is.whole)
        | inr others ↦ elim others [
          | inl given ↦ absurd (given.0 (sym is.names))
          | inr formats ↦ absurd (formats.0 is.formats)
        ]
      ]

  not_run_is_call : IsNotRun old new text [] e → IsTrue (is_call_error e)
  unfolding IsNotRun
  not_run_is_call (inl h) = absurd (no_statement h.1.0.was_open h.0)
  not_run_is_call (inr h) = failed_is_call old new e h

  show_is_call : (c : Compiled) (it : IsStatement old text [] c) → FailsToShow old new text c (timed [] c.formats it.now) e c.returning → IsTrue (is_call_error e)
  show_is_call c it h =
      let is = query old.now.schema c it.is in
      let fails = subst (FailsToShow old new text c (timed [] c.formats it.now) e) is.returning h in
      let up = fails.3.0.was_open in
      let schema = register up in
      let refuses : RefusesToRead old.step_limit c.command fails.0 [] e = subst (λ f. RefusesToRead old.step_limit c.command fails.0 (timed [] f it.now) e) is.formats fails.2 in
      let known : understood tables text ≡ Ok c = subst (λ s. understood s text ≡ Ok c) schema it.is in
      let command : c.command ≡ command_of (understood tables text) = sym (ap command_of known) in
      let source : fails.0 ≡ old.now = subst (λ b. IsSourceOf b old.now fails.0) (ap (λ s. reads_listing s text) schema ∙ never.unlisted) fails.1 in
      never.never old.step_limit fails.0 e (ap (λ (d : Database). d.schema) source ∙ schema) (subst (λ k. RefusesToRead old.step_limit k fails.0 [] e) command refuses)

  pub fails_is_call : FailsToQuery text [] old new e ⊎ IsTooLate text [] old new e → IsTrue (is_call_error e)
  unfolding FailsToQuery
  fails_is_call (inl (inl h)) = not_run_is_call h
  fails_is_call (inl (inr h)) = show_is_call h.0 h.1 h.2
  fails_is_call (inr h) = let none = (query old.now.schema h.0 h.1.is).returning in let some = rw none at h.2 in absurd (cc)

-- ---- and why it fails over any

not_call : IsDatabaseFault NotARegister → ⊥
not_call (inl memory) = absurd (cc)
not_call (inr store) = absurd (cc)

pub other_error : (e : Error) (fault : StoreFault) → fault ≡ NotARegister → (IsTrue (is_call_error e) → IsDatabaseFault fault) → is_call_error e ≡ false
other_error e fault is call = elim (cases_Bool (is_call_error e)) [ inl is_call ↦ absurd (not_call (subst IsDatabaseFault is (call (subst IsTrue (sym is_call) refl)))) | inr other ↦ other ]

interrupted_is_call : (e : Error) → e ≡ SqliteFailure code.OperationInterrupted → is_call_error e ≡ false → ⊥
interrupted_is_call e is other = let call = rw is at other in absurd (cc)

-- with no limit on steps it would be refused too
unlimited : (limit : Option ℕ) (k : Command) (db : Database) (e : Error) → is_call_error e ≡ false → RefusesToRead limit k db [] e → RefusesToRead None k db [] e
unlimited limit (command.Select q names) db e other (inl h) = inl h
unlimited limit (command.Select q names) db e other (inr (inl h)) = inr (inl h)
unlimited limit (command.Select q names) db e other (inr (inr h)) = absurd (interrupted_is_call e h.0 other)
unlimited limit (command.Rows values width names) db e other h = absurd (interrupted_is_call e h.0 other)
unlimited limit another db e other h = h

module _ (text : List ℕ) (query : IsQuery text) (old new : State) (e : Error) (other : is_call_error e ≡ false) where
  failed_otherwise : Fails old new ⊥ e → ⊥
  failed_otherwise h = let call = failed_is_call old new e h in absurd (let no = other in cc)

  not_understood : IsNoStatement old text [] e → IsRefusedText old.now text
  not_understood (inl h) = inl (h.0, h.1)
  not_understood (inr h) =
      let is = query old.now.schema h.0 h.1 in
      elim h.2 [
        | inl longer ↦ absurd (longer.0 is.whole)
        | inr others ↦ elim others [
          | inl given ↦ absurd (given.0 (sym is.names))
          | inr formats ↦ absurd (formats.0 is.formats)
        ]
      ]

  not_run_is_refused : IsNotRun old new text [] e → IsRefusedText old.now text
  unfolding IsNotRun
  not_run_is_refused (inl h) = not_understood h.0
  not_run_is_refused (inr h) = absurd (failed_otherwise h)

  show_is_refused : (c : Compiled) (it : IsStatement old text [] c) → FailsToShow old new text c (timed [] c.formats it.now) e c.returning → IsRefusedText old.now text
  show_is_refused c it h =
      let is = query old.now.schema c it.is in
      let fails = subst (FailsToShow old new text c (timed [] c.formats it.now) e) is.returning h in
      let refuses : RefusesToRead old.step_limit c.command fails.0 [] e = subst (λ f. RefusesToRead old.step_limit c.command fails.0 (timed [] f it.now) e) is.formats fails.2 in
      inr (record { compiled = c; is = it.is; source = fails.0; from = fails.1; error = e; refuses = unlimited old.step_limit c.command fails.0 e other refuses })

  pub fails_is_refused : FailsToQuery text [] old new e ⊎ IsTooLate text [] old new e → IsRefusedText old.now text
  unfolding FailsToQuery
  fails_is_refused (inl (inl h)) = not_run_is_refused h
  fails_is_refused (inl (inr h)) = show_is_refused h.0 h.1 h.2
  fails_is_refused (inr h) = let none = (query old.now.schema h.0 h.1.is).returning in let some = rw none at h.2 in absurd (cc)
