-- A statement that only reads fails for the database's own reasons, and so does what looks at its rows.
use Rattle.std.specs.Prelude.{Ok, Err, None, Some, IfErr, IsSome, MatchOption, OnErr}
use Rattle.std.specs.Option.{ok_or}
use Rattle.std.proofs.Common.{◌≡◌, ◌≤◌, inl, inr, ℕ, false, true, List, [], ◌∷◌, length, Option, append-nil, IsTrue, Result, refl, sym, ap, subst, ◌∙◌, arith}
use Rattle.std.proofs.lemmas.Bool.{cases_Bool}
use Rattle.sqlite_disk.specs.Disk.{MoreFaults}
use Rattle.sqlite_value.specs.Order.{Row}
use Rattle.sqlite_value.specs.declared.keys.Key.{Key}
use Rattle.sqlite_trees.specs.Tree.{Trees}
use Rattle.sqlite_trees.specs.declared.error.StoreError.{StoreError}
use Rattle.sqlite_trees.specs.declared.error.StoreError.TheVariants.{OutOfMemory, Io, Corrupt, Full, Broken, Unstorable}
use Rattle.sqlite_trees.specs.declared.store.Store.{Ghosts}
use Rattle.sqlite_sql.specs.Term.{Term}
use Rattle.sqlite_sql.specs.Query.{Query}
use Rattle.sqlite_sql.specs.Program.{QueryOverflows, overlay}
use Rattle.sqlite_resolve.specs.declared.compiled.Compiled.{Compiled}
use Rattle.sqlite_typing.specs.Types.{accepts_program}
use Rattle.sqlite.specs.declared.error.Error.{Error}
use Rattle.sqlite.specs.Clock.{timed}
use Rattle.sqlite.specs.Effect.{Database, RefusesToRead}
use Rattle.sqlite.specs.Given.{IsPlain}
use Rattle.sqlite.specs.Held.{Held, state}
use Rattle.sqlite.specs.Listing.{understood, reads_listing, IsSourceOf}
use Rattle.sqlite.specs.State.{State, HasCleanDisk, HasCause, IsStatement, IsNoStatement, IsNotRun, FailsToShow, FailsToQuery, store_error}
use Rattle.reg_core.specs.Records.{Records}
use Rattle.reg_store_tables.specs.Schema.{register_schema}
use Rattle.reg_store_tables.specs.Faults.{database_fault_of}
use Rattle.reg_store_tables.specs.declared.fault.DatabaseFault.{DatabaseFault}
use Rattle.reg_store_tables.specs.declared.fault.DatabaseFault.TheVariants as call
use Rattle.reg_store_tables.specs.declared.fault.DatabaseFault.TheVariants.{Store}
use Rattle.reg_store_tables.specs.Failing.{HasFailed, ShowsWritten, IsOneStatement, FailsOnlyByLimit}
use Rattle.reg_store_tables.specs.ReadStatements.{IsReading, NeverReturns, command_of}
use Rattle.reg_store_tables.specs.ShownRows.{IsRowOf}
use Rattle.reg_store_tables.specs.Shows.{Shows}
use Rattle.reg_store_tables.specs.Stays.{IsRegister, Looked}
use Rattle.reg_store_tables.proofs.Queries.{selects, as_command}
use Rattle.reg_store_tables.proofs.Staying.{kept_shows, shows_register, stays_kept}

-- ---- why a query fails

module _ (text : List ℕ) (params : Row) (reading : IsReading text) (asked : FailsOnlyByLimit text params) (old new : State) (e : Error) (register : IsTrue old.is_open → old.now.schema ≡ register_schema) (store : database_fault_of e ≡ Store) where
  taken_is : IsTrue old.is_open → IsOneStatement (understood old.now.schema text) text params
  taken_is up = subst (λ s. IsOneStatement (understood s text) text params) (sym (register up)) asked.taken

  plain_is : IsTrue old.is_open → IsPlain (understood old.now.schema text)
  plain_is up = subst (λ s. IsPlain (understood s text)) (sym (register up)) reading.plain

  no_statement : IsTrue old.is_open → IsNoStatement old text params e → ⊥
  no_statement up (inl h) = absurd (subst IsPlain h.1 (plain_is up))
  no_statement up (inr h) =
      let taken : IsOneStatement (Ok h.0) text params = subst (λ r. IsOneStatement r text params) h.1 (taken_is up) in
      let plain = subst IsPlain h.1 (plain_is up) in
      elim h.2 [
        | inl longer ↦ absurd (longer.0 taken.0)
        | inr others ↦ elim others [
          | inl given ↦ absurd (given.0 taken.1)
          | inr formats ↦ absurd (formats.0 plain.1)
        ]
      ]

  by_cause : (cause : StoreError) → e ≡ store_error cause → HasCause old new ⊥ cause → HasFailed old new
  unfolding HasFailed
  by_cause OutOfMemory is why = absurd (let no = sym (ap database_fault_of is) ∙ store in cc)
  by_cause Io is why = inl why
  by_cause Corrupt is why = inl why
  by_cause Full is why = inl why
  by_cause Broken is why = inr (inl why)
  by_cause Unstorable is why = absurd why

  not_run : IsNotRun old new text params e → HasFailed old new
  unfolding IsNotRun
  not_run (inl h) = absurd (no_statement h.1.0.was_open h.0)
  not_run (inr h) = by_cause h.0 h.1 h.2

  unshown : (c : Compiled) (it : IsStatement old text params c) → FailsToShow old new text c (timed params c.formats it.now) e c.returning → HasFailed old new
  unfolding HasFailed
  unshown c it h =
      let fails = subst (FailsToShow old new text c (timed params c.formats it.now) e) (reading.never.none old.now.schema c it.is) h in
      let up = fails.3.0.was_open in
      let schema = register up in
      let plain = subst IsPlain it.is (plain_is up) in
      let timeless : timed params c.formats it.now ≡ params = ap (λ f. timed params f it.now) plain.1 ∙ append-nil params in
      let refuses : RefusesToRead old.step_limit c.command fails.0 params e = subst (λ p. RefusesToRead old.step_limit c.command fails.0 p e) timeless fails.2 in
      let known : understood register_schema text ≡ Ok c = subst (λ s. understood s text ≡ Ok c) schema it.is in
      let command : c.command ≡ command_of (understood register_schema text) = sym (ap command_of known) in
      let source : fails.0 ≡ old.now = subst (λ b. IsSourceOf b old.now fails.0) (ap (λ s. reads_listing s text) schema ∙ reading.unlisted) fails.1 in
      inr (inr (asked.never old.step_limit fails.0 e (ap (λ (d : Database). d.schema) source ∙ schema) (subst (λ k. RefusesToRead old.step_limit k fails.0 params e) command refuses)))

  -- a failure that is not out of memory is the disk's, or that of a closed connection, or of a limit on steps
  pub fails_by : FailsToQuery text params old new e → HasFailed old new
  unfolding FailsToQuery
  fails_by (inl h) = not_run h
  fails_by (inr h) = unshown h.0 h.1 h.2

-- ---- a query whose parameters are taken is refused for no reason of its own

refused_limit : (q : Query) (names : List (List ℕ)) (params : Row) (limit : Option ℕ) (db : Database) (e : Error) → (QueryOverflows q (overlay db.trees []) params → ⊥)
    → accepts_program db.schema [] q params ≡ true → RefusesToRead limit (as_command q names) db params e → IsSome limit
refused_limit q names params limit db e sure accepts (inl h) = absurd (let no = h.1 in cc)
refused_limit q names params limit db e sure accepts (inr (inl h)) = absurd (sure h.1)
refused_limit q names params limit db e sure accepts (inr (inr h)) = h.1

pub asked_of : (text : List ℕ) (q : Query) (names : List (List ℕ)) (params : Row) → ((db : Trees) → QueryOverflows q db params → ⊥) → IsOneStatement (understood register_schema text) text params
    → command_of (understood register_schema text) ≡ as_command q names → accepts_program register_schema [] q params ≡ true → FailsOnlyByLimit text params
asked_of text q names params sure taken means accepts = record {
  taken = taken;
  never = λ limit db e schema refuses.
      refused_limit q names params limit db e (sure (overlay db.trees [])) (ap (λ s. accepts_program s [] q params) schema ∙ accepts)
      (subst (λ k. RefusesToRead limit k db params e) means refuses);
}

never_overflows : (tree : ℕ) (terms project : List Term) (order : List (Term × Key)) (most : Term) (params : Row) (db : Trees) → QueryOverflows (selects tree terms project order most) db params → ⊥
never_overflows tree terms project order most params db (inl overflows) = overflows
never_overflows tree terms project order most params db (inr any) = any.4

-- a text that selects from a register's tables: it means this query, it only reads, and with these parameters it is asked
pub record IsSelect {K : Type 0} (text : List ℕ) (q : Query) (names : List (List ℕ)) (params : K → Row) : Type 0 where
  pub means : command_of (understood register_schema text) ≡ as_command q names
  pub reading : IsReading text
  pub asked : (k : K) → FailsOnlyByLimit text (params k)

-- from one table
pub select : {K : Type 0} (text : List ℕ) (tree : ℕ) (terms project : List Term) (order : List (Term × Key)) (most : Term) (names : List (List ℕ)) (params : K → Row)
    → command_of (understood register_schema text) ≡ as_command (selects tree terms project order most) names → IsPlain (understood register_schema text) → reads_listing register_schema text ≡ false → NeverReturns text
    → ((k : K) → IsOneStatement (understood register_schema text) text (params k)) → ((k : K) → accepts_program register_schema [] (selects tree terms project order most) (params k) ≡ true)
    → IsSelect text (selects tree terms project order most) names params
select text tree terms project order most names params means plain unlisted never taken accepts = record {
  means = means;
  reading = record { plain = plain; unlisted = unlisted; never = never };
  asked = λ k. asked_of text (selects tree terms project order most) names (params k) (never_overflows tree terms project order most (params k)) (taken k) means (accepts k);
}

-- ---- what a register's own tables show to a text that answered

pub written_shows : {S : Type 0} (g : Ghosts S) (h : Held S) (records : Records) → ShowsWritten g h records → Shows g h records
written_shows g h records written = kept_shows g h records written.kept

pub written_register : {S : Type 0} (g : Ghosts S) (h : Held S) (records : Records) → ShowsWritten g h records → IsRegister (state g h)
written_register g h records written = shows_register g h records (written_shows g h records written)

-- ---- one call after another

-- the records are shown on
pub looked_written : {S : Type 0} {g : Ghosts S} {old new : Held S} → Looked g old new → (records : Records) → ShowsWritten g old records → ShowsWritten g new records
looked_written {g = g} {old = old} {new = new} looked records written = record {
  kept = stays_kept g old new records looked.survives.clean (looked.same (written_register g old records written)) written.kept;
  sound = written.sound;
  values = written.values;
  issuer = written.issuer;
  policy = written.policy;
  steps = written.steps;
}

later_faults : (a b c : ℕ) → a ≤ b → MoreFaults b c → MoreFaults a c
later_faults a b c le more = omega (arith, le, more)

earlier_faults : (a b c : ℕ) → MoreFaults a b → b ≤ c → MoreFaults a c
earlier_faults a b c more le = omega (arith, more)

was_shut : {S : Type 0} {g : Ghosts S} {a b : Held S} → Looked g a b → HasCleanDisk (state g b) → (state g b).is_open ≡ false → HasFailed (state g a) (state g b)
unfolding HasFailed
was_shut {g = g} {a = a} {b = b} looked clean shut = elim (cases_Bool (state g a).is_open) [
  | inl up ↦ elim (looked.survives.closes clean up) [
    | inl still ↦ absurd (let no : true ≡ false = sym still ∙ shut in cc)
    | inr more ↦ inl more
  ]
  | inr down ↦ inr (inl down)
]

pub failed_then : {S : Type 0} {g : Ghosts S} {a b c : Held S} → Looked g a b → Looked g b c → HasCleanDisk (state g c) → HasFailed (state g b) (state g c) → HasFailed (state g a) (state g c)
unfolding HasFailed
failed_then {g = g} {a = a} {b = b} {c = c} first second clean (inl more) = inl (later_faults (state g a).faults (state g b).faults (state g c).faults first.survives.counts more)
failed_then {g = g} {a = a} {b = b} {c = c} first second clean (inr (inl shut)) =
    let mid : HasCleanDisk (state g b) = omega (arith, second.survives.clean) in
    elim (was_shut {g = g} {a = a} {b = b} first mid shut) [
      | inl more ↦ inl (earlier_faults (state g a).faults (state g b).faults (state g c).faults more second.survives.counts)
      | inr other ↦ inr other
    ]
failed_then {g = g} {a = a} {b = b} {c = c} first second clean (inr (inr limited)) = inr (inr (subst IsSome first.survives.limit limited))

-- ---- a value or a row that is read as what it is

-- out of memory is no failure of the store
pub memory_alone : {T : Type 0} (H : Type 0) (r : Result T DatabaseFault) → IfErr r (λ fault. fault ≡ call.Memory) → IfErr r (λ fault. fault ≡ Store → H)
memory_alone H (Ok x) failed = tt
memory_alone H (Err fault) failed = λ store. absurd (let no : call.Memory ≡ Store = sym failed ∙ store in cc)

-- what is told of rows that are many is told of none that are few
pub few_never : {T E : Type 0} (P : Type 0) (R : E → Type 0) (r : Result T E) → OnErr r P → (P → ⊥) → IfErr r R
few_never P R (Ok x) failed never = tt
few_never P R (Err e) failed never = absurd (never failed)

-- the one row that is wanted
pub the_row : {A : Type 0} (P : A → Type 0) (view : A → Row) (it : A) (rows : List Row) → P it → rows ≡ view it ∷ [] → IsRowOf P view rows (Some it) × (length rows ≤ 1)
the_row P view it rows holds is = (
  record {
    none = λ none. absurd (let no : [] ≡ view it ∷ [] = sym none ∙ is in cc);
    one = λ row one. record { it = it; first = refl; holds = holds; shown = let same : row ∷ [] ≡ view it ∷ [] = sym one ∙ is in cc };
  },
  let one : length rows ≡ length (view it ∷ []) = ap length is in omega arith,
)

pub same_some : {A : Type 0} {x y : A} → Some x ≡ Some y → x ≡ y
same_some same = cc

pub some_none : {A : Type 0} {x : A} → None ≡ Some x → ⊥
some_none clash = cc

-- what is made is no error
pub made_of : {T E : Type 0} (R : E → Type 0) (r : Result T E) (o : Option T) (e : E) → r ≡ ok_or o e → IsSome o → IfErr r R
made_of R r (Some x) e is some = subst (λ r. IfErr r R) (sym is) tt
made_of R r None e is some = absurd (let no : false ≡ true = some in cc)

-- where no key was made, the number is one that SQL doesn't have
pub none_made : {T P : Type 0} (Q : T → Type 0) (o : Option T) → ((x : T) → o ≡ Some x → ⊥) → MatchOption o P Q → P
none_made Q None never h = h
none_made Q (Some x) never h = absurd (never x refl)
