-- A text that is a SELECT of columns of one table, over tables with no view.
use Rattle.std.proofs.Common.{◌≡◌, ℕ, ◌++◌, negsuc, Bool, true, false, List, [], ◌∷◌, map, None, Ok, Err, refl, sym, ap, subst, ◌∙◌, inl, inr}
use Rattle.std.proofs.lemmas.Bool.{cases_Bool}
use Rattle.sqlite_value.specs.declared.value.Value.TheVariants.{Int}
use Rattle.sqlite_value.specs.declared.keys.Key.{Key}
use Rattle.sqlite_ast.specs.declared.Sort.{Sort}
use Rattle.sqlite_ast.specs.declared.Source.{Source}
use Rattle.sqlite_ast.specs.declared.Core.{Core, out-Core}
use Rattle.sqlite_ast.specs.declared.Select.{Select, out-Select}
use Rattle.sqlite_ast.specs.declared.Statement.TheVariants as written
use Rattle.sqlite_syntax.specs.declared.statement.Parsed.{Parsed}
use Rattle.sqlite_sql.specs.Term.{Term, lit}
use Rattle.sqlite_sql.specs.Query.{Query}
use Rattle.sqlite_schema.specs.declared.command.Command.{Command}
use Rattle.sqlite_schema.specs.declared.program.Table.{Table as Let}
use Rattle.sqlite_schema.specs.declared.schema.Schema.{Schema}
use Rattle.sqlite_draft.specs.declared.join.Step.TheVariants.{Inner}
use Rattle.sqlite_draft.specs.declared.query.Draft.{Draft}
use Rattle.sqlite_draft.specs.Query.{query_of}
use Rattle.sqlite_typing.specs.Types.{accepts_program}
use Rattle.sqlite_resolve.specs.declared.compiled.Compiled.{Compiled}
use Rattle.sqlite_resolve.specs.declared.error.CompileError.TheVariants.{NoSuchTable, NeedsView}
use Rattle.sqlite_resolve.specs.declared.state.State.{State}
use Rattle.sqlite_resolve.specs.declared.scope.Bound.{Bound}
use Rattle.sqlite_resolve.specs.declared.scope.Output.{Output}
use Rattle.sqlite_resolve.specs.declared.select.Clauses.{Clauses}
use Rattle.sqlite_resolve.specs.Lowering.{Checked, and_then, fresh, max_budget}
use Rattle.sqlite_resolve.specs.Scope.{Name}
use Rattle.sqlite_resolve.specs.Terms.{number}
use Rattle.sqlite_resolve.specs.Select as select
use Rattle.sqlite_resolve.specs.Program as program
use Rattle.sqlite_resolve.specs.Compile as compile
use Rattle.sqlite_resolve.proofs.ProgramLemmas.{single_named}
use Rattle.sqlite.specs.Listing.{understood, reads_listing, listing_schema}
use Rattle.reg_store_tables.proofs.PublicLaws.{selects, as_command, no_limit}
use Rattle.reg_store_opening.proofs.Resolved.{then_ok, ok_one, fine}
use Rattle.reg_store_opening.proofs.OneTable.{AreOutputs}
use Rattle.reg_store_opening.proofs.Simple.{AreKeys, AreSorted, IsBare, parts_is}

assembled_is : (distinct : Bool) (limit offset : Term) (p : Clauses) (s : State) (d : Draft) → p.is_grouped ≡ false → select.assembled distinct limit offset p s ≡ Ok d
    → select.ungrouped (p.body.steps ++ s.steps) p.body.filter p.body.level.shown distinct p.order limit offset ≡ d
unfolding select.assembled
assembled_is distinct limit offset p s d single h = ok_one _ d (rw single at h)

-- LIMIT and OFFSET that are not written
abbrev pub no_page : Term × Term
no_page = (lit (Int (negsuc 0)), number 0)

-- the query reads the rows of one table, each by columns of the names, in the order of columns of the names
pub record IsSelect (schema : Schema) (names keys : List Name) (q : Query) : Type 0 where
  pub b : Bound
  pub outs : List Output
  pub tree : ℕ
  pub order : List (Term × Key)
  pub is : q ≡ selects tree [] (map (λ (o : Output). o.term) outs) order no_limit
  pub shown : AreOutputs schema (b ∷ []) names outs
  pub sorted : AreSorted schema (b ∷ []) keys order

module _ (schema : Schema) (core : Core) (source : Source) (names : List Name) (bare : IsBare core source names) (sorts : List Sort) (keys : List Name) (are : AreKeys sorts keys) where
  named_is : (x : program.Shown) → select.named schema core sorts no_page ≡ Ok x → IsSelect schema names keys (query_of x.0)
  unfolding select.named select.ungrouped
  named_is x h =
      let a = then_ok (select.parts schema core sorts (fresh 1 max_budget)) _ _ h in
      let it = parts_is schema core source names bare sorts keys are (fresh 1 max_budget) a.0 a.1 in
      let c = then_ok (select.assembled (out-Core core).distinct (lit (Int (negsuc 0))) (number 0) a.0.0 a.0.1) _ _ a.2 in
      let draft = assembled_is (out-Core core).distinct (lit (Int (negsuc 0))) (number 0) a.0.0 a.0.1 c.0 (it.ungrouped refl) c.1 in
      let steps : a.0.1.steps ≡ [] = it.kept.0 in
      let made : select.ungrouped (Inner it.tree ∷ []) [] it.outs false a.0.0.order (lit (Int (negsuc 0))) (number 0) ≡ c.0 =
      ap (λ d. select.ungrouped (Inner it.tree ∷ []) [] it.outs d a.0.0.order (lit (Int (negsuc 0))) (number 0)) (sym bare.distinct)
      ∙ ap (λ l. select.ungrouped (Inner it.tree ∷ l) [] it.outs (out-Core core).distinct a.0.0.order (lit (Int (negsuc 0))) (number 0)) (sym steps)
      ∙ ap (λ (w : _). select.ungrouped (w.steps ++ a.0.1.steps) w.filter w.level.shown (out-Core core).distinct a.0.0.order (lit (Int (negsuc 0))) (number 0)) (sym it.body) ∙ draft in
      let same = ok_one _ x c.2 in
      record {
        b = it.b;
        outs = it.outs;
        tree = it.tree;
        order = a.0.0.order;
        is = ap query_of (sym (made ∙ ap (λ (p : program.Shown). p.0) same));
        shown = it.shown;
        sorted = it.sorted;
      }

-- a SELECT that is one core over one table
pub record IsOneSelect (s : Select) (names keys : List Name) : Type 0 where
  pub source : Source
  pub with : (out-Select s).with ≡ []
  pub others : (out-Select s).others ≡ []
  pub limit : (out-Select s).limit ≡ None
  pub offset : (out-Select s).offset ≡ None
  pub bare : IsBare (out-Select s).first source names
  pub sorted : AreKeys (out-Select s).order keys

-- the command reads one table
abbrev pub ReadsTable : Schema → List Name → List Name → Command → Type 0
ReadsTable schema names keys k = (q : Query) × (shown : List Name) × (k ≡ as_command q shown) × IsSelect schema names keys q

module _ (schema : Schema) (unviewed : schema.views ≡ []) where
  module _ (query : Schema → Select → program.Building program.Shown) where
    no_view : (at : ℕ) (again : Schema → program.Building (program.Shown × Schema)) (x : (program.Shown × Schema) × List Let) → program.or_view query again schema schema (Err (NeedsView at)) [] ≡ Ok x → ⊥
    unfolding program.view program.view_text
    no_view at again x h = absurd (let none = rw unviewed at h in cc)

    viewed : (r : Checked program.Shown) (again : Schema → program.Building (program.Shown × Schema)) (x : (program.Shown × Schema) × List Let) → program.or_view query again schema schema r [] ≡ Ok x
        → (shown : program.Shown) × (r ≡ Ok shown) × (((shown, schema), []) ≡ x)
    viewed (Ok shown) again x h = (shown, refl, ok_one ((shown, schema), []) x h)
    viewed (Err (NeedsView at)) again x h = absurd (no_view at again x h)
    viewed (Err _) again x h = absurd (cc)

    alone_is : (core : Core) (source : Source) (names : List Name) (bare : IsBare core source names) (sorts : List Sort) (keys : List Name) → AreKeys sorts keys
        → (x : program.Shown × List Let) → program.alone query schema core sorts no_page [] ≡ Ok x → (x.1 ≡ []) × IsSelect schema names keys (query_of x.0.0)
    unfolding program.alone
    alone_is core source names bare sorts keys are x h =
        let a = then_ok (program.single query schema core sorts no_page []) _ _ h in
        let from : program.are_named (out-Core core).from ≡ true = ap program.are_named bare.from ∙ ap (λ t. Rattle.std.specs.Prelude.◌&&◌ t true) bare.named in
        let v = viewed (select.named schema core sorts no_page) (program.viewing query schema core sorts no_page 63) a.0 (sym (single_named query schema core sorts no_page [] from) ∙ a.1) in
        let same = ok_one (a.0.0.0, a.0.1) x a.2 in
        let it = named_is schema core source names bare sorts keys are v.0 v.1 in
        let shown : v.0 ≡ x.0 = ap (λ (p : (program.Shown × Schema) × List Let). p.0.0) v.2 ∙ ap (λ (p : program.Shown × List Let). p.0) same in
        (ap (λ (p : program.Shown × List Let). p.1) (sym same) ∙ ap (λ (p : (program.Shown × Schema) × List Let). p.1) (sym v.2), subst (λ (y : program.Shown). IsSelect schema names keys (query_of y.0)) shown it)

    level_is : (s : Select) (names keys : List Name) → IsOneSelect s names keys → (x : program.Shown × List Let) → program.level query schema s [] ≡ Ok x → (x.1 ≡ []) × IsSelect schema names keys (query_of x.0.0)
    unfolding program.level program.with program.whole select.paging select.constant_or
    level_is s names keys one x h =
        let known = rw (one.with, one.limit, one.offset, one.others) at h in
        alone_is (out-Select s).first one.source names one.bare (out-Select s).order keys one.sorted x known

  query_is : (s : Select) (names keys : List Name) → IsOneSelect s names keys → (x : program.Shown × List Let) → program.query schema s ≡ Ok x → (x.1 ≡ []) × IsSelect schema names keys (query_of x.0.0)
  unfolding program.query program.query_to
  query_is s names keys one x h = level_is (program.query_to 15) s names keys one x h

  read_is : (s : Select) (names keys : List Name) → IsOneSelect s names keys → (k : Command) → compile.read schema s ≡ Ok k → ReadsTable schema names keys k
  unfolding compile.read program.program
  read_is s names keys one k h =
      let a = then_ok (program.query schema s) _ _ h in
      let it = query_is s names keys one a.0 a.1 in
      let c = then_ok (program.program schema a.0.1 a.0.0.0) _ _ a.2 in
      let made : program.program schema [] a.0.0.0 ≡ Ok c.0 = subst (λ l. program.program schema l a.0.0.0 ≡ Ok c.0) it.0 c.1 in
      elim (cases_Bool (accepts_program schema [] (query_of a.0.0.0) [])) [
        | inl accepts ↦ let same = ok_one _ c.0 (rw accepts at made) in (query_of a.0.0.0, a.0.0.1, sym (ok_one _ k c.2) ∙ ap (λ p. Rattle.sqlite_schema.specs.declared.command.Command.TheVariants.Select p a.0.0.1) (sym same), it.1)
        | inr refuses ↦ absurd (let failed = rw refuses at made in cc)
      ]

  planned_command : (p : Parsed) (formats : List Name) (k : Checked Command) (c : Compiled) → and_then (and_then (and_then k (λ (x : Command). Ok (x, None))) (λ found. Ok (formats, found))) (λ plan. Ok (compile.with_command p plan)) ≡ Ok c → k ≡ Ok c.command
  planned_command p formats (Ok k) c made = let same = ok_one (compile.with_command p (formats, (k, None))) c made in ap (λ (x : Compiled). fine x.command) same
  planned_command p formats (Err e) c made = absurd (cc)

  command_is : (p : Parsed) (s : Select) (c : Compiled) → p.statement ≡ written.Select s → and_then (compile.planned schema p) (λ plan. Ok (compile.with_command p plan)) ≡ Ok c → compile.read schema s ≡ Ok c.command
  unfolding compile.planned compile.meaning compile.returning compile.command
  command_is p s c is made = planned_command p _ (compile.read schema s) c (rw is at made)

  pub understood_is : (text : List ℕ) (names keys : List Name) (p : Parsed) (s : Select) → compile.first text ≡ Ok p → p.statement ≡ written.Select s → IsOneSelect s names keys → compile.compiled listing_schema text ≡ Err NoSuchTable
      → (c : Compiled) → understood schema text ≡ Ok c → ReadsTable schema names keys c.command × (reads_listing schema text ≡ false)
  unfolding understood compile.compiled
  understood_is text names keys p s first is one unlisted c known = elim (cases_Bool (reads_listing schema text)) [
    | inl listing ↦ absurd (let none = rw (listing, unlisted) at known in cc)
    | inr direct ↦ (read_is s names keys one c.command (command_is p s c is (rw (direct, first) at known)), direct)
  ]
