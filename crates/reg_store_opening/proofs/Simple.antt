-- A SELECT of columns of one table, with no more than an order, whatever the tables are.
use Rattle.std.proofs.Common.{◌≡◌, ◌==◌, ℕ, Bool, true, false, not, List, [], ◌∷◌, ◌++◌, length, None, Ok, refl, sym, ap, subst, ◌∙◌, inl, inr, append_assoc, append-nil}
use Rattle.sqlite_value.specs.declared.keys.Collation.{Collation}
use Rattle.sqlite_value.specs.declared.keys.Key.{Key}
use Rattle.sqlite_ast.specs.declared.Expr.{Expr, out-Expr}
use Rattle.sqlite_ast.specs.declared.Expr.TheOpen.{Expr-F}
use Rattle.sqlite_ast.specs.declared.Sort.{Sort, out-Sort}
use Rattle.sqlite_ast.specs.declared.Source.{Source, out-Source}
use Rattle.sqlite_ast.specs.declared.Core.{Core, out-Core}
use Rattle.sqlite_sql.specs.Term.{Term}
use Rattle.sqlite_schema.specs.declared.schema.Schema.{Schema}
use Rattle.sqlite_draft.specs.declared.join.Step.TheVariants.{Inner}
use Rattle.sqlite_resolve.specs.declared.state.State.{State}
use Rattle.sqlite_resolve.specs.declared.scope.Bound.{Bound}
use Rattle.sqlite_resolve.specs.declared.scope.Output.{Output}
use Rattle.sqlite_resolve.specs.declared.body.Joined.{Joined}
use Rattle.sqlite_resolve.specs.declared.body.Body.{Body}
use Rattle.sqlite_resolve.specs.declared.select.Clauses.{Clauses}
use Rattle.sqlite_resolve.specs.Lowering.{Lowering, and_then}
use Rattle.sqlite_resolve.specs.Scope.{Name, Context, is_rowid, alias_of}
use Rattle.sqlite_resolve.specs.Select.{inside, outermost}
use Rattle.sqlite_resolve.specs.Expr.{lower}
use Rattle.sqlite_resolve.specs.Body as body
use Rattle.sqlite_resolve.specs.Order as order
use Rattle.sqlite_resolve.specs.Select as select
use Rattle.std.proofs.lemmas.Bool.{cases_Bool}
use Rattle.sqlite_sql.specs.Term.{reads_below}
use Rattle.sqlite_resolve.specs.Program.{is_named}
use Rattle.reg_store_opening.proofs.Resolved.{then_ok, ok_one, lift_ok, SpendsNothing, kept_on, Names, lowered}
use Rattle.reg_store_opening.proofs.OneTable.{AreDerivedRows, AreOutputs, no_alias, outputs_names, bounds_one}

-- ---- the join

module _ (schema : Schema) (b : Bound) (shared : b.shared ≡ []) (shown : List Output) (aggregates : Bool) where
  abbrev here : Context
  here = inside schema (record { tables = b ∷ []; shown = shown }) aggregates

  no_sharing : (s : State) → body.shared here (b ∷ []) b s ≡ Ok ([], s)
  unfolding body.shared
  no_sharing s = rw shared refl

  abbrev pub scans : ℕ → Joined
  scans tree = record { steps = Inner tree ∷ []; filter = [] }

  joined : (source : Source) → (out-Source source).is_left ≡ false → (out-Source source).on ≡ None → (s : State) (x : Joined × State) → body.join lower here (b ∷ []) (record { steps = []; filter = [] }) b source s ≡ Ok x
      → (tree : ℕ) × (x.0 ≡ scans tree) × SpendsNothing s x.1
  unfolding body.join body.inner_join body.tests
  joined source inner on s x h =
      let known = rw (inner, on) at h in
      let a = then_ok _ _ _ known in
      let table = lift_ok (body.table_at schema b.table) s a.0 a.1 in
      let c = then_ok (body.shared here (b ∷ []) b a.0.1) _ _ a.2 in
      let none = ok_one ([], a.0.1) c.0 (sym (no_sharing a.0.1) ∙ c.1) in
      let made : body.inner_join lower here (record { steps = []; filter = [] }) a.0.0.tree [] None a.0.1 ≡ Ok x =
      subst (λ (y : List Term × State). body.inner_join lower here (record { steps = []; filter = [] }) a.0.0.tree y.0 None y.1 ≡ Ok x) (sym none) c.2 in
      let same = ok_one (scans a.0.0.tree, a.0.1) x made in (
        a.0.0.tree,
        ap (λ (p : Joined × State). p.0) (sym same),
        (ap (λ (p : Joined × State). p.1.steps) (sym same) ∙ ap (λ (q : State). q.steps) table.1, ap (λ (p : Joined × State). p.1.aggregates) (sym same) ∙ ap (λ (q : State). q.aggregates) table.1),
      )

  pub joins_one : (source : Source) → (out-Source source).is_left ≡ false → (out-Source source).on ≡ None → (out-Source source).using ≡ [] → (s : State) (x : Joined × State) → body.joins lower here (b ∷ []) (source ∷ []) s ≡ Ok x
      → (tree : ℕ) × (x.0 ≡ scans tree) × SpendsNothing s x.1
  unfolding body.joins
  joins_one source inner on using s x h =
      let known = rw (on, using) at h in
      let a = then_ok (body.join lower here (b ∷ []) (record { steps = []; filter = [] }) b source s) _ _ known in
      let one = joined source inner on s a.0 a.1 in
      let same = ok_one a.0 x a.2 in
      (one.0, ap (λ (p : Joined × State). p.0) (sym same) ∙ one.1, (ap (λ (p : Joined × State). p.1.steps) (sym same) ∙ one.2.0, ap (λ (p : Joined × State). p.1.aggregates) (sym same) ∙ one.2.1))

-- ---- ORDER BY

-- a column by its name alone, upwards
pub record IsKey (s : Sort) (name : Name) : Type 0 where
  pub is : out-Expr (out-Sort s).key ≡ Expr-F.Column None name
  pub plain : is_rowid name ≡ false
  pub nulls : (out-Sort s).nulls_first ≡ None
  pub upwards : (out-Sort s).descending ≡ false

abbrev pub AreKeys : List Sort → List Name → Type 0
AreKeys [] [] = Unit {0}
AreKeys [] (name ∷ names) = ⊥
AreKeys (s ∷ sorts) [] = ⊥
AreKeys (s ∷ sorts) (name ∷ names) = IsKey s name × AreKeys sorts names

abbrev pub AreSorted : Schema → List Bound → List Name → List (Term × Key) → Type 0
AreSorted schema tables [] [] = Unit {0}
AreSorted schema tables [] (k ∷ keys) = ⊥
AreSorted schema tables (name ∷ names) [] = ⊥
AreSorted schema tables (name ∷ names) (k ∷ keys) = (k.1.descending ≡ false) × Names schema tables name k.0 × AreSorted schema tables names keys

collation_kept : (e : Expr) (s : State) (x : Collation × State) → order.collation_of e s ≡ Ok x → x.1 ≡ s
unfolding order.collation_of
collation_kept e s x h = let same = ok_one _ x h in ap (λ (p : Collation × State). p.1) (sym same)

module _ (schema : Schema) (b : Bound) (columns : List Name) (outs : List Output) (are : AreOutputs schema (b ∷ []) columns outs) (aggregates : Bool) where
  abbrev pub at_order : Context
  at_order = inside schema (record { tables = b ∷ []; shown = outs }) aggregates

  unaliased : (name : Name) → alias_of name outs ≡ None
  unaliased name = no_alias schema (b ∷ []) columns outs name 0 are

  key_names : (e : Expr) (name : Name) → out-Expr e ≡ Expr-F.Column None name → is_rowid name ≡ false → (s : State) (x : Term × State) → order.key lower at_order outs e s ≡ Ok x → Names schema (b ∷ []) name x.0 × SpendsNothing s x.1
  unfolding order.key order.is_numeral
  key_names e name is plain s x h =
      let known = rw is at h in
      let a = then_ok (lower at_order e s) _ _ known in
      let named = lowered schema b outs aggregates name plain (unaliased name) e is s a.0 a.1 in
      elim (cases_Bool (reads_below 1 a.0.0)) [
        | inl constant ↦ absurd (let failed = rw constant at a.2 in cc)
        | inr reads ↦ let same = ok_one a.0 x (rw reads at a.2) in subst (λ (y : Term × State). Names schema (b ∷ []) name y.0 × SpendsNothing s y.1) same named
      ]

  peeled_is : (e : Expr) (name : Name) → out-Expr e ≡ Expr-F.Column None name → order.peeled e ≡ e
  unfolding order.peeled
  peeled_is e name is = ap (order.peeled_at e) is

  alias_is : (e : Expr) (name : Name) → out-Expr e ≡ Expr-F.Column None name → order.alias_in outs e ≡ None
  unfolding order.alias_in
  alias_is e name is = ap (order.alias_at outs) is ∙ unaliased name

  sort_names : (done : List (Term × Key)) (k : Sort) (name : Name) → IsKey k name → (s : State) (x : List (Term × Key) × State) → order.sort lower at_order outs done k s ≡ Ok x
      → (key : Term × Key) × (x.0 ≡ done ++ key ∷ []) × (key.1.descending ≡ false) × Names schema (b ∷ []) name key.0 × SpendsNothing s x.1
  unfolding order.sort order.placed
  sort_names done k name is s x h =
      let e : Expr = (out-Sort k).key in
      let found : order.aliased_or lower at_order outs (order.peeled e) (order.alias_in outs (order.peeled e)) ≡ order.key lower at_order outs e =
      ap (λ p. order.aliased_or lower at_order outs p (order.alias_in outs p)) (peeled_is e name is.is) ∙ ap (order.aliased_or lower at_order outs e) (alias_is e name is.is) in
      let a = then_ok (order.aliased_or lower at_order outs (order.peeled e) (order.alias_in outs (order.peeled e)) s) _ _ h in
      let named = key_names e name is.is is.plain s a.0 (ap (λ (f : Lowering Term). f s) (sym found) ∙ a.1) in
      let c = then_ok (order.collation_of e a.0.1) _ _ a.2 in
      let how = collation_kept e a.0.1 c.0 c.1 in
      let put : order.placed done (record { collation = c.0.0; descending = (out-Sort k).descending }) None a.0.0 c.0.1 ≡ Ok x =
      subst (λ n. order.placed done (record { collation = c.0.0; descending = (out-Sort k).descending }) n a.0.0 c.0.1 ≡ Ok x) is.nulls c.2 in
      let key : Term × Key = (a.0.0, record { collation = c.0.0; descending = (out-Sort k).descending }) in
      let same = ok_one (done ++ key ∷ [], c.0.1) x put in (
        key,
        ap (λ (p : List (Term × Key) × State). p.0) (sym same),
        is.upwards,
        named.0,
        (
          ap (λ (p : List (Term × Key) × State). p.1.steps) (sym same) ∙ ap (λ (q : State). q.steps) how ∙ named.1.0,
          ap (λ (p : List (Term × Key) × State). p.1.aggregates) (sym same) ∙ ap (λ (q : State). q.aggregates) how ∙ named.1.1,
        ),
      )

  sorts_names : (sorts : List Sort) (names : List Name) → AreKeys sorts names → (done : List (Term × Key)) (s : State) (x : List (Term × Key) × State) → order.sorts_from lower at_order outs done sorts s ≡ Ok x
      → (more : List (Term × Key)) × (x.0 ≡ done ++ more) × AreSorted schema (b ∷ []) names more × SpendsNothing s x.1
  sorts_names [] [] are done s x h =
      let same = ok_one (done, s) x h in (
        [],
        ap (λ (p : List (Term × Key) × State). p.0) (sym same) ∙ sym (append-nil done),
        tt,
        (ap (λ (p : List (Term × Key) × State). p.1.steps) (sym same), ap (λ (p : List (Term × Key) × State). p.1.aggregates) (sym same)),
      )
  sorts_names [] (name ∷ names) are done s x h = absurd are
  sorts_names (k ∷ sorts) [] are done s x h = absurd are
  sorts_names (k ∷ sorts) (name ∷ names) are done s x h =
      let a = then_ok (order.sort lower at_order outs done k s) _ _ h in
      let one = sort_names done k name are.0 s a.0 a.1 in
      let rest = sorts_names sorts names are.1 a.0.0 a.0.1 x a.2 in (
        one.0 ∷ rest.0,
        rest.1 ∙ ap (λ l. l ++ rest.0) one.1 ∙ append_assoc done (one.0 ∷ []) rest.0,
        (one.2, one.3, rest.2),
        kept_on s a.0.1 x.1 one.4 rest.3,
      )

-- ---- one SELECT

pub record IsBare (core : Core) (source : Source) (names : List Name) : Type 0 where
  pub from : (out-Core core).from ≡ source ∷ []
  pub inner : (out-Source source).is_left ≡ false
  pub on : (out-Source source).on ≡ None
  pub using : (out-Source source).using ≡ []
  pub named : is_named (out-Source source).origin ≡ true
  pub shown : AreDerivedRows (out-Core core).shown names
  pub filter : (out-Core core).filter ≡ None
  pub group : (out-Core core).group ≡ []
  pub having : (out-Core core).having ≡ None
  pub distinct : (out-Core core).distinct ≡ false

module _ (schema : Schema) (core : Core) (source : Source) (names : List Name) (bare : IsBare core source names) where
  matching_is : (b : Bound) (outs : List Output) → b.shared ≡ [] → (s : State) (x : Joined × State) → body.matching lower (outermost schema) (record { tables = b ∷ []; shown = outs }) core s ≡ Ok x
      → (tree : ℕ) × (x.0 ≡ record { steps = Inner tree ∷ []; filter = [] }) × SpendsNothing s x.1
  unfolding body.matching body.tests
  matching_is b outs shared s x h =
      let known = rw (bare.from, bare.filter) at h in
      let a = then_ok (body.joins lower (inside schema (record { tables = b ∷ []; shown = outs }) false) (b ∷ []) (source ∷ []) s) _ _ known in
      let one = joins_one schema b shared outs false source bare.inner bare.on bare.using s a.0 a.1 in
      let same = ok_one a.0 x a.2 in
      subst (λ (y : Joined × State). (tree : ℕ) × (y.0 ≡ record { steps = Inner tree ∷ []; filter = [] }) × SpendsNothing s y.1) same one

  -- what FROM and the result are resolved to
  abbrev pub bare_body : Bound → List Output → ℕ → Body
  bare_body b outs tree = record { level = record { tables = b ∷ []; shown = outs }; steps = Inner tree ∷ []; filter = [] }

  abbrev pub IsBody : State → Body × State → Type 0
  IsBody s x = (b : Bound) × (outs : List Output) × (tree : ℕ) × (x.0 ≡ bare_body b outs tree) × AreOutputs schema (b ∷ []) names outs × SpendsNothing s x.1

  body_after : (b : Bound) → b.shared ≡ [] → (s : State) (x : Body × State)
      → and_then (body.result lower (outermost schema) (record { tables = b ∷ []; shown = [] }) core s) (λ q. and_then (body.matching lower (outermost schema) (record { tables = b ∷ []; shown = q.0 }) core q.1) (λ m. Ok (record { level = record { tables = b ∷ []; shown = q.0 }; steps = m.0.steps; filter = m.0.filter }, m.1))) ≡ Ok x
      → IsBody s x
  unfolding body.result body.outputs
  body_after b shared s x h =
      let c = then_ok (body.result lower (outermost schema) (record { tables = b ∷ []; shown = [] }) core s) _ _ h in
      let outs = outputs_names schema b (out-Core core).shown names bare.shown [] s c.0 c.1 in
      let d = then_ok (body.matching lower (outermost schema) (record { tables = b ∷ []; shown = c.0.0 }) core c.0.1) _ _ c.2 in
      let one = matching_is b c.0.0 shared c.0.1 d.0 d.1 in
      let same = ok_one (record { level = record { tables = b ∷ []; shown = c.0.0 }; steps = d.0.0.steps; filter = d.0.0.filter }, d.0.1) x d.2 in
      let kept : SpendsNothing s d.0.1 = kept_on s c.0.1 d.0.1 outs.3 one.2 in (
        b,
        c.0.0,
        one.0,
        ap (λ (p : Body × State). p.0) (sym same) ∙ ap (λ (j : Joined). record { level = record { tables = b ∷ []; shown = c.0.0 }; steps = j.steps; filter = j.filter }) one.1,
        subst (AreOutputs schema (b ∷ []) names) (sym outs.1) outs.2,
        (ap (λ (p : Body × State). p.1.steps) (sym same) ∙ kept.0, ap (λ (p : Body × State). p.1.aggregates) (sym same) ∙ kept.1),
      )

  body_is : (s : State) (x : Body × State) → body.body lower (outermost schema) core s ≡ Ok x → IsBody s x
  unfolding body.body
  body_is s x h =
      let a = then_ok (body.bounds schema (out-Core core).from s) _ _ h in
      let one = bounds_one schema source s a.0 (ap (λ l. body.bounds schema l s) (sym bare.from) ∙ a.1) in
      let moved =
      subst (λ t. and_then (body.result lower (outermost schema) (record { tables = t; shown = [] }) core a.0.1) (λ q. and_then (body.matching lower (outermost schema) (record { tables = t; shown = q.0 }) core q.1) (λ m. Ok (record { level = record { tables = t; shown = q.0 }; steps = m.0.steps; filter = m.0.filter }, m.1))) ≡ Ok x)
      one.1 a.2 in
      let it = body_after one.0 (one.2 ∙ bare.using) a.0.1 x moved in
      (it.0, it.1, it.2, it.3, it.4, kept_on s a.0.1 x.1 one.3 it.5)

  module _ (sorts : List Sort) (keys : List Name) (are : AreKeys sorts keys) where
    pub record IsClauses (s : State) (x : Clauses × State) : Type 0 where
      pub b : Bound
      pub outs : List Output
      pub tree : ℕ
      pub body : x.0.body ≡ bare_body b outs tree
      pub shown : AreOutputs schema (b ∷ []) names outs
      pub sorted : AreSorted schema (b ∷ []) keys x.0.order
      pub ungrouped : s.aggregates ≡ [] → x.0.is_grouped ≡ false
      pub kept : SpendsNothing s x.1

    pub parts_is : (s : State) (x : Clauses × State) → select.parts schema core sorts s ≡ Ok x → IsClauses s x
    unfolding select.parts select.having body.tests order.keys order.sorts
    parts_is s x h =
        let known = rw (bare.group, bare.having) at h in
        let a = then_ok (body.body lower (outermost schema) core s) _ _ known in
        let it = body_is s a.0 a.1 in
        let grouped : Bool = not (length a.0.1.aggregates == 0) in
        let c = then_ok (order.sorts lower (inside schema a.0.0.level grouped) a.0.0.level.shown sorts a.0.1) _ _ a.2 in
        let here : order.sorts_from lower (inside schema (record { tables = it.0 ∷ []; shown = it.1 }) grouped) it.1 [] sorts a.0.1 ≡ Ok c.0 =
        subst (λ (w : Body). order.sorts_from lower (inside schema w.level grouped) w.level.shown [] sorts a.0.1 ≡ Ok c.0) it.3 c.1 in
        let order_is = sorts_names schema it.0 names it.1 it.4 grouped sorts keys are [] a.0.1 c.0 here in
        let same = ok_one (record { body = a.0.0; is_grouped = grouped; keys = []; collations = []; having = []; order = c.0.0 }, c.0.1) x c.2 in
        let kept : SpendsNothing s c.0.1 = kept_on s a.0.1 c.0.1 it.5 order_is.3 in
        record {
          b = it.0;
          outs = it.1;
          tree = it.2;
          body = ap (λ (p : Clauses × State). p.0.body) (sym same) ∙ it.3;
          shown = it.4;
          sorted = subst (AreSorted schema (it.0 ∷ []) keys) (sym order_is.1 ∙ ap (λ (p : Clauses × State). p.0.order) same) order_is.2;
          ungrouped = λ none. ap (λ (p : Clauses × State). p.0.is_grouped) (sym same) ∙ ap (λ (l : List _). not (length l == 0)) (it.5.1 ∙ none);
          kept = (ap (λ (p : Clauses × State). p.1.steps) (sym same) ∙ kept.0, ap (λ (p : Clauses × State). p.1.aggregates) (sym same) ∙ kept.1);
        }
