-- What a SELECT of columns of one table stands for, whatever the tables are.
use Rattle.std.proofs.Common.{◌≡◌, ◌+◌, ℕ, true, false, ◌&&◌, List, [], ◌∷◌, ◌++◌, nat_lt, None, Ok, refl, sym, ap, ◌∙◌, inl, inr, append_assoc, append-nil}
use Rattle.std.specs.List.{position_from}
use Rattle.std.proofs.lemmas.Bool.{cases_Bool}
use Rattle.sqlite_ast.specs.declared.Expr.{Expr, out-Expr}
use Rattle.sqlite_ast.specs.declared.Expr.TheOpen.{Expr-F, Shown-F}
use Rattle.sqlite_ast.specs.declared.Shown as written
use Rattle.sqlite_ast.specs.declared.Source.{Source, out-Source}
use Rattle.sqlite_schema.specs.declared.schema.Schema.{Schema}
use Rattle.sqlite_schema.specs.Names.{same_name}
use Rattle.sqlite_resolve.specs.declared.state.State.{State}
use Rattle.sqlite_resolve.specs.declared.scope.Bound.{Bound}
use Rattle.sqlite_resolve.specs.declared.scope.Output.{Output}
use Rattle.sqlite_resolve.specs.Lowering.{Lowering, take_slot}
use Rattle.sqlite_resolve.specs.Scope.{Name, Context, is_rowid}
use Rattle.sqlite_resolve.specs.Select.{inside}
use Rattle.sqlite_resolve.specs.Expr.{lower}
use Rattle.sqlite_resolve.specs.Body as body
use Rattle.reg_store_opening.proofs.Resolved.{then_ok, ok_one, lift_ok, SpendsNothing, kept_on, Names, lowered}

-- ---- the columns of the result

-- a column by its name alone
abbrev pub IsColumn : written.Shown → Name → Type 0
IsColumn s name = (e : Expr) × (text : List ℕ) × (written.out-Shown s ≡ Shown-F.One e None text) × (out-Expr e ≡ Expr-F.Column None name) × (is_rowid name ≡ false)

abbrev pub AreDerivedRows : List written.Shown → List Name → Type 0
AreDerivedRows [] [] = Unit {0}
AreDerivedRows [] (name ∷ names) = ⊥
AreDerivedRows (s ∷ shown) [] = ⊥
AreDerivedRows (s ∷ shown) (name ∷ names) = IsColumn s name × AreDerivedRows shown names

abbrev pub AreOutputs : Schema → List Bound → List Name → List Output → Type 0
AreOutputs schema tables [] [] = Unit {0}
AreOutputs schema tables [] (o ∷ outs) = ⊥
AreOutputs schema tables (name ∷ names) [] = ⊥
AreOutputs schema tables (name ∷ names) (o ∷ outs) = (o.is_alias ≡ false) × Names schema tables name o.term × AreOutputs schema tables names outs

pub no_alias : (schema : Schema) (tables : List Bound) (names : List Name) (outs : List Output) (name : Name) (i : ℕ) → AreOutputs schema tables names outs → position_from (λ (o : Output). o.is_alias && same_name o.name name) i outs ≡ None
no_alias schema tables [] [] name i are = refl
no_alias schema tables [] (o ∷ outs) name i are = absurd are
no_alias schema tables (n ∷ names) [] name i are = absurd are
no_alias schema tables (n ∷ names) (o ∷ outs) name i are = rw are.0 (no_alias schema tables names outs name (i + 1) are.2)

module _ (schema : Schema) (b : Bound) where
  abbrev pub at_result : Context
  at_result = inside schema (record { tables = b ∷ []; shown = [] }) true

  shown_is : (done : List Output) (s : written.Shown) (layer : _) → written.out-Shown s ≡ layer → body.shown lower at_result (b ∷ []) done s ≡ body.shown_at lower at_result (b ∷ []) done layer
  unfolding body.shown
  shown_is done s layer is = ap (body.shown_at lower at_result (b ∷ []) done) is

  shown_names : (done : List Output) (s : written.Shown) (name : Name) → IsColumn s name → (st : State) (x : List Output × State) → body.shown lower at_result (b ∷ []) done s st ≡ Ok x
      → (o : Output) × (x.0 ≡ done ++ o ∷ []) × (o.is_alias ≡ false) × Names schema (b ∷ []) name o.term × SpendsNothing st x.1
  shown_names done s name is st x h =
      let e = is.0 in
      let known : body.shown_at lower at_result (b ∷ []) done (Shown-F.One e None is.1) st ≡ Ok x = ap (λ (f : Lowering (List Output)). f st) (sym (shown_is done s (Shown-F.One e None is.1) is.2)) ∙ h in
      let a = then_ok (lower at_result e st) _ _ known in
      let named = lowered schema b [] true name is.4 refl e is.3 st a.0 a.1 in
      let o : Output = record { name = body.heading at_result e is.1; is_alias = false; is_column = body.is_column e; term = a.0.0; carried = a.0.1.last } in
      let same = ok_one (done ++ o ∷ [], a.0.1) x a.2 in (
        o,
        ap (λ (p : List Output × State). p.0) (sym same),
        refl,
        named.0,
        (ap (λ (p : List Output × State). p.1.steps) (sym same) ∙ named.1.0, ap (λ (p : List Output × State). p.1.aggregates) (sym same) ∙ named.1.1),
      )

  pub outputs_names : (shown : List written.Shown) (names : List Name) → AreDerivedRows shown names → (done : List Output) (st : State) (x : List Output × State) → body.outputs_from lower at_result (b ∷ []) done shown st ≡ Ok x
      → (more : List Output) × (x.0 ≡ done ++ more) × AreOutputs schema (b ∷ []) names more × SpendsNothing st x.1
  outputs_names [] [] are done st x h =
      let same = ok_one (done, st) x h in
      ([], ap (λ (p : List Output × State). p.0) (sym same) ∙ sym (append-nil done), tt, (ap (λ (p : List Output × State). p.1.steps) (sym same), ap (λ (p : List Output × State). p.1.aggregates) (sym same)))
  outputs_names [] (name ∷ names) are done st x h = absurd are
  outputs_names (s ∷ shown) [] are done st x h = absurd are
  outputs_names (s ∷ shown) (name ∷ names) are done st x h =
      let a = then_ok (body.shown lower at_result (b ∷ []) done s st) _ _ h in
      let one = shown_names done s name are.0 st a.0 a.1 in
      let rest = outputs_names shown names are.1 a.0.0 a.0.1 x a.2 in (
        one.0 ∷ rest.0,
        rest.1 ∙ ap (λ l. l ++ rest.0) one.1 ∙ append_assoc done (one.0 ∷ []) rest.0,
        (one.2, one.3, rest.2),
        kept_on st a.0.1 x.1 one.4 rest.3,
      )

-- ---- FROM

slot_kept : (s : State) (x : ℕ × State) → take_slot s ≡ Ok x → SpendsNothing s x.1
unfolding take_slot
slot_kept s x h = elim (cases_Bool (nat_lt s.next 250)) [
  | inl within ↦ let same = ok_one _ x (rw within at h) in (ap (λ (y : ℕ × State). y.1.steps) (sym same), ap (λ (y : ℕ × State). y.1.aggregates) (sym same))
  | inr full ↦ absurd (let failed = rw full at h in cc)
]

bound_is : (schema : Schema) (source : Source) (s : State) (x : Bound × State) → body.bound schema source s ≡ Ok x → (x.0.shared ≡ (out-Source source).using) × SpendsNothing s x.1
unfolding body.bound
bound_is schema source s x h =
    let a = then_ok (take_slot s) _ _ h in
    let taken = slot_kept s a.0 a.1 in
    let c = then_ok _ _ _ a.2 in
    let found = lift_ok (body.table_in schema a.0.0 (out-Source source).origin) a.0.1 c.0 c.1 in
    let same = ok_one _ x c.2 in
    let kept : SpendsNothing a.0.1 c.0.1 = (ap (λ (q : State). q.steps) found.1, ap (λ (q : State). q.aggregates) found.1) in
    let last : SpendsNothing c.0.1 x.1 = (ap (λ (p : Bound × State). p.1.steps) (sym same), ap (λ (p : Bound × State). p.1.aggregates) (sym same)) in
    (ap (λ (p : Bound × State). p.0.shared) (sym same), kept_on s a.0.1 x.1 taken (kept_on a.0.1 c.0.1 x.1 kept last))

pub bounds_one : (schema : Schema) (source : Source) (s : State) (x : List Bound × State) → body.bounds schema (source ∷ []) s ≡ Ok x → (b : Bound) × (x.0 ≡ b ∷ []) × (b.shared ≡ (out-Source source).using) × SpendsNothing s x.1
unfolding body.bounds
bounds_one schema source s x h =
    let a = then_ok (body.bound schema source s) _ _ h in
    let is = bound_is schema source s a.0 a.1 in
    let same = ok_one (a.0.0 ∷ [], a.0.1) x a.2 in
    let last : SpendsNothing a.0.1 x.1 = (ap (λ (p : List Bound × State). p.1.steps) (sym same), ap (λ (p : List Bound × State). p.1.aggregates) (sym same)) in
    (a.0.0, ap (λ (p : List Bound × State). p.0) (sym same), is.0, kept_on s a.0.1 x.1 is.1 last)
