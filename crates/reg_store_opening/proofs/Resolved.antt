-- What a SELECT of columns of one table is resolved to, whatever the tables are.
use Rattle.std.proofs.Common.{◌≡◌, ℕ, Bool, true, false, List, [], ◌∷◌, nat_lt, Option, None, Some, Ok, Err, refl, sym, ap, subst, ◌∙◌, inl, inr}
use Rattle.std.proofs.lemmas.Bool.{cases_Bool}
use Rattle.sqlite_ast.specs.declared.Expr.{Expr, out-Expr}
use Rattle.sqlite_ast.specs.declared.Expr.TheOpen.{Expr-F}
use Rattle.sqlite_sql.specs.Term.{Term}
use Rattle.sqlite_schema.specs.declared.schema.Schema.{Schema}
use Rattle.sqlite_resolve.specs.declared.error.CompileError.TheVariants.{NoSuchColumn}
use Rattle.sqlite_resolve.specs.declared.state.State.{State}
use Rattle.sqlite_resolve.specs.declared.state.Carried.{Carried}
use Rattle.sqlite_resolve.specs.declared.scope.Bound.{Bound}
use Rattle.sqlite_resolve.specs.declared.scope.Output.{Output}
use Rattle.sqlite_resolve.specs.declared.scope.Level.{Level}
use Rattle.sqlite_resolve.specs.declared.scope.Found.{Found}
use Rattle.sqlite_resolve.specs.declared.scope.Found.TheVariants.{Column, Alias}
use Rattle.sqlite_resolve.specs.Lowering.{Checked, Lowering, and_then, spend, begin, finish, nothing}
use Rattle.sqlite_resolve.specs.Scope.{Name, Context, is_rowid, in_level, found_or, is_among, hit, column_in, only, alias_of, find, column, column_at, term_of}
use Rattle.sqlite_resolve.specs.Expr.{lower, lower_to, node, opened}
use Rattle.sqlite_resolve.specs.Select.{inside}

pub then_ok : {A B : Type 0} (r : Checked A) (f : A → Checked B) (b : B) → and_then r f ≡ Ok b → (a : A) × (r ≡ Ok a) × (f a ≡ Ok b)
then_ok (Ok a) f b h = (a, refl, h)
then_ok (Err e) f b h = absurd (cc)

abbrev pub fine : {A : Type 0} → A → Checked A
fine a = Ok a

pub ok_one : {A : Type 0} (a b : A) → fine a ≡ fine b → a ≡ b
ok_one a b h = cc

-- no step and no aggregate was added
abbrev pub SpendsNothing : State → State → Type 0
SpendsNothing old new = (new.steps ≡ old.steps) × (new.aggregates ≡ old.aggregates)

pub kept_on : (a b c : State) → SpendsNothing a b → SpendsNothing b c → SpendsNothing a c
kept_on a b c one two = (two.0 ∙ one.0, two.1 ∙ one.1)

spend_kept : (n : ℕ) (s : State) (x : Unit {0} × State) → spend n s ≡ Ok x → SpendsNothing s x.1
unfolding spend
spend_kept n s x h = elim (cases_Bool (nat_lt n s.budget)) [
  | inl within ↦ let same = ok_one _ x (rw within at h) in (ap (λ (y : Unit {0} × State). y.1.steps) (sym same), ap (λ (y : Unit {0} × State). y.1.aggregates) (sym same))
  | inr spent ↦ absurd (let failed = rw spent at h in cc)
]

pub lift_ok : {A : Type 0} (r : Checked A) (s : State) (x : A × State) → and_then r (λ a. Ok (a, s)) ≡ Ok x → (r ≡ Ok x.0) × (x.1 ≡ s)
lift_ok {A = A} (Ok a) s x h = let same = ok_one (a, s) x h in (ap (λ (y : A × State). fine y.0) same, ap (λ (y : A × State). y.1) (sym same))
lift_ok (Err e) s x h = absurd (cc)

-- ---- a column of the tables of one SELECT

-- the name finds a column of the tables, which is this term
pub record Names (schema : Schema) (tables : List Bound) (name : Name) (term : Term) : Type 0 where
  pub slot : ℕ
  pub table : ℕ
  pub at : ℕ
  pub carried : Carried
  pub found : only schema None name false tables ≡ Ok (Some (Column slot table at))
  pub is : column_at schema slot table at ≡ Ok (term, carried)

pub names_one : (schema : Schema) (tables : List Bound) (name : Name) (s t : Term) → Names schema tables name s → Names schema tables name t → s ≡ t
names_one schema tables name s t a b =
    let same : Some (Column a.slot a.table a.at) ≡ Some (Column b.slot b.table b.at) = ok_one _ _ (sym a.found ∙ b.found) in
    let slot : a.slot ≡ b.slot = cc in
    let table : a.table ≡ b.table = cc in
    let at : a.at ≡ b.at = cc in
    let is : column_at schema b.slot b.table b.at ≡ Ok (s, a.carried) = rw (slot, table, at) at a.is in
    let pair : (s, a.carried) ≡ (t, b.carried) = ok_one _ _ (sym is ∙ b.is) in
    ap (λ (p : Term × Carried). p.0) pair

hit_column : (schema : Schema) (name : Name) (b : Bound) (found : Found) → hit schema None name false b ≡ Some found → (at : ℕ) × (found ≡ Column b.slot b.table at)
unfolding hit column_in
hit_column schema name b found h = elim (cases_Bool (is_among name b.shared)) [
  | inl hidden ↦ absurd (let none = rw hidden at h in cc)
  | inr seen ↦ at_column _ found (rw seen at h)
]
  where
    at_column : (k : Option ℕ) (found : Found) → Rattle.std.specs.Prelude.option_map (Column b.slot b.table) k ≡ Some found → (at : ℕ) × (found ≡ Column b.slot b.table at)
    at_column (Some at) found h = (at, cc)
    at_column None found h = absurd (cc)

only_column : (schema : Schema) (name : Name) (b : Bound) (found : Found) → only schema None name false (b ∷ []) ≡ Ok (Some found) → (at : ℕ) × (found ≡ Column b.slot b.table at)
unfolding only
only_column schema name b found h = only_hit (hit schema None name false b) refl h
  where
    only_hit : (k : Option Found) → hit schema None name false b ≡ k → and_then (Rattle.sqlite_resolve.specs.Scope.at_most_one None k) (λ f. Ok f) ≡ Ok (Some found) → (at : ℕ) × (found ≡ Column b.slot b.table at)
    only_hit (Some x) is h = hit_column schema name b found (is ∙ ok_one (Some x) (Some found) h)
    only_hit None is h = absurd (let none = ok_one None (Some found) h in cc)

module _ (schema : Schema) (b : Bound) (shown : List Output) (aggregates : Bool) (name : Name) (plain : is_rowid name ≡ false) (unaliased : alias_of name shown ≡ None) where
  abbrev level : Level
  level = record { tables = b ∷ []; shown = shown }

  abbrev here : Context
  here = inside schema level aggregates

  level_finds : (l : Option Found) (found : Found) → in_level schema None name 0 level ≡ Ok l → found_or (Err NoSuchColumn) l ≡ Ok found → only schema None name false (b ∷ []) ≡ Ok (Some found)
  unfolding in_level
  level_finds l found h is = let o = then_ok _ _ _ h in from o.0 o.1 o.2
    where
      from : (o : Option Found) → only schema None name false (b ∷ []) ≡ Ok o
          → (Rattle.std.specs.Prelude.if◌then◌else◌ (Rattle.std.specs.Prelude.is_some o) (Ok o) (and_then (Rattle.std.specs.Prelude.if◌then◌else◌ (is_rowid name) (only schema None name true (b ∷ [])) (Ok None)) (λ r. Rattle.std.specs.Prelude.if◌then◌else◌ (Rattle.std.specs.Prelude.◌||◌ (Rattle.std.specs.Prelude.is_some r) false) (Ok r) (Ok (Rattle.std.specs.Prelude.option_map (Alias 0) (alias_of name shown)))))) ≡ Ok l
          → only schema None name false (b ∷ []) ≡ Ok (Some found)
      from (Some y) known rest =
          let same : Some y ≡ l = ok_one (Some y) l rest in
          let one : y ≡ found = ok_one y found (subst (λ k. found_or (Err NoSuchColumn) k ≡ Ok found) (sym same) is) in
          known ∙ ap (λ k. fine (Some k)) one
      from None known rest =
          let none : None ≡ l = ok_one None l (rw (plain, unaliased) at rest) in
          absurd (let failed = subst (λ k. found_or (Err NoSuchColumn) k ≡ Ok found) (sym none) is in cc)

  find_finds : (found : Found) → find here None name ≡ Ok found → only schema None name false (b ∷ []) ≡ Ok (Some found)
  unfolding find
  find_finds found h = let l = then_ok _ _ _ h in level_finds l.0 found l.1 l.2

  term_names : (slot table at : ℕ) (s : State) (x : Term × State) → only schema None name false (b ∷ []) ≡ Ok (Some (Column slot table at)) → term_of here (Column slot table at) s ≡ Ok x → Names schema (b ∷ []) name x.0 × SpendsNothing s x.1
  unfolding term_of
  term_names slot table at s x found h =
      let y = then_ok _ _ _ h in
      let z = lift_ok (column_at schema slot table at) s y.0 y.1 in
      let same = ok_one (y.0.0.0, record y.0.1 { last = y.0.0.1 }) x y.2 in
      let kept : SpendsNothing s y.0.1 = (ap (λ (q : State). q.steps) z.1, ap (λ (q : State). q.aggregates) z.1) in (
        record { slot = slot; table = table; at = at; carried = y.0.0.1; found = found; is = z.0 ∙ ap (λ (p : Term × State). fine (p.0, y.0.0.1)) same },
        (ap (λ (p : Term × State). p.1.steps) (sym same) ∙ kept.0, ap (λ (p : Term × State). p.1.aggregates) (sym same) ∙ kept.1),
      )

  column_names : (s : State) (x : Term × State) → column here None name s ≡ Ok x → Names schema (b ∷ []) name x.0 × SpendsNothing s x.1
  unfolding column
  column_names s x h =
      let y = then_ok _ _ _ h in
      let f = lift_ok (find here None name) s y.0 y.1 in
      let found = find_finds y.0.0 f.0 in
      let is = only_column schema name b y.0.0 found in
      let known : only schema None name false (b ∷ []) ≡ Ok (Some (Column b.slot b.table is.0)) = found ∙ ap (λ k. fine (Some k)) is.1 in
      let term : term_of here (Column b.slot b.table is.0) s ≡ Ok x = subst (λ k. term_of here (Column b.slot b.table is.0) k ≡ Ok x) f.1 (subst (λ k. term_of here k y.0.1 ≡ Ok x) is.1 y.2) in
      term_names b.slot b.table is.0 s x known term

  opened_is : (inner : Context → Expr → Lowering Term) (e : Expr) → out-Expr e ≡ Expr-F.Column None name → opened inner here e ≡ column here None name
  unfolding opened
  opened_is inner e is = rw is refl

  node_names : (inner : Context → Expr → Lowering Term) (e : Expr) → out-Expr e ≡ Expr-F.Column None name → (s : State) (x : Term × State) → node inner here e s ≡ Ok x → Names schema (b ∷ []) name x.0 × SpendsNothing s x.1
  unfolding node begin finish
  node_names inner e is s x h =
      let a = then_ok (spend 1 s) _ _ h in
      let begun : State = record a.0.1 { written = None; last = nothing } in
      let c = then_ok (opened inner here e begun) _ _ a.2 in
      let found : column here None name begun ≡ Ok c.0 = ap (λ (f : Lowering Term). f begun) (sym (opened_is inner e is)) ∙ c.1 in
      let named = column_names begun c.0 found in
      let same = ok_one _ x c.2 in
      let spent = spend_kept 1 s a.0 a.1 in (
        subst (Names schema (b ∷ []) name) (ap (λ (p : Term × State). p.0) same) named.0,
        (ap (λ (p : Term × State). p.1.steps) (sym same) ∙ named.1.0 ∙ spent.0, ap (λ (p : Term × State). p.1.aggregates) (sym same) ∙ named.1.1 ∙ spent.1),
      )

  pub lowered : (e : Expr) → out-Expr e ≡ Expr-F.Column None name → (s : State) (x : Term × State) → lower here e s ≡ Ok x → Names schema (b ∷ []) name x.0 × SpendsNothing s x.1
  unfolding lower_to
  lowered e is s x h = node_names (lower_to 699) e is s x h
