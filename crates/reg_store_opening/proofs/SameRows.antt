-- A query on one table reads the same rows each time.
use Rattle.std.proofs.Common.{◌≡◌, ℕ, ◌^◌, nat_le, List, [], ◌∷◌, map, None, refl, sym, ap, subst, ◌∙◌, inl, inr}
use Rattle.std.specs.List.{filter}
use Rattle.std.specs.List.Sorted.{IsPermutation}
use Rattle.std.proofs.lemmas.Bool.{cases_Bool}
use Rattle.std.proofs.lemmas.List.Sorted.{IsPermutation-sym, IsPermutation-trans}
use Rattle.sqlite_value.specs.Order.{Row}
use Rattle.sqlite_value.specs.declared.keys.Key.{Key}
use Rattle.sqlite_trees.specs.Tree.{Trees}
use Rattle.sqlite_sql.specs.Term.{Term}
use Rattle.sqlite_sql.specs.Query.{Query}
use Rattle.sqlite_sql.specs.Program.{overlay}
use Rattle.sqlite_schema.specs.declared.command.Command.{Command}
use Rattle.sqlite_schema.specs.declared.schema.Schema.{Schema}
use Rattle.sqlite_resolve.specs.declared.scope.Output as scope
use Rattle.sqlite.specs.declared.error.Error.{Error}
use Rattle.sqlite.specs.Effect.{Database, Reads, RefusesToRead}
use Rattle.sqlite.proofs.Callers.{one_permutation}
use Rattle.reg_store_tables.proofs.PublicLaws.{selects, as_command, no_limit, passes, shows, Given, given}
use Rattle.reg_store_opening.proofs.Understood.{ReadsTable}

pub plain_tree : (trees : Trees) (tree : ℕ) → overlay trees [] tree ≡ trees tree
plain_tree trees tree = elim (cases_Bool (nat_le (2 ^ 31) tree)) [ inl above ↦ rw above refl | inr below ↦ rw below refl ]

-- what is read is not refused
pub not_both : (schema : Schema) (names keys : List (List ℕ)) (k : Command) → ReadsTable schema names keys k → (db : Database) (rows : List Row) (e : Error) → Reads k db [] rows → RefusesToRead None k db [] e → ⊥
not_both schema names keys k it db rows e reads refuses =
    let query = selects it.3.tree [] (map (λ (o : scope.Output). o.term) it.3.outs) it.3.order no_limit in
    let command : k ≡ as_command query it.1 = it.2 ∙ ap (λ q. as_command q it.1) it.3.is in
    clash query.project query.order it.3.tree it.1 (subst (λ c. Reads c db [] rows) command reads) (subst (λ c. RefusesToRead None c db [] e) command refuses)
  where
    clash : (project : List Term) (order : List (Term × Key)) (tree : ℕ) (shown : List (List ℕ)) → Reads (as_command (selects tree [] project order no_limit) shown) db [] rows → RefusesToRead None (as_command (selects tree [] project order no_limit) shown) db [] e → ⊥
    clash project order tree shown reads (inl h) = absurd (let no = h.1 in let well = reads.typed in cc)
    clash project order tree shown reads (inr (inl h)) = elim h.1 [
      | inl overflows ↦ absurd overflows
      | inr any ↦ absurd any.4
    ]
    clash project order tree shown reads (inr (inr h)) = absurd (let none = h.1 in cc)

module _ (tree : ℕ) (project : List Term) (order : List (Term × Key)) (shown : List (List ℕ)) (db : Database) where
  abbrev query : Query
  query = selects tree [] project order no_limit

  abbrev pub Answer : List Row → Type 0
  Answer rows = Given (passes [] []) (shows query []) (db.trees tree) query [] rows

  pub answer : (rows : List Row) → Reads (as_command query shown) db [] rows → Answer rows
  answer rows reads = given (passes [] []) (shows query []) (db.trees tree) tree [] project order no_limit [] shown db rows (plain_tree db.trees tree) refl reads

  one_of : {A B : Type 0} (f : A → B) (xs : List A) (y : B) → y ∷ [] ≡ map f xs → (x : A) × (xs ≡ x ∷ [])
  one_of f [] y h = absurd (cc)
  one_of f (x ∷ []) y h = (x, refl)
  one_of f (x ∷ z ∷ xs) y h = absurd (cc)

  -- one row
  one_again : (rows others : List Row) (row : Row) → Answer rows → Answer others → rows ≡ row ∷ [] → others ≡ rows
  one_again rows others row a c one =
      let it = one_of (λ r. (shows query [] r).1) a.to row (sym one ∙ a.shown) in
      let kept = filter (passes [] []) (db.trees tree) in
      let mine : IsPermutation kept (it.0 ∷ []) = subst (IsPermutation kept) it.1 a.same in
      let both : IsPermutation (it.0 ∷ []) c.to = IsPermutation-trans _ _ _ (IsPermutation-sym _ _ mine) c.same in
      let same : c.to ≡ a.to = one_permutation it.0 c.to both ∙ sym it.1 in
      c.shown ∙ ap (map (λ r. (shows query [] r).1)) same ∙ sym a.shown

pub same_row : (schema : Schema) (names keys : List (List ℕ)) (k : Command) → ReadsTable schema names keys k → (db : Database) (rows others : List Row) (row : Row) → Reads k db [] rows → Reads k db [] others → rows ≡ row ∷ [] → others ≡ rows
same_row schema names keys k it db rows others row one two is =
    let project = map (λ (o : scope.Output). o.term) it.3.outs in
    let query = selects it.3.tree [] project it.3.order no_limit in
    let command : k ≡ as_command query it.1 = it.2 ∙ ap (λ q. as_command q it.1) it.3.is in
    one_again it.3.tree project it.3.order it.1 db rows others row (answer it.3.tree project it.3.order it.1 db rows (subst (λ c. Reads c db [] rows) command one))
    (answer it.3.tree project it.3.order it.1 db others (subst (λ c. Reads c db [] others) command two)) is
