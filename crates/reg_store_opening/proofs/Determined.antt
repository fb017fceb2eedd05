-- Over tables with no view, what is told as no register is none.
use Rattle.std.proofs.Common.{◌≡◌, ℕ, true, List, [], ◌∷◌, map, refl, sym, ap, subst, ◌∙◌}
use Rattle.std.specs.List.{filter}
use Rattle.std.specs.List.Sorted.{IsPermutation}
use Rattle.std.specs.Ordering.{is_lt}
use Rattle.std.proofs.lemmas.List.Sorted.{IsPermutation-sym, IsPermutation-trans, IsPermutation-map}
use Rattle.sqlite_value.specs.Order.{Row}
use Rattle.sqlite_value.specs.Keys.{ascending}
use Rattle.sqlite_value.specs.declared.keys.Collation.{Collation}
use Rattle.sqlite_value.specs.declared.keys.Collation.TheVariants.{Binary, NoCase, RTrim}
use Rattle.sqlite_value.specs.declared.keys.Key.{Key}
use Rattle.sqlite_trees.proofs.ListLemmas.{pull_back}
use Rattle.sqlite_sql.specs.Term.{Term}
use Rattle.sqlite_sql.specs.Query.{Query, Output, key_cmp}
use Rattle.sqlite_schema.specs.declared.command.Command.{Command}
use Rattle.sqlite_schema.specs.declared.schema.Schema.{Schema}
use Rattle.sqlite_resolve.specs.declared.scope.Output as scope
use Rattle.sqlite_resolve.specs.declared.scope.Bound.{Bound}
use Rattle.sqlite_resolve.specs.Scope.{Name}
use Rattle.sqlite.specs.Effect.{Database, Reads}
use Rattle.reg_core.specs.Schedule.{Ascends}
use Rattle.reg_store_tables.specs.ReadStatements.{shown_step}
use Rattle.reg_store_tables.specs.Rows.{number}
use Rattle.reg_store_tables.proofs.PublicLaws.{selects, as_command, no_limit, passes, shows, Given, given, ascending_key, ascends, sorted_same, ascends_rises, moment_of, all_kept}
use Rattle.reg_store_opening.specs.VersionAndOffice.{AreSteps}
use Rattle.reg_store_opening.proofs.Resolved.{Names, names_one}
use Rattle.reg_store_opening.proofs.Registered.{are_steps}
use Rattle.reg_store_opening.proofs.OneTable.{AreOutputs}
use Rattle.reg_store_opening.proofs.Simple.{AreSorted}
use Rattle.reg_store_opening.proofs.Understood.{ReadsTable}
use Rattle.reg_store_opening.proofs.SameRows.{answer, plain_tree}

-- ---- steps

-- a collation speaks of texts alone
by_number : (c : Collation) (a b : ℕ) → key_cmp 0 (ascending c ∷ []) (number a ∷ []) (number b ∷ []) ≡ key_cmp 0 (ascending_key ∷ []) (number a ∷ []) (number b ∷ [])
by_number Binary a b = refl
by_number NoCase a b = refl
by_number RTrim a b = refl

abbrev out : ℕ × ℕ → Output
out step = (number step.0 ∷ [], shown_step step)

module _ (tree : ℕ) (first second : Term) (c : Collation) (names : List Name) (db : Database) where
  abbrev query : Query
  query = selects tree [] (first ∷ second ∷ []) ((first, ascending c) ∷ []) no_limit

  outputs_are : (xs : List Row) (steps : List (ℕ × ℕ)) → AreSteps (map (λ r. (shows query [] r).1) xs) steps → map (shows query []) xs ≡ map out steps
  outputs_are [] [] are = refl
  outputs_are [] (step ∷ steps) are = absurd are
  outputs_are (x ∷ xs) [] are = absurd are
  outputs_are (x ∷ xs) (step ∷ steps) are = let rest = outputs_are xs steps are.2 in λ i. (are.0 i ∷ [], are.0 i ∷ are.1 i ∷ []) ∷ rest i

  steps_of : (rows others : List Row) (steps : List (ℕ × ℕ)) → Reads (as_command query names) db [] rows → Reads (as_command query names) db [] others → Ascends steps → AreSteps rows steps → AreSteps others steps
  steps_of rows others steps one two rise are =
      let a = answer tree (first ∷ second ∷ []) ((first, ascending c) ∷ []) names db rows one in
      let kept : List Row = filter (passes [] []) (db.trees tree) in
      let f : Row → Output = shows query [] in
      let mine : map f a.to ≡ map out steps = outputs_are a.to steps (subst (λ l. AreSteps l steps) a.shown are) in
      let turned : IsPermutation (map f a.to) (map f kept) = IsPermutation-map f a.to kept (IsPermutation-sym kept a.to a.same) in
      let back = pull_back out (map f a.to) (map f kept) turned steps mine in
      let g : Given (λ _. true) out back.0 query [] others =
      given (λ _. true) out back.0 tree [] (first ∷ second ∷ []) ((first, ascending c) ∷ []) no_limit [] names db others (plain_tree db.trees tree) (back.2 ∙ ap (map out) (sym (all_kept back.0))) two in
      let same : IsPermutation steps g.to = IsPermutation-trans _ _ _ back.1 (subst (λ l. IsPermutation l g.to) (all_kept back.0) g.same) in
      let to : g.to ≡ steps = sorted_same moment_of steps g.to (ascends_rises steps rise) same (ascends moment_of g.to (λ k d low high. sym (ap is_lt (by_number c _ _)) ∙ g.sorted k d low high)) in
      subst (λ l. AreSteps l steps) (sym (g.shown ∙ ap (map shown_step) to)) (are_steps steps)

two_columns : (schema : Schema) (tables : List Bound) (f d : Name) (outs : List scope.Output) → AreOutputs schema tables (f ∷ d ∷ []) outs
    → (first : Term) × (second : Term) × (map (λ (o : scope.Output). o.term) outs ≡ first ∷ second ∷ []) × Names schema tables f first
two_columns schema tables f d [] are = absurd are
two_columns schema tables f d (o ∷ []) are = absurd are.2
two_columns schema tables f d (o ∷ p ∷ []) are = (o.term, p.term, refl, are.1)
two_columns schema tables f d (o ∷ p ∷ q ∷ outs) are = absurd are.2.2

one_key : (schema : Schema) (tables : List Bound) (f : Name) (order : List (Term × Key)) → AreSorted schema tables (f ∷ []) order → (t : Term) × (c : Collation) × (order ≡ (t, ascending c) ∷ []) × Names schema tables f t
one_key schema tables f [] are = absurd are
one_key schema tables f (k ∷ []) are = (k.0, k.1.collation, (λ i. (k.0, record { collation = k.1.collation; descending = are.0 i }) ∷ []), are.1)
one_key schema tables f (k ∷ l ∷ order) are = absurd are.2

pub same_steps : (schema : Schema) (f d : Name) (k : Command) → ReadsTable schema (f ∷ d ∷ []) (f ∷ []) k → (db : Database) (rows others : List Row) (steps : List (ℕ × ℕ))
    → Reads k db [] rows → Reads k db [] others → Ascends steps → AreSteps rows steps → AreSteps others steps
same_steps schema f d k it db rows others steps one two rise are =
    let columns = two_columns schema (it.3.b ∷ []) f d it.3.outs it.3.shown in
    let key = one_key schema (it.3.b ∷ []) f it.3.order it.3.sorted in
    let term : key.0 ≡ columns.0 = names_one schema (it.3.b ∷ []) f key.0 columns.0 key.3 columns.3 in
    let ordered : it.3.order ≡ (columns.0, ascending key.1) ∷ [] = key.2 ∙ ap (λ t. (t, ascending key.1) ∷ []) term in
    let command : k ≡ as_command (selects it.3.tree [] (columns.0 ∷ columns.1 ∷ []) ((columns.0, ascending key.1) ∷ []) no_limit) it.1 =
    it.2 ∙ ap (λ q. as_command q it.1) it.3.is ∙ ap (λ p. as_command (selects it.3.tree [] p it.3.order no_limit) it.1) columns.2 ∙ ap (λ o. as_command (selects it.3.tree [] (columns.0 ∷ columns.1 ∷ []) o no_limit) it.1) ordered in
    steps_of it.3.tree columns.0 columns.1 key.1 it.1 db rows others steps (subst (λ c. Reads c db [] rows) command one) (subst (λ c. Reads c db [] others) command two) rise are
