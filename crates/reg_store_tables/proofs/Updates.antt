-- An UPDATE changes the rows that pass its test, and no other.
use Rattle.std.proofs.Common.{◌≡◌, ◌+◌, ◌<◌, ℕ, ℤ, pos, Bool, true, false, cond, not, List, [], ◌∷◌, map, length, filter, Ordering, Less, Equal, Greater, is_eq, refl, sym, ap, ap₂, subst, ◌∙◌, inl, inr, arith}
use Rattle.std.specs.List.{AllByRecursion}
use Rattle.std.specs.List.Sorted.{IsPermutation}
use Rattle.std.specs.Ordering.{ordering_reverse}
use Rattle.std.proofs.lemmas.Bool.{cases_Bool, not-true, false_from_ne_true}
use Rattle.std.proofs.lemmas.Bool.Decides.{nat_tests}
use Rattle.std.proofs.lemmas.Cmp.{tied_itself}
use Rattle.std.proofs.lemmas.Int.{ints}
use Rattle.std.proofs.lemmas.List.Sorted.{IsPermutation-sym}
use Rattle.sqlite_value.specs.declared.value.Value.TheVariants.{Int}
use Rattle.sqlite_value.specs.Order.{Row, value_cmp}
use Rattle.sqlite_value.proofs.OrderLemmas.{value_cmp_total, value_cmp-Int}
use Rattle.sqlite_trees.specs.Tree.{rowid, IsTable, has_rowid, put_row, without_rowid}
use Rattle.sqlite_trees.proofs.ListLemmas.{all-permutation}
use Rattle.sqlite_trees.proofs.TreeLemmas.{IsTable-put_row}
use Rattle.sqlite_rules.specs.Lists.{Has}
use Rattle.sqlite_rules.specs.Edit.{id_in, without_all, put_all, are_fresh}
use Rattle.sqlite_rules.specs.Calls.{ids_of}
use Rattle.sqlite_rules.proofs.ListLemmas.{all_has, all_from, has_filtered, has_kept}
use Rattle.sqlite_rules.proofs.PlaceLemmas.{tied_same}
use Rattle.sqlite_rules.proofs.ProbeLemmas.{has_mapped, mapped_has}
use Rattle.sqlite_rules.proofs.TableLemmas.{put_all_has, put_all_keeps, put_all_adds}
use Rattle.reg_core.specs.Sound.{NumberedFrom}
use Rattle.reg_store_tables.specs.Rows.{number, behind_rowids}
use Rattle.reg_store_tables.specs.DerivedRows.{turned}

-- ---- two tables with the same rows are one

never_both : (a b : Row) → value_cmp (rowid a) (rowid b) ≡ Less → value_cmp (rowid b) (rowid a) ≡ Less → ⊥
never_both a b p q = let e = value_cmp_total.antisymm (rowid a) (rowid b) ∙ ap ordering_reverse q in cc

past : (z : Row) (zs : List Row) → AllByRecursion (λ r. value_cmp (rowid z) (rowid r) ≡ Less) zs → (r : Row) → Has zs r → r ≡ z → ⊥
past z zs up r h e = let lower = rw e at (all_has _ zs r up h) in never_both z z lower lower

same_rows : (xs ys : List Row) → IsTable xs → IsTable ys → ((r : Row) → Has xs r → Has ys r) → ((r : Row) → Has ys r → Has xs r) → xs ≡ ys
same_rows [] [] p q there back = refl
same_rows [] (y ∷ ys) p q there back = absurd (back y (inl refl))
same_rows (x ∷ xs) [] p q there back = absurd (there x (inl refl))
same_rows (x ∷ xs) (y ∷ ys) p q there back =
    let first : x ≡ y = elim (there x (inl refl)) [
      | inl e ↦ e
      | inr later ↦ elim (back y (inl refl)) [ inl e ↦ sym e | inr also ↦ absurd (never_both x y (all_has _ xs y p.0 also) (all_has _ ys x q.0 later)) ]
    ] in
    ap₂ ◌∷◌ first (same_rows xs ys p.1 q.1
    (λ r h. elim (there r (inr h)) [ inl e ↦ absurd (past x xs p.0 r h (e ∙ sym first)) | inr k ↦ k ])
    (λ r h. elim (back r (inr h)) [ inl e ↦ absurd (past y ys q.0 r h (e ∙ first)) | inr k ↦ k ]))

put_all_table : (news rows : List Row) → IsTable rows → IsTable (put_all rows news)
put_all_table [] rows up = up
put_all_table (n ∷ news) rows up = put_all_table news (put_row n rows) (IsTable-put_row n rows up)

filter_table : (p : Row → Bool) (rows : List Row) → IsTable rows → IsTable (filter p rows)
filter_table p [] up = tt
filter_table p (r ∷ rows) up = elim (cases_Bool (p r)) [
  | inl e ↦ rw e (all_from _ (filter p rows) (λ y h. all_has _ rows y up.0 (has_filtered p rows y h).0), filter_table p rows up.1)
  | inr e ↦ rw e (filter_table p rows up.1)
]

without_all_table : (ids : List ℤ) (rows : List Row) → IsTable rows → IsTable (without_all rows ids)
without_all_table [] rows up = up
without_all_table (id ∷ ids) rows up = without_all_table ids (without_rowid id rows) (filter_table _ rows up)

abbrev Lacks : List ℤ → Row → Type 0
Lacks ids x = (id : ℤ) → Has ids id → has_rowid id x ≡ false

left_from : (ids : List ℤ) (rows : List Row) (x : Row) → Has (without_all rows ids) x → Has rows x × Lacks ids x
left_from [] rows x h = (h, λ id none. absurd none)
left_from (id ∷ ids) rows x h =
    let r = left_from ids (without_rowid id rows) x h in
    let was = has_filtered (λ y. not (has_rowid id y)) rows x r.0 in
    (was.0, λ other k. elim k [ inl e ↦ rw e (not-true _ was.1) | inr more ↦ r.1 other more ])

left_has : (ids : List ℤ) (rows : List Row) (x : Row) → Has rows x → Lacks ids x → Has (without_all rows ids) x
left_has [] rows x h lacks = h
left_has (id ∷ ids) rows x h lacks = left_has ids (without_rowid id rows) x (has_kept (λ y. not (has_rowid id y)) rows x h (ap not (lacks id (inl refl)))) (λ other k. lacks other (inr k))

has_permuted : (xs ys : List Row) (x : Row) → IsPermutation xs ys → Has ys x → Has xs x
has_permuted xs ys x same = all_has (Has xs) ys x (all-permutation (Has xs) xs ys same (all_from (Has xs) xs (λ e h. h)))

equal_is : (o : Ordering) → is_eq o ≡ true → o ≡ Equal
equal_is Less h = absurd (cc)
equal_is Equal h = refl
equal_is Greater h = absurd (cc)

-- ---- some rows of a table are replaced by rows with the same rowids

-- the rowid is a number
abbrev pub IsKeyed : Row → Type 0
IsKeyed r = rowid r ≡ Int (id_in (rowid r))

abbrev KeepsRowid : (Row → Row) → Row → Type 0
KeepsRowid g r = rowid (g r) ≡ rowid r

above : (g : Row → Row) (r : Row) (rows : List Row) → KeepsRowid g r → AllByRecursion (KeepsRowid g) rows → AllByRecursion (λ x. value_cmp (rowid r) (rowid x) ≡ Less) rows
    → AllByRecursion (λ x. value_cmp (rowid (g r)) (rowid x) ≡ Less) (map g rows)
above g r [] same all up = tt
above g r (x ∷ rows) same all up = (ap₂ value_cmp same all.0 ∙ up.0, above g r rows same all.1 up.1)

turned_table : (g : Row → Row) (rows : List Row) → AllByRecursion (KeepsRowid g) rows → IsTable rows → IsTable (map g rows)
turned_table g [] all up = tt
turned_table g (r ∷ rows) all up = (above g r rows all.0 all.1 up.0, turned_table g rows all.1 up.1)

module _ (p : Row → Bool) (f : Row → Row) (rows to : List Row) (table : IsTable rows) (keyed : AllByRecursion IsKeyed rows) (keeps : AllByRecursion (KeepsRowid f) rows)
    (same : IsPermutation (filter p rows) to) (fresh : are_fresh (without_all rows (ids_of to)) (map f to) ≡ true) where
  abbrev g : Row → Row
  g = turned p f

  in_to : (r : Row) → Has to r → Has rows r × (p r ≡ true)
  in_to r h = has_filtered p rows r (has_permuted (filter p rows) to r same h)

  to_in : (r : Row) → Has rows r → p r ≡ true → Has to r
  to_in r h passes = has_permuted to (filter p rows) r (IsPermutation-sym _ _ same) (has_kept p rows r h passes)

  int_of : (r : Row) → Has rows r → IsKeyed r
  int_of r h = all_has IsKeyed rows r keyed h

  has_its : (r : Row) → Has rows r → has_rowid (id_in (rowid r)) r ≡ true
  has_its r h = ap (λ v. is_eq (value_cmp (rowid r) v)) (sym (int_of r h)) ∙ ap is_eq (tied_itself value_cmp_total (rowid r))

  lacks_those : (r : Row) → Has rows r → p r ≡ false → Lacks (ids_of to) r
  lacks_those r h fails id k =
      let t = has_mapped (λ x. id_in (rowid x)) to id k in
      let was = in_to t.0 t.1 in
      false_from_ne_true _ (λ is.
      let tie : value_cmp (rowid r) (rowid t.0) ≡ Equal = ap (value_cmp (rowid r)) (int_of t.0 was.0 ∙ ap Int (sym t.2)) ∙ equal_is _ is in
      let one : r ≡ t.0 = tied_same rows r t.0 table h was.0 tie in
      let passes : p r ≡ true = ap p one ∙ was.1 in cc)

  keeps_each : (those : List Row) → AllByRecursion (KeepsRowid f) those → AllByRecursion (KeepsRowid g) those
  keeps_each [] all = tt
  keeps_each (r ∷ those) all = (elim (p r) as (λ b. rowid (cond b (f r) r) ≡ rowid r) [ true ↦ all.0 | false ↦ refl ], keeps_each those all.1)

  put_has : (x : Row) → Has (put_all (without_all rows (ids_of to)) (map f to)) x → Has (map g rows) x
  put_has x h = elim (put_all_has (map f to) (without_all rows (ids_of to)) x h) [
    | inl new ↦
        let t = has_mapped f to x new in
        let was = in_to t.0 t.1 in
        subst (Has (map g rows)) (ap (λ b. cond b (f t.0) t.0) was.1 ∙ sym t.2) (mapped_has g rows t.0 was.0)
    | inr kept ↦
        let l = left_from (ids_of to) rows x kept in
        elim (cases_Bool (p x)) [
          | inl passes ↦ absurd (let no = l.1 (id_in (rowid x)) (mapped_has (λ r. id_in (rowid r)) to x (to_in x l.0 passes)) in let so = has_its x l.0 in cc)
          | inr fails ↦ subst (Has (map g rows)) (ap (λ b. cond b (f x) x) fails) (mapped_has g rows x l.0)
        ]
  ]

  back : (x : Row) → Has (map g rows) x → Has (put_all (without_all rows (ids_of to)) (map f to)) x
  back x h =
      let r = has_mapped g rows x h in
      let left = without_all rows (ids_of to) in
      elim (cases_Bool (p r.0)) [
        | inl passes ↦ subst (Has (put_all left (map f to))) (sym (r.2 ∙ ap (λ b. cond b (f r.0) r.0) passes)) (put_all_adds (map f to) left (f r.0) fresh (mapped_has f to r.0 (to_in r.0 r.1 passes)))
        | inr fails ↦ subst (Has (put_all left (map f to))) (sym (r.2 ∙ ap (λ b. cond b (f r.0) r.0) fails)) (put_all_keeps (map f to) left r.0 fresh (left_has (ids_of to) rows r.0 r.1 (lacks_those r.0 r.1 fails)))
      ]

  pub rows_turned : put_all (without_all rows (ids_of to)) (map f to) ≡ map g rows
  rows_turned = same_rows _ _ (put_all_table (map f to) _ (without_all_table (ids_of to) rows table)) (turned_table g rows (keeps_each rows keeps) table) put_has back

-- ---- the tables of a register

pub less : (m n : ℕ) → m < n → value_cmp (number m) (number n) ≡ Less
less m n h = value_cmp-Int (pos m) (pos n) ∙ grind (arith, ints, nat_tests)

behind_above : (low from : ℕ) (xs : List Row) → low < from → AllByRecursion (λ r. value_cmp (number low) (rowid r) ≡ Less) (behind_rowids from xs)
behind_above low from [] up = tt
behind_above low from (x ∷ xs) up = (less low from up, behind_above low (from + 1) xs (omega arith))

pub behind_table : (from : ℕ) (xs : List Row) → IsTable (behind_rowids from xs)
behind_table from [] = tt
behind_table from (x ∷ xs) = (behind_above from (from + 1) xs (omega arith), behind_table (from + 1) xs)

pub behind_keyed : (from : ℕ) (xs : List Row) → AllByRecursion IsKeyed (behind_rowids from xs)
behind_keyed from [] = tt
behind_keyed from (x ∷ xs) = (refl, behind_keyed (from + 1) xs)

module _ {A : Type 0} (stored : A → Row) (key : A → ℕ) (first : (x : A) → rowid (stored x) ≡ number (key x)) where
  stored_above : (low from : ℕ) (xs : List A) → low < from → NumberedFrom key from xs → AllByRecursion (λ r. value_cmp (number low) (rowid r) ≡ Less) (map stored xs)
  stored_above low from [] up numbered = tt
  stored_above low from (x ∷ xs) up numbered = (ap (value_cmp (number low)) (first x ∙ ap number numbered.0) ∙ less low from up, stored_above low (from + 1) xs (omega arith) numbered.1)

  pub stored_table : (from : ℕ) (xs : List A) → NumberedFrom key from xs → IsTable (map stored xs)
  stored_table from [] numbered = tt
  stored_table from (x ∷ xs) numbered =
      let lower : AllByRecursion (λ r. value_cmp (number from) (rowid r) ≡ Less) (map stored xs) = stored_above from (from + 1) xs (omega arith) numbered.1 in
      (subst (λ v. AllByRecursion (λ r. value_cmp v (rowid r) ≡ Less) (map stored xs)) (sym (first x ∙ ap number numbered.0)) lower, stored_table (from + 1) xs numbered.1)

  pub stored_keyed : (xs : List A) → AllByRecursion IsKeyed (map stored xs)
  stored_keyed [] = tt
  stored_keyed (x ∷ xs) = (first x ∙ ap (λ v. Int (id_in v)) (sym (first x)), stored_keyed xs)

-- what the rows become, of rows that records stand in
same_turn : {A : Type 0} (stored : A → Row) (g : A → A) (b c : Bool) (x : A) (row : Row) → b ≡ c → row ≡ stored (g x) → cond b row (stored x) ≡ stored (cond c (g x) x)
same_turn stored g b true x row is made = ap (λ d. cond d row (stored x)) is ∙ made
same_turn stored g b false x row is made = ap (λ d. cond d row (stored x)) is

module _ {A : Type 0} (P : A → Type 0) (stored : A → Row) (p : Row → Bool) (f : Row → Row) (q : A → Bool) (g : A → A) where
  pub stored_turned : ((x : A) → P x → p (stored x) ≡ q x) → ((x : A) → f (stored x) ≡ stored (g x)) → (xs : List A) → AllByRecursion P xs
      → map (turned p f) (map stored xs) ≡ map stored (map (turned q g) xs)
  stored_turned tests makes [] all = refl
  stored_turned tests makes (x ∷ xs) all = ap₂ ◌∷◌ (same_turn stored g _ _ x (f (stored x)) (tests x all.0) (makes x)) (stored_turned tests makes xs all.1)

  pub behind_turned : ((id : ℕ) (x : A) → P x → p (number id ∷ stored x) ≡ q x) → ((id : ℕ) (x : A) → f (number id ∷ stored x) ≡ number id ∷ stored (g x)) → (from : ℕ) (xs : List A) → AllByRecursion P xs
      → map (turned p f) (behind_rowids from (map stored xs)) ≡ behind_rowids from (map stored (map (turned q g) xs))
  behind_turned tests makes from [] all = refl
  behind_turned tests makes from (x ∷ xs) all = ap₂ ◌∷◌ (same_turn (λ y. number from ∷ stored y) g _ _ x (f (number from ∷ stored x)) (tests from x all.0) (makes from x)) (behind_turned tests makes (from + 1) xs all.1)

  counted_same : (b c : Bool) (row : Row) (rows : List Row) (x : A) (xs : List A) → b ≡ c → length rows ≡ length xs → length (cond b (row ∷ rows) rows) ≡ length (cond c (x ∷ xs) xs)
  counted_same b true row rows x xs is same = rw is (omega arith)
  counted_same b false row rows x xs is same = rw is same

  pub behind_passing : ((id : ℕ) (x : A) → P x → p (number id ∷ stored x) ≡ q x) → (from : ℕ) (xs : List A) → AllByRecursion P xs → length (filter p (behind_rowids from (map stored xs))) ≡ length (filter q xs)
  behind_passing tests from [] all = refl
  behind_passing tests from (x ∷ xs) all = counted_same _ _ _ _ _ _ (tests from x all.0) (behind_passing tests (from + 1) xs all.1)

-- ---- all rows are taken out

nothing_there : (xs : List Row) → ((x : Row) → Has xs x → ⊥) → xs ≡ []
nothing_there [] none = refl
nothing_there (x ∷ xs) none = absurd (none x (inl refl))

pub rows_gone : (rows to : List Row) → AllByRecursion IsKeyed rows → IsPermutation rows to → without_all rows (ids_of to) ≡ []
rows_gone rows to keyed same = nothing_there (without_all rows (ids_of to)) (λ x h.
    let l = left_from (ids_of to) rows x h in
    let there = has_permuted to rows x (IsPermutation-sym _ _ same) l.0 in
    let lacks = l.1 (id_in (rowid x)) (mapped_has (λ r. id_in (rowid r)) to x there) in
    let is : rowid x ≡ Int (id_in (rowid x)) = all_has IsKeyed rows x keyed l.0 in
    let has : has_rowid (id_in (rowid x)) x ≡ true = ap (λ v. is_eq (value_cmp (rowid x) v)) (sym is) ∙ ap is_eq (tied_itself value_cmp_total (rowid x)) in
    cc)
