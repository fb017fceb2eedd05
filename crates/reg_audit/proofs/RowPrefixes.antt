-- The front of a list that a loop has gone over, and the row that it has come to.
use Rattle.std.proofs.Common.{◌≡◌, ◌≢◌, ℕ, ◌+◌, ◌<◌, ◌≤◌, ◌==◌, Bool, true, false, cond, List, [], ◌∷◌, ◌++◌, length, take, drop, get_or, find, Option, Some, None, is_some, IsFalse, refl, sym, ap, subst, ◌∙◌, arith, inl, inr}
use Rattle.std.specs.List.{AllByRecursion}
use Rattle.std.specs.Ordering.{nat_cmp, is_eq}
use Rattle.std.proofs.lemmas.Bool.{cases_Bool}
use Rattle.std.proofs.lemmas.Bool.Decides.{nat_tests}
use Rattle.std.proofs.lemmas.List.{append_assoc, length-take-le, take-append-drop, take_all, take_more}
use Rattle.reg_core.specs.Sound.{NumberedFrom, KeysDiffer, NeverDecreases}
use Rattle.reg_core_laws.proofs.PublicLaws.{all_push, all_back, all_weaker, find_back, find_none, find_past, numbered_push, keys_push, falls_push, key_new, all_found, find_passes, none_passes, some_of}
use Rattle.std.specs.Str.{bytes_eq}
use Rattle.std.specs.Cmp.Lexicographic.{slice_cmp}
use Rattle.std.proofs.lemmas.Map.Text.{is_eq-slice_cmp}
use Rattle.std.proofs.lemmas.Slice.Eq.{bytes_eq-Decides}
use Rattle.reg_core.specs.Records.{subscriber_named}
use Rattle.reg_core.specs.declared.rows.SubscriberRow.{SubscriberRow}

-- what a list says of a row in it, and of those before it

all_at : {Row : Type 0} (P : Row → Type 0) (front : List Row) (row : Row) (rest : List Row) → AllByRecursion P (front ++ row ∷ rest) → P row
all_at P front row rest all = (all_back P front (row ∷ rest) all).0

crl_number_at : {Row : Type 0} (number : Row → ℕ) (from : ℕ) (front : List Row) (row : Row) (rest : List Row) → NumberedFrom number from (front ++ row ∷ rest) → number row ≡ from + length front
crl_number_at number from [] row rest numbered = omega (arith, numbered.0)
crl_number_at number from (first ∷ front) row rest numbered = omega (arith, crl_number_at number (from + 1) front row rest numbered.1)

keys_at : {Row Key : Type 0} (key : Row → Key) (front : List Row) (row : Row) (rest : List Row) → KeysDiffer key (front ++ row ∷ rest) → AllByRecursion (λ other. key other ≢ key row) front
keys_at key [] row rest differ = tt
keys_at key (first ∷ front) row rest differ = (all_at (λ other. key first ≢ key other) front row rest differ.0, keys_at key front row rest differ.1)

falls_at : {Row : Type 0} (value : Row → ℕ) (front : List Row) (row : Row) (rest : List Row) → NeverDecreases value (front ++ row ∷ rest) → AllByRecursion (λ other. value other ≤ value row) front
falls_at value [] row rest never = tt
falls_at value (first ∷ front) row rest never = (all_at (λ other. value first ≤ value other) front row rest never.0, falls_at value front row rest never.1)

any_push : {Row : Type 0} (test : Row → Bool) (rows : List Row) (row : Row) → is_some (find test (rows ++ row ∷ [])) ≡ cond (test row) true (is_some (find test rows))
any_push test [] row = elim (cases_Bool (test row)) [
  | inl passes ↦ rw passes refl
  | inr fails ↦ rw fails refl
]
any_push test (first ∷ rest) row = elim (cases_Bool (test first)) [
  | inl passes ↦ elim (cases_Bool (test row)) [
    | inl too ↦ rw (passes, too) refl
    | inr not ↦ rw (passes, not) refl
  ]
  | inr fails ↦ rw fails (any_push test rest row)
]

module _ {Row : Type 0} (rows : List Row) (i : ℕ) (row : Row) (within : i < length rows) (is : row ≡ get_or rows i row) where
  more : take (i + 1) rows ≡ take i rows ++ row ∷ []
  more = take_more rows i row within ∙ ap (λ x. take i rows ++ x ∷ []) (sym is)

  parted : rows ≡ take i rows ++ row ∷ drop (i + 1) rows
  parted = sym (take-append-drop (i + 1) rows) ∙ ap (λ l. l ++ drop (i + 1) rows) more ∙ append_assoc (take i rows) (row ∷ []) (drop (i + 1) rows)

  size : length (take i rows) ≡ i
  size = length-take-le i rows (omega (arith, within))

  -- one row more

  pub all_more : (P : Row → Type 0) → AllByRecursion P (take i rows) → P row → AllByRecursion P (take (i + 1) rows)
  all_more P all here = subst (AllByRecursion P) (sym more) (all_push P (take i rows) row all here)

  pub all_last : (P : Row → Type 0) → AllByRecursion P (take (i + 1) rows) → P row
  all_last P all = all_at P (take i rows) row [] (subst (AllByRecursion P) more all)

  pub numbered_more : (number : Row → ℕ) → NumberedFrom number 1 (take i rows) → number row ≡ i + 1 → NumberedFrom number 1 (take (i + 1) rows)
  numbered_more number numbered next = subst (NumberedFrom number 1) (sym more) (numbered_push number 1 (take i rows) row numbered (omega (arith, next, size)))

  pub keys_more : {Key : Type 0} (key : Row → Key) → KeysDiffer key (take i rows) → AllByRecursion (λ other. key other ≢ key row) (take i rows) → KeysDiffer key (take (i + 1) rows)
  keys_more key differ new = subst (KeysDiffer key) (sym more) (keys_push key (take i rows) row differ new)

  pub falls_more : (value : Row → ℕ) → NeverDecreases value (take i rows) → AllByRecursion (λ other. value other ≤ value row) (take i rows) → NeverDecreases value (take (i + 1) rows)
  falls_more value never new = subst (NeverDecreases value) (sym more) (falls_push value (take i rows) row never new)

  -- what the whole list says of the row

  pub all_here : (P : Row → Type 0) → AllByRecursion P rows → P row
  all_here P all = all_at P (take i rows) row (drop (i + 1) rows) (subst (AllByRecursion P) parted all)

  pub numbered_here : (number : Row → ℕ) → NumberedFrom number 1 rows → number row ≡ i + 1
  numbered_here number numbered = omega (arith, crl_number_at number 1 (take i rows) row (drop (i + 1) rows) (subst (NumberedFrom number 1) parted numbered), size)

  pub keys_here : {Key : Type 0} (key : Row → Key) → KeysDiffer key rows → AllByRecursion (λ other. key other ≢ key row) (take i rows)
  keys_here key differ = keys_at key (take i rows) row (drop (i + 1) rows) (subst (KeysDiffer key) parted differ)

  pub falls_here : (value : Row → ℕ) → NeverDecreases value rows → AllByRecursion (λ other. value other ≤ value row) (take i rows)
  falls_here value never = falls_at value (take i rows) row (drop (i + 1) rows) (subst (NeverDecreases value) parted never)

  -- whether a row passes, with one more

  pub any_more : (test : Row → Bool) → is_some (find test (take (i + 1) rows)) ≡ cond (test row) true (is_some (find test (take i rows)))
  any_more test = ap (λ l. is_some (find test l)) more ∙ any_push test (take i rows) row

  -- a look-up by a number, with the row put in under its own

  module _ (key : Row → ℕ) where
    abbrev target : ℕ → Row → Bool
    target k = λ other. key other == k

    one_more : (k : ℕ) → find (target k) (take i rows) ≡ None → find (target k) (take (i + 1) rows) ≡ cond (key row == k) (Some row) None
    one_more k none = ap (find (target k)) more ∙ find_back (target k) (take i rows) (row ∷ []) none

    found_more : (old new : ℕ → Option Row) → ((k : ℕ) → old k ≡ find (target k) (take i rows)) → ((k : ℕ) → new k ≡ cond (is_eq (nat_cmp (key row) k)) (Some row) (old k)) → old (key row) ≡ None
        → (k : ℕ) → new k ≡ find (target k) (take (i + 1) rows)
    found_more old new was put none k = elim (cases_Bool (key row == k)) [
      | inl same ↦
          let e : key row ≡ k = grind (arith, nat_tests) in
          let tested : is_eq (nat_cmp (key row) k) ≡ true = grind (arith, nat_tests) in
          let before : find (target k) (take i rows) ≡ None = sym (was k) ∙ ap old (sym e) ∙ none in
          put k ∙ rw tested (sym (one_more k before ∙ rw same refl))
      | inr other ↦
          let tested : is_eq (nat_cmp (key row) k) ≡ false = grind (arith, nat_tests) in
          put k ∙ rw tested (was k ∙ sym (ap (find (target k)) more ∙ find_past (target k) (take i rows) (row ∷ []) (other, tt)))
    ]

    -- the row is put in, and none was there
    pub entered_more : (old new : ℕ → Option Row) → KeysDiffer key (take i rows) → ((k : ℕ) → old k ≡ find (target k) (take i rows)) → ((k : ℕ) → new k ≡ cond (is_eq (nat_cmp (key row) k)) (Some row) (old k)) → old (key row) ≡ None
        → record { differ : KeysDiffer key (take (i + 1) rows); found : (k : ℕ) → new k ≡ find (target k) (take (i + 1) rows) }
    entered_more old new differ was put none = record { differ = keys_more key differ (key_new key (take i rows) (key row) (sym (was (key row)) ∙ none)); found = found_more old new was put none }

    pub known_key : (old : ℕ → Option Row) → ((k : ℕ) → old k ≡ find (target k) (take i rows)) → (known : Row) → old (key row) ≡ Some known → KeysDiffer key rows → ⊥
    known_key old was known some differ =
        let none = find_none (target (key row)) (take i rows) (all_weaker (λ other. key other ≢ key row) (λ other. IsFalse (key other == key row)) (λ other apart. grind (arith, nat_tests)) (take i rows) (keys_here key differ)) in
        let clash : Some known ≡ None = sym some ∙ was (key row) ∙ none in
        cc

-- a loop that is done went over the whole
pub whole : {Row : Type 0} (rows : List Row) (C : List Row → Type 0) (i : ℕ) → length rows ≤ i → C (take i rows) → C rows
whole rows C i past all = subst C (take_all i rows past) all

-- ---- subscribers by their names

none_of : {A : Type 0} (o : Option A) → is_some o ≡ false → o ≡ None
none_of None is = refl
none_of (Some x) is = absurd (let bad : ⊥ = cc in bad)

module _ (rows : List SubscriberRow) (i : ℕ) (row : SubscriberRow) (within : i < length rows) (is : row ≡ get_or rows i row) where
  abbrev name_of : SubscriberRow → List ℕ
  name_of other = other.name

  pub name_differs : KeysDiffer name_of (take i rows) → is_some (subscriber_named (take i rows) row.name) ≡ false → KeysDiffer name_of (take (i + 1) rows)
  name_differs differ free =
      keys_more rows i row within is name_of differ
      (all_weaker (λ (other : SubscriberRow). IsFalse (bytes_eq other.name row.name)) (λ (other : SubscriberRow). other.name ≢ row.name)
      (λ other fails same. let hit : bytes_eq other.name row.name ≡ true = (bytes_eq-Decides other.name row.name).1 same in let bad : ⊥ = cc in bad) (take i rows)
      (none_passes (λ (other : SubscriberRow). bytes_eq other.name row.name) (take i rows) (none_of (subscriber_named (take i rows) row.name) free)))

  pub name_repeats : is_some (subscriber_named (take i rows) row.name) ≡ true → KeysDiffer name_of rows → ⊥
  name_repeats taken differ =
      let known = some_of (subscriber_named (take i rows) row.name) taken in
      let test = λ (other : SubscriberRow). bytes_eq other.name row.name in
      let same : known.0.name ≡ row.name = (bytes_eq-Decides known.0.name row.name).0 (find_passes test (take i rows) known.0 known.1) in
      all_found (λ (other : SubscriberRow). other.name ≢ row.name) test (take i rows) known.0 known.1 (keys_here rows i row within is name_of differ) same

  pub name_entered : (key name : List ℕ) (old new : Bool) → key ≡ row.name → old ≡ is_some (subscriber_named (take i rows) name) → new ≡ cond (is_eq (slice_cmp nat_cmp key name)) true old
      → new ≡ is_some (subscriber_named (take (i + 1) rows) name)
  name_entered key name old new own was put =
      let tested : is_eq (slice_cmp nat_cmp key name) ≡ bytes_eq row.name name = is_eq-slice_cmp key name ∙ ap (λ k. bytes_eq k name) own in
      put ∙ ap (λ b. cond b true old) tested ∙ ap (cond (bytes_eq row.name name) true) was ∙ sym (any_more rows i row within is (λ (other : SubscriberRow). bytes_eq other.name name))
