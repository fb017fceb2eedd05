-- Rows in ascending order of a key, and those past one.
use Rattle.std.proofs.Common.{◌≡◌, ◌≢◌, ◌≤◌, ◌<◌, ◌+◌, ℕ, zero, suc, Bool, true, false, cond, List, [], ◌∷◌, length, map, take, drop, Some, refl, sym, ap, subst, ◌∙◌, arith}
use Rattle.std.specs.Prelude.{nat_lt, slice_get}
use Rattle.std.specs.List.{filter, AllByRecursion}
use Rattle.std.proofs.lemmas.Bool.Decides.{nat_tests}
use Rattle.reg_core.specs.Sound.{KeysDiffer, NumberedFrom}
use Rattle.reg_core.specs.AscendingRows.{insert_by_key, in_order, past}

-- ---- what a filter keeps

pub filter_in : {A : Type 0} (p : A → Bool) (x : A) (xs : List A) → p x ≡ true → filter p (x ∷ xs) ≡ x ∷ filter p xs
filter_in p x xs kept = rw kept

pub filter_out : {A : Type 0} (p : A → Bool) (x : A) (xs : List A) → p x ≡ false → filter p (x ∷ xs) ≡ filter p xs
filter_out p x xs lost = rw lost

kept_all : {A : Type 0} (P : A → Type 0) (p : A → Bool) (xs : List A) → AllByRecursion P xs → AllByRecursion P (filter p xs)
kept_all P p [] all = tt
kept_all P p (x ∷ xs) all = grind (arith, kept_all P p xs all.1)

get_has : {A : Type 0} (P : A → Type 0) (xs : List A) (m : ℕ) (x : A) → AllByRecursion P xs → slice_get xs m ≡ Some x → P x
get_has P [] m x all is = absurd (cc)
get_has P (y ∷ xs) zero x all is = let same : y ≡ x = cc in subst P same all.0
get_has P (y ∷ xs) (suc m) x all is = get_has P xs m x all.1 is

module _ {A : Type 0} (key : A → ℕ) where
  -- the keys rise strictly
  abbrev pub Rises : List A → Type 0
  Rises [] = Unit {0}
  Rises (x ∷ xs) = AllByRecursion (λ a. key x < key a) xs × Rises xs

  weaken : (low high : ℕ) (xs : List A) → low ≤ high → AllByRecursion (λ a. high < key a) xs → AllByRecursion (λ a. low < key a) xs
  weaken low high [] le all = tt
  weaken low high (x ∷ xs) le all = (omega arith, weaken low high xs le all.1)

  all_put : (P : A → Type 0) (x : A) (xs : List A) → P x → AllByRecursion P xs → AllByRecursion P (insert_by_key key x xs)
  all_put P x [] one all = (one, tt)
  all_put P x (y ∷ xs) one all = grind (arith, all_put P x xs one all.1)

  pub all_ordered : (P : A → Type 0) (xs : List A) → AllByRecursion P xs → AllByRecursion P (in_order key xs)
  all_ordered P [] all = tt
  all_ordered P (x ∷ xs) all = all_put P x (in_order key xs) all.0 (all_ordered P xs all.1)

  put_rises : (x : A) (xs : List A) → Rises xs → AllByRecursion (λ a. key x ≢ key a) xs → Rises (insert_by_key key x xs)
  put_rises x [] rises apart = (tt, tt)
  put_rises x (y ∷ xs) rises apart = grind (arith, nat_tests, apart.0, below, above, put_rises x xs rises.1 apart.1)
    where
      below : key x < key y → AllByRecursion (λ a. key x < key a) xs
      below less = weaken (key x) (key y) xs (omega arith) rises.0

      above : key y < key x → AllByRecursion (λ a. key y < key a) (insert_by_key key x xs)
      above more = all_put (λ a. key y < key a) x xs more rises.0

  -- rows whose keys differ rise once they are in order
  pub order_rises : (xs : List A) → KeysDiffer key xs → Rises (in_order key xs)
  order_rises [] differ = tt
  order_rises (x ∷ xs) differ = put_rises x (in_order key xs) (order_rises xs differ.1) (all_ordered (λ a. key x ≢ key a) xs differ.0)

  -- ---- the rows past a key are those of all that are in order

  pub put_front : (x : A) (xs : List A) → AllByRecursion (λ a. key x < key a) xs → insert_by_key key x xs ≡ x ∷ xs
  put_front x [] all = refl
  put_front x (y ∷ xs) all = grind (arith, nat_tests, all.0)

  filter_put : (p : A → Bool) (x : A) (xs : List A) → Rises xs → filter p (insert_by_key key x xs) ≡ cond (p x) (insert_by_key key x (filter p xs)) (filter p xs)
  filter_put p x [] rises = grind arith
  filter_put p x (y ∷ xs) rises = grind (arith, nat_tests, front, filter_put p x xs rises.1)
    where
      front : key x < key y → insert_by_key key x (filter p (y ∷ xs)) ≡ x ∷ filter p (y ∷ xs)
      front less = put_front x (filter p (y ∷ xs)) (kept_all (λ a. key x < key a) p (y ∷ xs) (less, weaken (key x) (key y) xs (omega arith) rises.0))

  pub order_filter : (p : A → Bool) (xs : List A) → KeysDiffer key xs → in_order key (filter p xs) ≡ filter p (in_order key xs)
  order_filter p [] differ = refl
  order_filter p (x ∷ xs) differ = grind (arith, order_filter p xs differ.1, filter_put p x (in_order key xs) (order_rises xs differ.1))

  abbrev above : ℕ → A → Bool
  above low a = nat_lt low (key a)

  -- those past a greater key are among those past a lesser one
  filter_twice : (low high : ℕ) (xs : List A) → low < high → filter (above high) (filter (above low) xs) ≡ filter (above high) xs
  filter_twice low high [] less = refl
  filter_twice low high (x ∷ xs) less = grind (arith, nat_tests, filter_twice low high xs less)

  -- rows that are all past a key
  pub all_above : (low : ℕ) (xs : List A) → AllByRecursion (λ a. low < key a) xs → filter (above low) xs ≡ xs
  all_above low [] all = refl
  all_above low (x ∷ xs) all = grind (arith, nat_tests, all.0, all_above low xs all.1)

  -- of rows that rise, those past the one at a place are behind it
  pub behind : (m : ℕ) (xs : List A) (x : A) → Rises xs → slice_get xs m ≡ Some x → filter (above (key x)) xs ≡ drop (suc m) xs
  behind m [] x rises is = absurd (cc)
  behind zero (y ∷ xs) x rises is =
      let same : key y ≡ key x = cc in
      let rest : filter (above (key x)) xs ≡ xs = all_above (key x) xs (weaken (key x) (key y) xs (omega arith) rises.0) in
      grind (arith, nat_tests)
  behind (suc m) (y ∷ xs) x rises is =
      let below : key y < key x = get_has (λ a. key y < key a) xs m x rises.0 is in
      grind (arith, nat_tests, behind m xs x rises.1 is)

  -- what filters keep of rows that rise still rises
  pub kept_rises : (p : A → Bool) (xs : List A) → Rises xs → Rises (filter p xs)
  kept_rises p [] rises = tt
  kept_rises p (x ∷ xs) rises = grind (arith, kept_all (λ a. key x < key a) p xs rises.0, kept_rises p xs rises.1)

  kept_above : (low : ℕ) (xs : List A) → AllByRecursion (λ a. low < key a) (filter (above low) xs)
  kept_above low [] = tt
  kept_above low (x ∷ xs) = grind (arith, nat_tests, kept_above low xs)

  -- the rows past one that is past a key are behind it
  pub past_behind : (xs : List A) → KeysDiffer key xs → (after m : ℕ) (x : A) → slice_get (past key after xs) m ≡ Some x → past key (key x) xs ≡ drop (suc m) (past key after xs)
  past_behind xs differ after m x is =
      let rows = filter (above after) (in_order key xs) in
      let here : past key after xs ≡ rows = order_filter (above after) xs differ in
      let got : slice_get rows m ≡ Some x = sym (ap (λ l. slice_get l m) here) ∙ is in
      let more : after < key x = get_has (λ a. after < key a) rows m x (kept_above after (in_order key xs)) got in
      order_filter (above (key x)) xs differ ∙ sym (filter_twice after (key x) (in_order key xs) more)
      ∙ behind m rows x (kept_rises (above after) (in_order key xs) (order_rises xs differ)) got ∙ sym (ap (drop (suc m)) here)

  -- ---- the last of as many as are wanted

  pub last_of : (m : ℕ) (xs : List A) → length (map key (take (suc m) xs)) ≡ suc m → (x : A) × (slice_get xs m ≡ Some x) × (slice_get (map key (take (suc m) xs)) m ≡ Some (key x))
  last_of m [] full = absurd (omega (arith, full))
  last_of zero (x ∷ xs) full = (x, refl, refl)
  last_of (suc m) (x ∷ xs) full = last_of m xs (omega (arith, full))

  pub taken_whole : (n : ℕ) (xs : List A) → (length (map key (take n xs)) ≡ n → ⊥) → take n xs ≡ xs
  taken_whole zero xs short = absurd (short refl)
  taken_whole (suc n) [] short = refl
  taken_whole (suc n) (x ∷ xs) short = ap (λ l. x ∷ l) (taken_whole n xs (λ full. short (omega (arith, full))))

  -- numbers that rise by one differ
  from_on : (low from : ℕ) (xs : List A) → low < from → NumberedFrom key from xs → AllByRecursion (λ a. low ≢ key a) xs
  from_on low from [] less numbered = tt
  from_on low from (x ∷ xs) less numbered = ((λ same. absurd (let is = numbered.0 in omega (arith, same))), from_on low (from + 1) xs (omega arith) numbered.1)

  pub numbers_differ : (from : ℕ) (xs : List A) → NumberedFrom key from xs → KeysDiffer key xs
  numbers_differ from [] numbered = tt
  numbers_differ from (x ∷ xs) numbered = (from_on (key x) (from + 1) xs (let is = numbered.0 in omega (arith, is)) numbered.1, numbers_differ (from + 1) xs numbered.1)
