-- Rows that are read one after another.
use Rattle.std.proofs.Common.{◌≡◌, ◌<◌, ◌≤◌, ◌+◌, ℕ, List, [], ◌∷◌, ◌++◌, map, take, length, get_or, sym, ap, ◌∙◌, arith}
use Rattle.std.specs.List.{AllByRecursion}
use Rattle.std.proofs.lemmas.List.{take_more, get_or-map, length-map}
use Rattle.std.proofs.lemmas.List.Elements.{All-from_recursion}
use Rattle.sqlite_value.specs.Order.{Row}

-- one row more is read
pub more_read : {A : Type 0} (P : A → Type 0) (view : A → Row) (xs : List A) → AllByRecursion P xs → (rows slice : List Row) (done new : List A) (i : ℕ) (row : Row) (x : A)
    → rows ≡ map view xs → slice ≡ rows → i < length slice → row ≡ get_or slice i row → done ≡ take i xs → new ≡ done ++ x ∷ [] → ((y : A) → P y → row ≡ view y → x ≡ y) → new ≡ take (i + 1) xs
more_read P view [] all rows slice done new i row x are same below is was now reads =
    let none : length slice ≡ 0 = ap length (same ∙ are) in absurd (omega arith)
more_read P view (z ∷ xs) all rows slice done new i row x are same below is was now reads =
    let mapped : length slice ≡ length (map view (z ∷ xs)) = ap length (same ∙ are) in
    let size : length slice ≡ length (z ∷ xs) = rw length-map at mapped in
    let within : i < length (z ∷ xs) = omega arith in
    let y = get_or (z ∷ xs) i z in
    let shown : row ≡ view y = is ∙ ap (λ l. get_or l i row) (same ∙ are) ∙ get_or-map view (z ∷ xs) i z row within in
    let x_is : x ≡ y = reads y (All-from_recursion P (z ∷ xs) all i z within) shown in
    now ∙ ap (λ l. l ++ x ∷ []) was ∙ ap (λ v. take i (z ∷ xs) ++ v ∷ []) x_is ∙ sym (take_more (z ∷ xs) i z within)

-- a row that shows no record is not among those of records
pub none_read : {A : Type 0} (P Q : A → Type 0) (view : A → Row) (xs : List A) → AllByRecursion P xs → AllByRecursion Q xs → (rows slice : List Row) (i : ℕ) (row : Row)
    → rows ≡ map view xs → slice ≡ rows → i < length slice → row ≡ get_or slice i row → ((y : A) → P y → Q y → row ≡ view y → ⊥) → ⊥
none_read P Q view [] all each rows slice i row are same below is reads =
    let none : length slice ≡ 0 = ap length (same ∙ are) in absurd (omega arith)
none_read P Q view (z ∷ xs) all each rows slice i row are same below is reads =
    let mapped : length slice ≡ length (map view (z ∷ xs)) = ap length (same ∙ are) in
    let size : length slice ≡ length (z ∷ xs) = rw length-map at mapped in
    let within : i < length (z ∷ xs) = omega arith in
    let y = get_or (z ∷ xs) i z in
    let shown : row ≡ view y = is ∙ ap (λ l. get_or l i row) (same ∙ are) ∙ get_or-map view (z ∷ xs) i z row within in
    reads y (All-from_recursion P (z ∷ xs) all i z within) (All-from_recursion Q (z ∷ xs) each i z within) shown

-- the one row of rows that are one
pub one_item : {A : Type 0} (xs : List A) (x : A) → 1 ≤ length xs → length xs ≤ 1 → x ≡ get_or xs 0 x → xs ≡ x ∷ []
one_item [] x some few is = absurd (omega arith)
one_item (y ∷ []) x some few is = ap (λ z. z ∷ []) (sym is)
one_item (y ∷ z ∷ more) x some few is = absurd (omega arith)

pub same_row : {rows : List Row} {a b : Row} → rows ≡ a ∷ [] → rows ≡ b ∷ [] → a ≡ b
same_row one two = cc
