-- The records that a table's rows stand for, gathered row by row.
use Rattle.std.specs.Prelude.{OnOk}
use Rattle.std.proofs.Common.{◌≡◌, ◌<◌, ◌+◌, ℕ, List, [], ◌∷◌, ◌++◌, map, length, take, drop, get_or, Result, Ok, Err, append_assoc, refl, sym, ap, subst, ◌∙◌, arith}
use Rattle.std.proofs.lemmas.List.{length-take-le, take-append-drop, take_more}
use Rattle.std.specs.List.{AllByRecursion, AllZip}
use Rattle.sqlite_value.specs.Order.{Row, column}
use Rattle.sqlite_trees.specs.Objects.{number_in}
use Rattle.reg_core.specs.Sound.{NumberedFrom}
use Rattle.reg_store_tables.specs.Rows.{number, behind_rowids}
use Rattle.reg_audit.specs.Cells.{CountedFrom}
use Rattle.reg_audit.specs.Complete.{AreKeyed, AreCounted}
use Rattle.reg_audit.proofs.TreeOrder.{rowid_number, HasNumber}

-- a property of all rows in a view holds of each row, seen in that view
pub unseen : (P : Row → Type 0) (view : Row → Row) (rows : List Row) → AllByRecursion P (map view rows) → AllByRecursion (λ row. P (view row)) rows
unseen P view [] all = tt
unseen P view (row ∷ rows) all = (all.0, unseen P view rows all.1)

pub counted_unseen : (view : Row → Row) → ((row : Row) → column (view row) 0 ≡ column row 0) → (from : ℕ) (rows : List Row) → CountedFrom from (map view rows) → CountedFrom from rows
counted_unseen view first from [] counted = tt
counted_unseen view first from (row ∷ rows) counted = (sym (first row) ∙ counted.0, counted_unseen view first (from + 1) rows counted.1)

-- rowids that count are numbers
pub counted_numbers : (from : ℕ) (rows : List Row) → CountedFrom from rows → AllByRecursion HasNumber rows
counted_numbers from [] counted = tt
counted_numbers from (row ∷ rows) counted =
    let is : rowid_number row ≡ from = ap number_in counted.0 in (counted.0 ∙ ap number (sym is), counted_numbers (from + 1) rows counted.1)

-- the record that a row stands for, behind its rowid
pub record IsBehind {A : Type 0} (well : A → Type 0) (stored : A → Row) (id : ℕ) (row : Row) : Type 0 where
  pub it : A
  pub well_is : well it
  pub row_is : row ≡ number id ∷ stored it

-- or by its key, the rowid
pub record IsKeyed {A : Type 0} (well : A → Type 0) (stored : A → Row) (key : A → ℕ) (id : ℕ) (row : Row) : Type 0 where
  pub it : A
  pub well_is : well it
  pub row_is : row ≡ stored it
  pub key_is : key it ≡ id

module _ {A : Type 0} (T S : Row → Type 0) (well : A → Type 0) (stored : A → Row) where
  behind_from : ((id : ℕ) (row : Row) → T row → column row 0 ≡ number id → S row → IsBehind well stored id row) → (from : ℕ) (rows : List Row)
      → AllByRecursion T rows → CountedFrom from rows → AllByRecursion S rows → (xs : List A) × (rows ≡ behind_rowids from (map stored xs)) × AllByRecursion well xs
  behind_from each from [] fit counted stand = ([], refl, tt)
  behind_from each from (row ∷ rows) fit counted stand =
      let here = each from row fit.0 counted.0 stand.0 in
      let rest = behind_from each (from + 1) rows fit.1 counted.1 stand.1 in
      (here.it ∷ rest.0, (λ i. here.row_is i ∷ rest.1 i), (here.well_is, rest.2))

  pub counted_whole : ((id : ℕ) (row : Row) → T row → column row 0 ≡ number id → S row → IsBehind well stored id row) → (rows : List Row)
      → AllByRecursion T rows → CountedFrom 1 rows → AllByRecursion S rows → AreCounted well stored rows
  counted_whole each rows fit counted stand =
      let all = behind_from each 1 rows fit counted stand in record { these = all.0; are = all.1; each = all.2 }

  module _ (key : A → ℕ) where
    keyed_from : ((id : ℕ) (row : Row) → T row → column row 0 ≡ number id → S row → IsKeyed well stored key id row) → (from : ℕ) (rows : List Row)
        → AllByRecursion T rows → CountedFrom from rows → AllByRecursion S rows → (xs : List A) × (rows ≡ map stored xs) × NumberedFrom key from xs × AllByRecursion well xs
    keyed_from each from [] fit counted stand = ([], refl, tt, tt)
    keyed_from each from (row ∷ rows) fit counted stand =
        let here = each from row fit.0 counted.0 stand.0 in
        let rest = keyed_from each (from + 1) rows fit.1 counted.1 stand.1 in
        (here.it ∷ rest.0, (λ i. here.row_is i ∷ rest.1 i), (here.key_is, rest.2), (here.well_is, rest.3))

    pub keyed_whole : ((id : ℕ) (row : Row) → T row → column row 0 ≡ number id → S row → IsKeyed well stored key id row) → (rows : List Row)
        → AllByRecursion T rows → CountedFrom 1 rows → AllByRecursion S rows → AreKeyed well stored key rows
    keyed_whole each rows fit counted stand =
        let all = keyed_from each 1 rows fit counted stand in record { these = all.0; are = all.1; numbered = all.2; each = all.3 }

-- ---- rows that are gone over one by one

pub on_ok : {T E P Q : Type 0} (r : Result T E) → OnOk r P → (P → Q) → OnOk r Q
on_ok (Ok x) holds more = more holds
on_ok (Err e) holds more = tt

pub on_both : {T E P Q R : Type 0} (r : Result T E) → OnOk r P → OnOk r Q → (P → Q → R) → OnOk r R
on_both (Ok x) one other more = more one other
on_both (Err e) one other more = tt

counted_push : (from : ℕ) (rows : List Row) (row : Row) → CountedFrom from rows → column row 0 ≡ number (from + length rows) → CountedFrom from (rows ++ row ∷ [])
counted_push from [] row counted is = let here : from + 0 ≡ from = omega arith in (is ∙ ap number here, tt)
counted_push from (first ∷ rows) row counted is =
    let on : from + length (first ∷ rows) ≡ (from + 1) + length rows = omega arith in (counted.0, counted_push (from + 1) rows row counted.1 (is ∙ ap number on))

counted_at : (from : ℕ) (front : List Row) (row : Row) (rest : List Row) → CountedFrom from (front ++ row ∷ rest) → column row 0 ≡ number (from + length front)
counted_at from [] row rest counted = let here : from ≡ from + 0 = omega arith in counted.0 ∙ ap number here
counted_at from (first ∷ front) row rest counted =
    let on : (from + 1) + length front ≡ from + length (first ∷ front) = omega arith in counted_at (from + 1) front row rest counted.1 ∙ ap number on

module _ (rows : List Row) (i : ℕ) (row : Row) (within : i < length rows) (is : row ≡ get_or rows i row) where
  more : take (i + 1) rows ≡ take i rows ++ row ∷ []
  more = take_more rows i row within ∙ ap (λ x. take i rows ++ x ∷ []) (sym is)

  parted : rows ≡ take i rows ++ row ∷ drop (i + 1) rows
  parted = sym (take-append-drop (i + 1) rows) ∙ ap (λ l. l ++ drop (i + 1) rows) more ∙ append_assoc (take i rows) (row ∷ []) (drop (i + 1) rows)

  size : length (take i rows) ≡ i
  size = length-take-le i rows (omega (arith, within))

  pub counted_more : CountedFrom 1 (take i rows) → column row 0 ≡ number (i + 1) → CountedFrom 1 (take (i + 1) rows)
  counted_more counted here =
      let on : i + 1 ≡ 1 + length (take i rows) = omega (arith, size) in subst (CountedFrom 1) (sym more) (counted_push 1 (take i rows) row counted (here ∙ ap number on))

  pub counted_here : CountedFrom 1 rows → column row 0 ≡ number (i + 1)
  counted_here counted =
      let on : 1 + length (take i rows) ≡ i + 1 = omega (arith, size) in counted_at 1 (take i rows) row (drop (i + 1) rows) (subst (CountedFrom 1) parted counted) ∙ ap number on

  pub zipped_more : {A : Type 0} (R : A → Row → Type 0) (done new : List A) (x : A) → AllZip R done (take i rows) → R x row → new ≡ done ++ x ∷ [] → AllZip R new (take (i + 1) rows)
  zipped_more {A = A} R done new x all here now = subst (λ xs. AllZip R xs (take (i + 1) rows)) (sym now) (subst (AllZip R (done ++ x ∷ [])) (sym more) (push done (take i rows) all))
    where
      push : (xs : List A) (ys : List Row) → AllZip R xs ys → AllZip R (xs ++ x ∷ []) (ys ++ row ∷ [])
      push [] [] every = (here, tt)
      push [] (y ∷ ys) every = absurd every
      push (first ∷ xs) [] every = absurd every
      push (first ∷ xs) (y ∷ ys) every = (every.0, push xs ys every.1)
