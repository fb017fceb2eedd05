-- A row that has the cells of a stored one, and no more, is it.
use Rattle.std.proofs.Common.{◌≡◌, ◌≤◌, ◌<◌, ◌+◌, ◌&&◌, ◌==◌, ℕ, ℤ, zero, suc, Bool, true, false, not, List, [], ◌∷◌, drop, length, Option, Some, None, slice_get, refl, sym, ap, subst, ◌∙◌, arith}
use Rattle.std.proofs.lemmas.Bool.Decides.{nat_tests}
use Rattle.sqlite_value.specs.declared.value.Value.{Value}
use Rattle.sqlite_value.specs.declared.value.Value.TheVariants.{Null, Int, Real, Text, Blob}
use Rattle.sqlite_value.specs.Order.{Row, column}
use Rattle.sqlite_sql.specs.Ops.{is_null}
use Rattle.sqlite_schema.specs.Rules.{are_typed, suits, is_of}
use Rattle.sqlite_schema.specs.declared.schema.Column.{Column}
use Rattle.sqlite_schema.specs.declared.schema.Kind.TheVariants as kind
use Rattle.reg_audit.specs.Cells.{HasCells}

pub and_left : (a b : Bool) → (a && b) ≡ true → a ≡ true
and_left true b both = refl
and_left false b both = both

pub and_right : (a b : Bool) → (a && b) ≡ true → b ≡ true
and_right true b both = both
and_right false true both = refl
and_right false false both = both

-- ---- how many cells a row has

-- no more than its table has columns
no_more : (key : Option ℕ) (at : ℕ) (cs : List Column) (vs : Row) → are_typed key at cs vs ≡ true → length vs ≤ length cs
no_more key at [] [] typed = omega arith
no_more key at [] (v ∷ vs) typed = absurd (cc)
no_more key at (c ∷ cs) [] typed = omega arith
no_more key at (c ∷ cs) (v ∷ vs) typed =
    let rest = no_more key (at + 1) cs vs (and_right _ (are_typed key (at + 1) cs vs) typed) in omega arith

-- past the last there is NULL
reaches : (row : Row) (k : ℕ) → is_null (column row k) ≡ false → k < length row
reaches [] k some = absurd (let no : true ≡ false = some in cc)
reaches (v ∷ row) zero some = omega arith
reaches (v ∷ row) (suc k) some = let rest = reaches row k some in omega arith

shorter : (row : Row) → length (drop 1 row) + 1 ≤ length row + 1
shorter [] = omega arith
shorter (v ∷ row) = omega arith

at_most : (row : Row) (n : ℕ) → length (drop 1 row) ≤ n → length row ≤ n + 1
at_most [] n few = omega arith
at_most (v ∷ row) n few = omega (arith, few)

-- ---- cells that are known one by one

same_from : (at : ℕ) (row rest vs : Row) → ((k : ℕ) → column row (at + k) ≡ column rest k) → length rest ≡ length vs → HasCells at row vs → rest ≡ vs
same_from at row [] [] here size cells = refl
same_from at row [] (v ∷ vs) here size cells = absurd (omega (arith, size))
same_from at row (r ∷ rest) [] here size cells = absurd (omega (arith, size))
same_from at row (r ∷ rest) (v ∷ vs) here size cells =
    let start : at + 0 ≡ at = omega arith in
    let first : r ≡ v = sym (here 0) ∙ ap (column row) start ∙ cells.0 in
    let next : (k : ℕ) → column row ((at + 1) + k) ≡ column rest k = λ k. let on : (at + 1) + k ≡ at + suc k = omega arith in ap (column row) on ∙ here (suc k) in
    let tail : rest ≡ vs = same_from (at + 1) row rest vs next (omega (arith, size)) cells.1 in
    λ i. first i ∷ tail i

same_cells : (row vs : Row) → length row ≡ length vs → HasCells 0 row vs → row ≡ vs
same_cells row vs size cells = same_from 0 row row vs (λ k. let on : 0 + k ≡ k = omega arith in ap (column row) on) size cells

-- a row of a table with these columns, whose last cell is not NULL, is the one that has its cells
pub is_row : (key : Option ℕ) (cs : List Column) (row vs : Row) → are_typed key 0 cs (drop 1 row) ≡ true → length vs ≡ length cs + 1 → is_null (column row (length cs)) ≡ false → HasCells 0 row vs → row ≡ vs
is_row key cs row vs typed size some cells =
    let high = at_most row (length cs) (no_more key 0 cs (drop 1 row) typed) in
    let low = reaches row (length cs) some in
    same_cells row vs (omega (arith, high, low, size)) cells

-- the same of a row that has as many cells as are wanted
pub is_whole_row : (row vs : Row) → length row ≡ length vs → HasCells 0 row vs → row ≡ vs
is_whole_row = same_cells

-- ---- what a type says of a cell

null_is : (v : Value) → is_null v ≡ true → v ≡ Null
null_is Null is = refl
null_is (Int n) is = absurd (cc)
null_is (Real x) is = absurd (cc)
null_is (Text t) is = absurd (cc)
null_is (Blob b) is = absurd (cc)

-- the column that the rowid stands for is NULL
pub key_null : (c : Column) (cs : List Column) (row : Row) → are_typed (Some 0) 0 (c ∷ cs) (drop 1 row) ≡ true → column row 1 ≡ Null
key_null c cs [] typed = refl
key_null c cs (r ∷ []) typed = refl
key_null c cs (r ∷ v ∷ vs) typed = null_is v (and_left (is_null v) (are_typed (Some 0) 1 cs vs) typed)

pub blob_is : (v : Value) → is_null v ≡ false → is_of kind.Blob v ≡ true → (bytes : List ℕ) × (v ≡ Blob bytes)
blob_is Null some typed = absurd (cc)
blob_is (Int n) some typed = absurd (cc)
blob_is (Real x) some typed = absurd (cc)
blob_is (Text t) some typed = absurd (cc)
blob_is (Blob b) some typed = (b, refl)

pub integer_is : (v : Value) → is_null v ≡ false → is_of kind.Integer v ≡ true → (n : ℤ) × (v ≡ Int n)
integer_is Null some typed = absurd (cc)
integer_is (Int n) some typed = (n, refl)
integer_is (Real x) some typed = absurd (cc)
integer_is (Text t) some typed = absurd (cc)
integer_is (Blob b) some typed = absurd (cc)

pub not_false : (b : Bool) → not b ≡ true → b ≡ false
not_false true is = absurd (cc)
not_false false is = refl

-- the cell at a place behind the rowid has the type of its column
typed_from : (at : ℕ) (cs : List Column) (vs : Row) → are_typed (Some 0) at cs vs ≡ true → 0 < at → (k : ℕ) (c : Column) → slice_get cs k ≡ Some c → k < length vs → suits c (column vs k) ≡ true
typed_from at [] vs typed behind k c found within = absurd (let no : None ≡ Some c = found in cc)
typed_from at (c ∷ cs) [] typed behind k d found within = absurd (omega (arith, within))
typed_from at (c ∷ cs) (v ∷ vs) typed behind zero d found within =
    let plain : (0 == at) ≡ false = grind (arith, nat_tests, behind) in
    let both : (suits c v && are_typed (Some 0) (at + 1) cs vs) ≡ true = rw plain at typed in
    let same : c ≡ d = some_same c d found in
    subst (λ (column : Column). suits column v ≡ true) same (and_left (suits c v) _ both)
  where
    some_same : (x y : Column) → slice_get (x ∷ cs) 0 ≡ Some y → x ≡ y
    some_same x y is = let this : Some x ≡ Some y = is in cc
typed_from at (c ∷ cs) (v ∷ vs) typed behind (suc k) d found within =
    typed_from (at + 1) cs vs (and_right _ (are_typed (Some 0) (at + 1) cs vs) typed) (omega arith) k d found (omega (arith, within))

pub cell_typed : (c : Column) (cs : List Column) (row : Row) → are_typed (Some 0) 0 (c ∷ cs) (drop 1 row) ≡ true → (k : ℕ) (d : Column) → slice_get cs k ≡ Some d → k + 2 < length row → suits d (column row (suc (suc k))) ≡ true
cell_typed c cs [] typed k d found within = absurd (omega (arith, within))
cell_typed c cs (r ∷ []) typed k d found within = absurd (omega (arith, within))
cell_typed c cs (r ∷ v ∷ vs) typed k d found within =
    typed_from 1 cs vs (and_right (is_null v) (are_typed (Some 0) 1 cs vs) typed) (omega arith) k d found (omega (arith, within))

-- a cell that is not NULL is one of the row
pub some_below : (row : Row) (k : ℕ) → is_null (column row k) ≡ false → k < length row
some_below = reaches
