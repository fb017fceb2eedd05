-- A row that is put into a table of the register stands at its end.
use Rattle.std.proofs.Common.{◌≡◌, ◌+◌, ◌<◌, ℕ, pos, ◌+ℤ◌, List, [], ◌∷◌, ◌++◌, map, fold, length, Less, refl, ap, ap₂, ◌∙◌, arith}
use Rattle.std.specs.List.{AllByRecursion}
use Rattle.sqlite_value.specs.declared.value.Value.TheVariants.{Null, Int}
use Rattle.sqlite_value.specs.Order.{Row, value_cmp}
use Rattle.sqlite_trees.specs.Tree.{rowid, put_row}
use Rattle.sqlite_rules.specs.declared.error.Rowids.TheVariants.{Chosen}
use Rattle.sqlite_rules.specs.Edit.{id_in, next_rowid, with_rowid}
use Rattle.reg_core.specs.Sound.{NumberedFrom}
use Rattle.reg_store_tables.specs.Rows.{number, behind_rowids, counted_rows}
use Rattle.reg_store_tables.proofs.Updates.{less}

abbrev Below : Row → Row → Type 0
Below new r = value_cmp (rowid r) (rowid new) ≡ Less

put_last : (new : Row) (rows : List Row) → AllByRecursion (Below new) rows → put_row new rows ≡ rows ++ new ∷ []
put_last new [] all = refl
put_last new (r ∷ rows) all = rw all.0 (ap (λ l. r ∷ l) (put_last new rows all.1))

-- ---- rowids that count

next_from : (from : ℕ) (xs : List Row) → fold (λ top r. id_in (rowid r) +ℤ pos 1) (pos from) (behind_rowids from xs) ≡ pos (from + length xs)
next_from from [] = ap pos (omega arith)
next_from from (x ∷ xs) = next_from (from + 1) xs ∙ ap pos (omega arith)

behind_below : (from top : ℕ) (columns : Row) (xs : List Row) → from + length xs < top + 1 → AllByRecursion (Below (number top ∷ columns)) (behind_rowids from xs)
behind_below from top columns [] h = tt
behind_below from top columns (x ∷ xs) h = (less from top (omega arith), behind_below (from + 1) top columns xs (omega arith))

behind_end : (from top : ℕ) (columns : Row) (xs : List Row) → top ≡ from + length xs → behind_rowids from xs ++ (number top ∷ columns) ∷ [] ≡ behind_rowids from (xs ++ columns ∷ [])
behind_end from top columns [] h = let same : top ≡ from = omega arith in ap (λ n. (number n ∷ columns) ∷ []) same
behind_end from top columns (x ∷ xs) h = ap (λ l. (number from ∷ x) ∷ l) (behind_end (from + 1) top columns xs (omega arith))

-- a row whose rowid is chosen
pub counted_put : (columns : Row) (xs : List Row) → put_row (with_rowid Chosen (counted_rows xs) (Null ∷ columns)) (counted_rows xs) ≡ counted_rows (xs ++ columns ∷ [])
counted_put columns xs =
    let top = 1 + length xs in
    let id : next_rowid (counted_rows xs) ≡ pos top = next_from 1 xs in
    ap (λ n. put_row (Int n ∷ columns) (counted_rows xs)) id ∙ put_last (number top ∷ columns) (counted_rows xs) (behind_below 1 top columns xs (omega arith)) ∙ behind_end 1 top columns xs refl

pub mapped_push : {A : Type 0} (stored : A → Row) (new : A) (xs : List A) → map stored xs ++ stored new ∷ [] ≡ map stored (xs ++ new ∷ [])
mapped_push stored new [] = refl
mapped_push stored new (x ∷ xs) = ap (λ l. stored x ∷ l) (mapped_push stored new xs)

-- ---- keys that count

module _ {A : Type 0} (stored : A → Row) (key : A → ℕ) (first : (x : A) → rowid (stored x) ≡ number (key x)) where
  stored_below : (from top : ℕ) (new : A) (xs : List A) → key new ≡ top → from + length xs < top + 1 → NumberedFrom key from xs → AllByRecursion (Below (stored new)) (map stored xs)
  stored_below from top new [] is h numbered = tt
  stored_below from top new (x ∷ xs) is h numbered =
      (ap₂ value_cmp (first x ∙ ap number numbered.0) (first new ∙ ap number is) ∙ less from top (omega arith), stored_below (from + 1) top new xs is (omega arith) numbered.1)

  pub stored_put : (new : A) (xs : List A) → NumberedFrom key 1 xs → key new ≡ length xs + 1 → put_row (stored new) (map stored xs) ≡ map stored (xs ++ new ∷ [])
  stored_put new xs numbered next = put_last (stored new) (map stored xs) (stored_below 1 (length xs + 1) new xs next (omega arith) numbered) ∙ mapped_push stored new xs

-- a row whose key is above those that are there
pub put_behind : {A : Type 0} (stored : A → Row) (key : A → ℕ) → ((x : A) → rowid (stored x) ≡ number (key x)) → (new : A) (xs : List A) → AllByRecursion (λ x. key x < key new) xs
    → put_row (stored new) (map stored xs) ≡ map stored (xs ++ new ∷ [])
put_behind {A} stored key first new xs earlier = put_last (stored new) (map stored xs) (below_all xs earlier) ∙ mapped_push stored new xs
  where
    below_all : (those : List A) → AllByRecursion (λ x. key x < key new) those → AllByRecursion (Below (stored new)) (map stored those)
    below_all [] all = tt
    below_all (x ∷ those) all = (ap₂ value_cmp (first x) (first new) ∙ less (key x) (key new) all.0, below_all those all.1)

-- what holds of each and of one more
pub pushed : {A : Type 0} (P : A → Type 0) (xs : List A) (x : A) → AllByRecursion P xs → P x → AllByRecursion P (xs ++ x ∷ [])
pushed P [] x all here = (here, tt)
pushed P (y ∷ xs) x all here = (all.0, pushed P xs x all.1 here)
