-- Reading values with an expected tag, and items up to the end of the bytes (X.690 8.1).
use Rattle.std.specs.Prelude.{ℕ, zero, suc, ◌==◌, if◌then◌else◌, List, [], ◌∷◌, length, Option, Some, None}
use Rattle.reg_core.specs.Sequence.{◌>>=◌}
use Rattle.reg_der.specs.ValueReading.{value_at}

-- ---- values with an expected tag

-- the contents of the value at the front, if it has the tag, and the bytes after the value
unfoldable pub expect_at : ℕ → List ℕ → Option (List ℕ × List ℕ)
expect_at tag bytes = value_at bytes >>= λ x. if x.0.tag == tag then Some (x.0.contents, x.1) else None

-- the contents of a value with the tag, which nothing follows
unfoldable pub whole_at : ℕ → List ℕ → Option (List ℕ)
whole_at tag bytes = expect_at tag bytes >>= λ x. if length x.1 == 0 then Some x.0 else None

-- the contents of the value at the front, if the first byte is the tag, and the bytes after the value; else no contents, and all the bytes
unfoldable pub optional_at : ℕ → List ℕ → Option (Option (List ℕ) × List ℕ)
optional_at tag [] = Some (None, [])
optional_at tag (first ∷ rest) =
    if first == tag then (expect_at tag (first ∷ rest) >>= λ x. Some (Some x.0, x.1))
    else Some (None, first ∷ rest)

-- no contents if there are no bytes; else the contents of a value with the tag, which nothing follows
unfoldable pub last_at : ℕ → List ℕ → Option (Option (List ℕ))
last_at tag [] = Some None
last_at tag (first ∷ rest) = whole_at tag (first ∷ rest) >>= λ x. Some (Some x)

-- ---- items up to the end

-- all items in the bytes, which `item` reads one by one; `None` if one can't be read. `fuel` bounds the recursion: the number of bytes is enough,
-- because each item has at least one.
abbrev pub items_at : {X : Type 0} → (List ℕ → Option (X × List ℕ)) → ℕ → List ℕ → Option (List X)
items_at item fuel [] = Some []
items_at item zero (first ∷ rest) = None
items_at item (suc fuel) (first ∷ rest) =
    item (first ∷ rest) >>= λ x. items_at item fuel x.1 >>= λ xs. Some (x.0 ∷ xs)

abbrev pub all_at : {X : Type 0} → (List ℕ → Option (X × List ℕ)) → List ℕ → Option (List X)
all_at item bytes = items_at item (length bytes) bytes
