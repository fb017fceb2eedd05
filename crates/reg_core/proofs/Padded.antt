use Rattle.std.proofs.Common.{◌≡◌, ℕ, ◌+◌, ◌-◌, ◌≤◌, List, ◌++◌, length, take, drop, refl, ap, arith, length-append}
use Rattle.std.proofs.Math.ListN.{replicate}
use Rattle.std.proofs.lemmas.List.{take_at, drop-replicate, length-replicate}
use Rattle.std.proofs.Math.Seq.{drop-append-add}

-- Items, and then a filler up to a size.
abbrev pub padded : {A : Type 0} → A → ℕ → List A → List A
padded filler size items = items ++ replicate (size - length items) filler

-- Its first items are the items.
pub take-padded : {A : Type 0} (filler : A) (size : ℕ) (items : List A) → take (length items) (padded filler size items) ≡ items
take-padded filler size items = take_at items (replicate (size - length items) filler) (length items) refl

-- Its length is the size.
pub length-padded : {A : Type 0} (filler : A) (size : ℕ) (items : List A) → length items ≤ size → length (padded filler size items) ≡ size
length-padded filler size items fits =
    omega (arith, length-append items (replicate (size - length items) filler), length-replicate (size - length items) filler)

-- Items written over fillers from the beginning.
pub padded_from_fillers : {A : Type 0} (filler : A) (size : ℕ) (items : List A) → items ++ drop (length items) (replicate size filler) ≡ padded filler size items
padded_from_fillers filler size items = ap (λ rest. items ++ rest) (drop-replicate (length items) size filler)

-- More items written behind the first.
pub padded_behind
    : {A : Type 0} (filler : A) (size : ℕ) (items more : List A)
    → take (length items) (padded filler size items) ++ more ++ drop (length items + length more) (padded filler size items)
    ≡ padded filler size (items ++ more)
padded_behind filler size items more =
    let left = replicate (size - length items) filler in
    rw (take-padded filler size items, drop-append-add items left (length more), drop-replicate (length more) (size - length items) filler, length-append items more)
    (ap (λ n. (items ++ more) ++ replicate n filler) (omega arith))
