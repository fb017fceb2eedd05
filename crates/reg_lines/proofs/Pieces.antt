-- Pieces that are joined, and a buffer that is turned.
use Rattle.std.proofs.Common.{◌≡◌, ℕ, ◌+◌, ◌-◌, ◌≤◌, List, [], ◌∷◌, ◌++◌, length, take, drop, sym, ap, ◌∙◌, arith, append-nil, length-drop}
use Rattle.std.specs.List.{AllByRecursion, concat}
use Rattle.std.proofs.lemmas.List.{drop-take, take-append-le}
use Rattle.std.proofs.lemmas.List.Folds.{concat-append}

-- one more list at the end of those that are joined
pub concat_push : (xs : List (List ℕ)) (x : List ℕ) → concat (xs ++ x ∷ []) ≡ concat xs ++ x
concat_push xs x = concat-append xs (x ∷ []) ∙ ap (λ l. concat xs ++ l) (append-nil x)

-- after `buf.rotate_left(end)`: the bytes behind `end`, up to the count `now`, stand at the front
pub turned : (buffer : List ℕ) (end now : ℕ) → end ≤ now → now ≤ length buffer → take (now - end) (drop end buffer ++ take end buffer) ≡ drop end (take now buffer)
turned buffer end now below fits =
    take-append-le (now - end) (drop end buffer) (take end buffer) (omega (arith, length-drop end buffer))
    ∙ sym (drop-take end (now - end) buffer)
    ∙ ap (λ n. drop end (take n buffer)) (let e : end + (now - end) ≡ now = omega arith in e)

-- one element more of which it holds
pub all_push : {A : Type 0} (Holds : A → Type 0) (xs : List A) (x : A) → AllByRecursion Holds xs → Holds x → AllByRecursion Holds (xs ++ x ∷ [])
all_push Holds [] x each one = (one, tt)
all_push Holds (first ∷ rest) x each one = (each.0, all_push Holds rest x each.1 one)
