-- Lemmas on known bytes.
use Rattle.std.proofs.Common.{ℕ, ◌+◌, List, take, drop, sym, subst}
use Rattle.std.specs.Io.KnownBytes.{Appends}
use Rattle.std.proofs.KnownBytes.{Appends-trans}
use Rattle.std.proofs.Math.Seq.{take-add}
use Rattle.std.specs.declared.option.Option.{Option}

-- the first n bytes were appended, and then the first m of the others
pub Appends-more : (a b c : Option (List ℕ)) (bytes : List ℕ) (n m : ℕ) → Appends a b (take n bytes)
    → Appends b c (take m (drop n bytes)) → Appends a c (take (n + m) bytes)
Appends-more a b c bytes n m p q =
    subst (Appends a c) (sym (take-add n m bytes)) (Appends-trans a b c (take n bytes) (take m (drop n bytes)) p q)
