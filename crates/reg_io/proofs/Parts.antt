-- A text that is written in two parts.
use Rattle.std.proofs.Common.{ℕ, ◌+◌, ◌≤◌, List, ◌++◌, length, take, Option, sym, subst, arith, length-append}
use Rattle.std.specs.Io.KnownBytes.{Appends}
use Rattle.std.proofs.KnownBytes.{Appends-trans}
use Rattle.std.proofs.Math.Seq.{take-append-le, take-append-add}
use Rattle.reg_io.specs.Put.{AppendsPrefix}

-- a front of the first part is a front of the whole
pub front_of_first : (old new : Option (List ℕ)) (first second : List ℕ) → AppendsPrefix old new first → AppendsPrefix old new (first ++ second)
front_of_first old new first second f = record {
  count = f.count;
  short = omega (arith, length-append first second, f.short);
  written =
      let short : f.count ≤ length first = omega (arith, f.short) in
      let P : List ℕ → Type 0 = λ bytes. Appends old new bytes in
      subst P (sym (take-append-le f.count first second short)) f.written;
}

-- the first part whole, and a front of the second
pub front_of_second : (old middle new : Option (List ℕ)) (first second : List ℕ) → Appends old middle first → AppendsPrefix middle new second
    → AppendsPrefix old new (first ++ second)
front_of_second old middle new first second a f = record {
  count = length first + f.count;
  short = omega (arith, length-append first second, f.short);
  written =
      let P : List ℕ → Type 0 = λ bytes. Appends old new bytes in
      subst P (sym (take-append-add first second f.count)) (Appends-trans old middle new first (take f.count second) a f.written);
}
