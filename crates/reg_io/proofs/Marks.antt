-- Lemmas on delimiters: how a search finds the first one, more bytes after it, and delimiters of one byte.
use Rattle.std.proofs.Common.{◌≡◌, ◌≢◌, ℕ, ◌<◌, ◌≤◌, ◌+◌, ◌-◌, List, [], ◌∷◌, ◌++◌, length, take, Bool, true, false, refl, sym, ap, ◌∙◌, subst, arith, length-append, nat_eq, inl, inr}
use Rattle.std.specs.List.{All, ends_with}
use Rattle.std.proofs.lemmas.Bool.{cases_lt, cases_order}
use Rattle.std.proofs.lemmas.Bool.Decides.{Decides-eqb}
use Rattle.std.proofs.lemmas.List.{take-take, take_all, take_at, take_more, take-append-le, length-take, length-take-le}
use Rattle.std.proofs.lemmas.Slice.Eq.{ends_is}
use Rattle.reg_io.specs.Delimiter.{EndsWith, FirstDelimiter, HasNoDelimiter}

-- what `bytes.ends_with(delimiter)` says where it answers yes, and where it answers no
pub ends_found : (bytes delimiter : List ℕ) (r : Bool) → r ≡ ends_with nat_eq bytes delimiter → r ≡ true → EndsWith bytes delimiter
ends_found bytes delimiter r is found = (take (length bytes - length delimiter) bytes, (ends_is Decides-eqb bytes delimiter r is).0 found)

pub ends_missed : (bytes delimiter : List ℕ) (r : Bool) → r ≡ ends_with nat_eq bytes delimiter → r ≡ false → ¬ EndsWith bytes delimiter
ends_missed bytes delimiter r is missed ends = let found = (ends_is Decides-eqb bytes delimiter r is).1 ends.0 ends.1 in cc

-- a mark of some bytes ends no empty list
pub nothing_ends : (delimiter : List ℕ) → 0 < length delimiter → ¬ EndsWith [] delimiter
nothing_ends delimiter some ends = let e = ap length ends.1 ∙ length-append ends.0 delimiter in absurd (omega arith)

-- where none of the fronts up to a count ends with the mark, it is not in the first bytes up to there
pub no_mark_of_fronts : (delimiter bytes : List ℕ) (count : ℕ) → ((n : ℕ) → n ≤ count → ¬ EndsWith (take n bytes) delimiter) → HasNoDelimiter delimiter (take count bytes)
no_mark_of_fronts delimiter bytes count none n ends =
    elim (cases_lt count n) [
      | inl above ↦ none count (omega arith) (ends.0, sym (take_all n (take count bytes) (omega (arith, length-take count bytes))) ∙ ends.1)
      | inr below ↦ none n below (ends.0, sym (take-take n count bytes below) ∙ ends.1)
    ]

-- the first mark stays the first, however the bytes go on
pub FirstDelimiter-append : (delimiter bytes more : List ℕ) (end : ℕ) → FirstDelimiter delimiter bytes end → FirstDelimiter delimiter (bytes ++ more) end
FirstDelimiter-append delimiter bytes more end is =
    let same = λ (n : ℕ) (h : n ≤ end). take-append-le n bytes more (omega (arith, is.within)) in
    record {
      within = omega (arith, is.within, length-append bytes more);
      here = (is.here.0, same end (omega arith) ∙ is.here.1);
      first = λ n h ends. is.first n h (ends.0, sym (same n (omega arith)) ∙ ends.1);
    }

-- and in any front that it is in
pub FirstDelimiter-take : (delimiter bytes : List ℕ) (end count : ℕ) → FirstDelimiter delimiter bytes end → end ≤ count → FirstDelimiter delimiter (take count bytes) end
FirstDelimiter-take delimiter bytes end count is below =
    let same = λ (n : ℕ) (h : n ≤ end). take-take n count bytes (omega arith) in
    record {
      within = omega (arith, is.within, length-take count bytes);
      here = (is.here.0, same end (omega arith) ∙ is.here.1);
      first = λ n h ends. is.first n h (ends.0, sym (same n (omega arith)) ∙ ends.1);
    }

-- there is one first mark
pub FirstDelimiter-unique : (delimiter bytes : List ℕ) (m n : ℕ) → FirstDelimiter delimiter bytes m → FirstDelimiter delimiter bytes n → m ≡ n
FirstDelimiter-unique delimiter bytes m n is also =
    elim (cases_order m n) [
      | inl same ↦ same
      | inr (inl less) ↦ absurd (also.first m less is.here)
      | inr (inr more) ↦ absurd (is.first n more also.here)
    ]

-- a mark of one byte is nowhere where no byte is that byte
pub no_delimiter_of_byte : (byte : ℕ) (bytes : List ℕ) → HasNoDelimiter (byte ∷ []) bytes → All (λ b. b ≢ byte) bytes
no_delimiter_of_byte byte bytes none k d within is =
    none (k + 1) (take k bytes, take_more bytes k d within ∙ ap (λ b. take k bytes ++ b ∷ []) is)

-- up to the first mark of one byte stand other bytes, and then that byte
pub first_delimiter_of_byte : (byte : ℕ) (bytes : List ℕ) (end : ℕ) → FirstDelimiter (byte ∷ []) bytes end
    → (front : List ℕ) × (take end bytes ≡ front ++ byte ∷ []) × All (λ b. b ≢ byte) front
first_delimiter_of_byte byte bytes end is =
    let front = is.here.0 in
    let count : length front + 1 ≡ end =
    sym (length-append front (byte ∷ [])) ∙ sym (ap length is.here.1) ∙ length-take-le end bytes is.within in
    let same : take (length front) bytes ≡ front =
    sym (take-take (length front) end bytes (omega arith)) ∙ ap (take (length front)) is.here.1 ∙ take_at front (byte ∷ []) (length front) refl in
    let free = no_mark_of_fronts (byte ∷ []) bytes (length front) (λ n below. is.first n (omega arith)) in
    (front, is.here.1, no_delimiter_of_byte byte front (subst (HasNoDelimiter (byte ∷ [])) same free))
