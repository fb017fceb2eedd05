-- What was read up to and with an LF, or to the end of an input.
use Rattle.std.proofs.Common.{◌≡◌, ◌≢◌, ℕ, ◌+◌, ◌-◌, ◌<◌, ◌==◌, Bool, true, false, List, [], ◌∷◌, ◌++◌, length, length-append, take, get_or, nat_lt, slice_index, IfSome, Option, Some, None, append-nil, refl, sym, ap, ◌∙◌, subst, arith, take_all, eq-eqb, lt-ltb}
use Rattle.std.specs.Io.{StopsAt}
use Rattle.std.specs.Io.BufRead.{ends_with_byte, take_through}
use Rattle.std.specs.Io.KnownBytes.{Consumes}
use Rattle.std.proofs.BufReadLemmas.{take_through-append, take_through-nil}
use Rattle.std.proofs.Transfers.{All-of_StopsAt}
use Rattle.std.proofs.lemmas.Bool.{and_parts, eqb-true, false≢true}
use Rattle.std.proofs.lemmas.List.{get_or_default, nil_from_length, take_more}
use Rattle.reg_lines.specs.Script.{HasNoLf, IsWholeLine}
use Rattle.reg_desk_jobs.specs.Conversations.{IsCutOff, IsInput, IsReadAs, NextIs}
use Rattle.reg_desk_jobs.specs.declared.at_job.NextLine.{NextLine}
use Rattle.reg_desk_jobs.specs.declared.at_job.NextLine.TheVariants as next

-- ---- what the bytes are

one_tested : (bytes : List ℕ) → nat_lt 0 (length bytes) ≡ true → 0 < length bytes
one_tested [] is = absurd (false≢true is)
one_tested (byte ∷ rest) is = omega arith

one_there : (bytes : List ℕ) → (length bytes == 0) ≡ false → 0 < length bytes
one_there [] is = absurd (false≢true (sym is))
one_there (byte ∷ rest) is = omega arith

pub read_whole : (bytes : List ℕ) (found : Bool) → StopsAt bytes 10 → found ≡ ends_with_byte 10 bytes → found ≡ true → IsWholeLine bytes
read_whole bytes found stops is holds =
    let both = and_parts (nat_lt 0 (length bytes)) (slice_index bytes (length bytes - 1) == 10) (sym is ∙ holds) in
    let some = one_tested bytes both.0 in
    let last = length bytes - 1 in (
      take last bytes,
      sym (take_all (last + 1) bytes (omega arith)) ∙ take_more bytes last 0 (omega arith)
          ∙ ap (λ byte. take last bytes ++ byte ∷ []) (eqb-true (get_or bytes last 0) 10 both.1),
      stops,
    )

pub read_nothing : (bytes : List ℕ) (found : Bool) → found ≡ (length bytes == 0) → found ≡ true → bytes ≡ []
read_nothing bytes found is holds = nil_from_length bytes (eqb-true (length bytes) 0 (sym is ∙ holds))

-- bytes that have an LF at their end
lf_ends : (bytes : List ℕ) → 0 < length bytes → get_or bytes (length bytes - 1) 0 ≡ 10 → ends_with_byte 10 bytes ≡ true
lf_ends bytes some lf = rw (lt-ltb 0 (length bytes) some, eq-eqb (get_or bytes (length bytes - 1) 0) 10 lf) refl

pub read_cut : (bytes : List ℕ) (found empty : Bool) → StopsAt bytes 10 → found ≡ ends_with_byte 10 bytes → found ≡ false
    → empty ≡ (length bytes == 0) → empty ≡ false → IsCutOff bytes
read_cut bytes found empty stops is fails is_empty some_there =
    let some = one_there bytes (sym is_empty ∙ some_there) in
    let last = length bytes - 1 in
    let byte = get_or bytes last 0 in
    let other : byte ≢ 10 = λ lf. false≢true (sym (sym is ∙ fails) ∙ lf_ends bytes some lf) in (
      All-of_StopsAt bytes 10 (length bytes) byte refl (λ none. omega (arith, none, some)) (get_or_default bytes last 0 byte (omega arith)) other stops,
      some,
    )

-- ---- what the input has

all_taken : (input input' : Option (List ℕ)) (bytes : List ℕ) → Consumes input input' bytes → IfSome input (λ xs. bytes ≡ take_through 10 xs) → HasNoLf bytes
    → IsInput input bytes
all_taken None input' bytes took through free = tt
all_taken (Some xs) None bytes took through free = absurd took
all_taken (Some xs) (Some ys) bytes took through free =
    let more : bytes ≡ bytes ++ take_through 10 ys = through ∙ ap (take_through 10) took ∙ take_through-append 10 bytes ys free in
    let none : length (take_through 10 ys) ≡ 0 = omega (arith, ap length more, length-append bytes (take_through 10 ys)) in
    took ∙ ap (λ l. bytes ++ l) (take_through-nil 10 ys none) ∙ append-nil bytes

none_there : (input : Option (List ℕ)) (bytes : List ℕ) → IfSome input (λ xs. bytes ≡ take_through 10 xs) → bytes ≡ [] → IsInput input []
none_there None bytes through none = tt
none_there (Some xs) bytes through none = take_through-nil 10 xs (ap length (sym through ∙ none))

pub next_is : (input input' : Option (List ℕ)) (bytes : List ℕ) (it : NextLine) → Consumes input input' bytes → IfSome input (λ xs. bytes ≡ take_through 10 xs)
    → IsReadAs bytes it → NextIs input input' it
next_is input input' bytes (next.Line line) took through (is, whole) =
    (subst IsWholeLine (sym is) whole, subst (Consumes input input') (sym is) took)
next_is input input' bytes next.Cut took through cut = (bytes, cut, all_taken input input' bytes took through cut.0)
next_is input input' bytes next.End took through none = none_there input bytes through none
