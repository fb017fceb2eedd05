-- Lemmas on a read up to a delimiter: how it can stop.
use Rattle.std.proofs.Common.{◌≡◌, ℕ, ◌<◌, ◌≤◌, ◌+◌, List, ◌++◌, length, take, drop, sym, ap, ◌∙◌, subst, arith, take-append-drop}
use Rattle.std.specs.declared.option.Option.{Option}
use Rattle.std.specs.Io.KnownBytes.{Consumes, IsAtEnd, Keeps}
use Rattle.std.proofs.lemmas.List.{take_all, take-take}
use Rattle.std.proofs.lemmas.Slice.{take-put_mid_below}
use borrow.Rule.Slice.PartMut.{put_mid}
use Rattle.reg_io.specs.declared.fill.FillEnd.{FillEnd}
use Rattle.reg_io.specs.declared.fill.FillEnd.TheVariants.{Delimiter, Full, End}
use Rattle.reg_io.specs.Fill.{FillsShort, FillsTo, buffered_after}
use Rattle.reg_io.specs.Delimiter.{EndsWith, HasNoDelimiter}
use Rattle.reg_io.proofs.Buffers.{SoFar, held_stays, so_far_kept, so_far_more}
use Rattle.reg_io.proofs.Marks.{no_mark_of_fronts, nothing_ends}

-- no mark ends in the first `count` bytes
abbrev pub NoDelimiter : List ℕ → List ℕ → ℕ → Type 0
NoDelimiter delimiter bytes count = (n : ℕ) → n ≤ count → ¬ EndsWith (take n bytes) delimiter

-- nothing was searched yet
pub no_delimiter_start : (delimiter bytes : List ℕ) → 0 < length delimiter → NoDelimiter delimiter bytes 0
no_delimiter_start delimiter bytes some n none ends =
    let zero_is : n ≡ 0 = omega arith in
    nothing_ends delimiter some (subst (λ m. EndsWith (take m bytes) delimiter) zero_is ends)

-- a read behind the first bytes leaves those as they were
pub no_delimiter_read : (delimiter between ys : List ℕ) (now k : ℕ) → now ≤ length between → NoDelimiter delimiter between now → NoDelimiter delimiter (put_mid now k between ys) now
no_delimiter_read delimiter between ys now k fits none n below ends =
    none n below (ends.0, sym (take-put_mid_below now k between ys n below fits) ∙ ends.1)

-- what was held at the start had no mark either
pub no_delimiter_before : (delimiter : List ℕ) (input left : Option (List ℕ)) (before after : List ℕ) (buffered filled : ℕ)
    → SoFar input left before after buffered filled → buffered ≤ length before → NoDelimiter delimiter after filled → NoDelimiter delimiter before buffered
no_delimiter_before delimiter input left before after buffered filled so_far fits none n below ends =
    none n (omega (arith, so_far.count)) (ends.0, held_stays input left before after buffered n so_far.took so_far.fills below fits ∙ ends.1)

-- the buffer is full and has no mark
pub rests_full : (delimiter : List ℕ) (input left : Option (List ℕ)) (before after : List ℕ) (buffered filled : ℕ)
    → SoFar input left before after buffered filled → filled ≡ length after → NoDelimiter delimiter after filled → FillsTo delimiter input left before after buffered Full
rests_full delimiter input left before after buffered filled so_far full none = record {
  took = so_far.took;
  fills = so_far.fills;
  count = omega (arith, so_far.count);
  rests = subst (HasNoDelimiter delimiter) (take_all filled after (omega arith)) (no_mark_of_fronts delimiter after filled none);
}

-- the reader gave no more: it was asked for some bytes, and gave none
pub rests_end : (delimiter : List ℕ) (input middle left : Option (List ℕ)) (before between ys : List ℕ) (buffered filled k n : ℕ)
    → SoFar input middle before between buffered filled → filled < length between → filled + length ys ≡ length between
    → length (put_mid filled k between ys) ≡ length between → NoDelimiter delimiter between filled
    → n ≡ 0 → Consumes middle left (take n ys) × (n ≡ 0 → 0 < length ys → IsAtEnd left)
    → FillsTo delimiter input left before (put_mid filled k between ys) buffered (End filled)
rests_end delimiter input middle left before between ys buffered filled k n so_far room whole same none nothing gave =
    let consumed = subst (λ m. Consumes middle left (take m ys)) nothing gave.0 in
    let more = so_far_more input middle left before between ys buffered filled k 0 so_far (omega arith) whole same consumed in
    record {
      took = more.took;
      fills = more.fills;
      count = omega (arith, more.count);
      rests = (omega arith, no_mark_of_fronts delimiter (put_mid filled k between ys) filled (no_delimiter_read delimiter between ys filled k (omega arith) none), gave.1 nothing (omega arith));
    }

-- the reader failed
pub breaks_off : (delimiter : List ℕ) (input middle left : Option (List ℕ)) (before between ys : List ℕ) (buffered filled k : ℕ)
    → SoFar input middle before between buffered filled → filled < length between
    → length (put_mid filled k between ys) ≡ length between → NoDelimiter delimiter between filled
    → Keeps middle left → FillsShort delimiter input left before (put_mid filled k between ys) buffered
breaks_off delimiter input middle left before between ys buffered filled k so_far room same none keeps =
    let kept = so_far_kept input middle left before between ys buffered filled k so_far (omega arith) same keeps in
    record {
      took = kept.took;
      fills = kept.fills;
      room = omega (arith, kept.count);
      no_delimiter = subst (λ n. HasNoDelimiter delimiter (take n (put_mid filled k between ys))) kept.count
          (no_mark_of_fronts delimiter (put_mid filled k between ys) filled (no_delimiter_read delimiter between ys filled k (omega arith) none));
    }

-- ---- for those who read up to a mark

-- what is held where the reading came to rest
pub keeps_what_was_taken : (delimiter : List ℕ) (input left : Option (List ℕ)) (before after : List ℕ) (buffered : ℕ) (reached : FillEnd)
    → (to : FillsTo delimiter input left before after buffered reached) → take (buffered_after (length after) reached) after ≡ take buffered before ++ to.took
keeps_what_was_taken delimiter input left before after buffered reached to = ap (λ n. take n after) to.count ∙ to.fills.stands

-- at a mark: the bytes up to its end, and those that are held behind it
pub splits_at_delimiter : (delimiter : List ℕ) (input left : Option (List ℕ)) (before after : List ℕ) (buffered end now : ℕ)
    → (to : FillsTo delimiter input left before after buffered (Delimiter end now)) → take buffered before ++ to.took ≡ take end after ++ drop end (take now after)
splits_at_delimiter delimiter input left before after buffered end now to =
    sym (keeps_what_was_taken delimiter input left before after buffered (Delimiter end now) to)
    ∙ sym (take-append-drop end (take now after))
    ∙ ap (λ l. l ++ drop end (take now after)) (take-take end now after to.rests.0)
