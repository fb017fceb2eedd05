-- Lemmas on one step of a run: what is read of a line, and that it ran.
use Rattle.std.proofs.Common.{◌≡◌, ◌≢◌, ◌⊎◌, ℕ, ◌+◌, ◌-◌, ◌<◌, ◌≤◌, Bool, true, false, List, [], ◌∷◌, ◌++◌, length, take, drop, Option, refl, sym, ap, ◌∙◌, subst, arith, inl, inr, length-append, length-take, length-drop, append-nil}
use Rattle.std.specs.Prelude.{IsFalse, IsTrue, Ok, Err}
use Rattle.std.specs.Io.BufRead.{ends_with_byte, strip_last}
use Rattle.std.specs.Io.KnownBytes.{Appends}
use Rattle.std.proofs.lemmas.Bool.{eq-eqb, ne_eqb, lt-ltb}
use Rattle.std.proofs.lemmas.List.{get_or_push, take_all, take_at}
use Rattle.reg_io.specs.Fill.{FillsShort, FillsTo}
use Rattle.reg_io.specs.declared.fill.FillEnd.TheVariants.{Delimiter, Full, End}
use Rattle.reg_io.proofs.PublicLaws.{first_delimiter_of_byte, no_delimiter_of_byte, splits_at_delimiter, keeps_what_was_taken}
use Rattle.reg_core.specs.declared.refusal.Fault.{Fault}
use Rattle.reg_core.specs.declared.refusal.Fault.TheVariants.{Read, Write}
use Rattle.reg_lines.specs.Script.{HasNoLf, IsCut, IsShort, IsWholeLine, LineEnds, NextEnds, RanLast, RanWhole, line_of}
use Rattle.reg_lines.specs.declared.answered.Ended.TheVariants as ended
use Rattle.reg_lines.specs.declared.answered.Continuation.TheVariants as passed
use Rattle.reg_lines.specs.declared.lines.AfterLine.TheVariants.{Held, End as Ends}
use Rattle.reg_lines.proofs.Pieces.{turned}

-- ---- lines

ends_push : (front : List ℕ) (byte : ℕ) → ends_with_byte byte (front ++ byte ∷ []) ≡ true
ends_push front byte =
    let size : length (front ++ byte ∷ []) ≡ length front + 1 = length-append front (byte ∷ []) in
    let last : length (front ++ byte ∷ []) - 1 ≡ length front = omega arith in
    rw (lt-ltb 0 (length (front ++ byte ∷ [])) (omega arith), last, get_or_push front byte 0 (length front) refl, eq-eqb byte byte refl) refl

pub strip_push : (front : List ℕ) (byte : ℕ) → strip_last byte (front ++ byte ∷ []) ≡ front
strip_push front byte =
    let size : length (front ++ byte ∷ []) ≡ length front + 1 = length-append front (byte ∷ []) in
    let last : length (front ++ byte ∷ []) - 1 ≡ length front = omega arith in
    rw (ends_push front byte, last) (take_at front (byte ∷ []) (length front) refl)

-- what ends in no LF
ends_free : (piece : List ℕ) → HasNoLf piece → ends_with_byte 10 piece ≡ false
ends_free [] free = refl
ends_free (byte ∷ rest) free =
    let some : 0 < length (byte ∷ rest) = omega arith in
    let last : length (byte ∷ rest) - 1 < length (byte ∷ rest) = omega arith in
    rw (lt-ltb 0 (length (byte ∷ rest)) some, ne_eqb _ 10 (free (length (byte ∷ rest) - 1) 0 last)) refl

pub line_free : (piece : List ℕ) → HasNoLf piece → line_of piece ≡ piece
line_free piece free = rw (ends_free piece free) refl

pub strip_free : (piece : List ℕ) → HasNoLf piece → strip_last 10 piece ≡ piece
strip_free piece free = rw (ends_free piece free) refl

-- a whole line with its LF is one byte longer than what is before it
pub whole_short : (longest : ℕ) (piece : List ℕ) → IsWholeLine piece → length piece ≤ longest + 1 → IsShort longest piece
whole_short longest piece (front, is, free) fits =
    let size : length piece ≡ length front + 1 = ap length is ∙ length-append front (10 ∷ []) in
    let stripped : length (strip_last 10 piece) ≡ length front = ap (λ l. length (strip_last 10 l)) is ∙ ap length (strip_push front 10) in
    omega arith

whole_some : (piece : List ℕ) → IsWholeLine piece → 0 < length piece
whole_some piece (front, is, free) =
    let size : length piece ≡ length front + 1 = ap length is ∙ length-append front (10 ∷ []) in
    omega arith

-- Lines that run, in a buffer, which is `before` and then `after` the next bytes were taken.
module _ {S : Type 0} (runs : S → List ℕ → List ℕ → S → Type 0) (longest : ℕ) (input_failed clock_failed output_failed : Type 0) (is_strict : Bool) (s t : S) (out out' input left : Option (List ℕ))
    (before after : List ℕ) (buffered : ℕ) (size : length after ≡ longest + 1) where
  -- ---- at a mark

  module _ (end now : ℕ) (to : FillsTo (10 ∷ []) input left before after buffered (Delimiter end now)) where
    whole_at : IsWholeLine (take end after)
    whole_at = first_delimiter_of_byte 10 after end to.rests.1

    ordered : end ≤ now
    ordered = to.rests.0

    within : now ≤ length after
    within = let count = to.count in let fits = to.fills.within in omega arith

    -- the line ran, and its reply was written; what is left is behind it
    ran_at : (line reply rest : List ℕ) → line ≡ line_of (take end after) → rest ≡ drop end (take now after)
        → runs s line reply t → Appends out out' reply
        → (ran : RanWhole runs s t out out' longest input left (take buffered before) rest) × (ran.reply ≡ reply)
    ran_at line reply rest lines is replied wrote = (
      record {
        took = to.took;
        piece = take end after;
        reply = reply;
        consumed = to.fills.consumed;
        cut = splits_at_delimiter (10 ∷ []) input left before after buffered end now to ∙ ap (λ l. take end after ++ l) (sym is);
        whole = whole_at;
        short = whole_short longest (take end after) whole_at (omega (arith, size, length-take end after));
        little = omega (arith, size, within, ap length is, length-drop end (take now after), length-take now after);
        replied = subst (λ l. runs s l reply t) lines replied;
        wrote = wrote;
      },
      refl,
    )

    -- the buffer is turned, so that what is left stands at its front
    pub ran_on : (line rotated : List ℕ) → line ≡ line_of (take end after) → rotated ≡ drop end after ++ take end after
        → LineEnds runs s t out out' clock_failed output_failed is_strict line (Ok passed.On)
        → NextEnds runs s t out out' longest input left (take buffered before) input_failed clock_failed output_failed is_strict rotated (Ok (Held (now - end)))
    ran_on line rotated lines is (reply, replied, wrote, goes) =
        let ran = ran_at line reply (take (now - end) rotated) lines (ap (take (now - end)) is ∙ turned after end now ordered within) replied wrote in
        let some : 0 < length (take end after) = whole_some (take end after) whole_at in
        let long : length rotated ≡ length (drop end after) + length (take end after) = ap length is ∙ length-append (drop end after) (take end after) in (
          omega (arith, long, length-take end after, length-drop end after, ordered, within),
          ran.0,
          (λ strict. rw ran.1 (goes strict)),
        )

    -- a strict run ends
    pub ran_refused : (line buffer : List ℕ) (refused : _) → line ≡ line_of (take end after)
        → LineEnds runs s t out out' clock_failed output_failed is_strict line (Ok (passed.Refused refused))
        → NextEnds runs s t out out' longest input left (take buffered before) input_failed clock_failed output_failed is_strict buffer (Ok (Ends (ended.Refused refused)))
    ran_refused line buffer refused lines (reply, replied, wrote, goes) =
        let ran = ran_at line reply (drop end (take now after)) lines refl replied wrote in
        (drop end (take now after), ran.0, goes.0, rw ran.1 goes.1, rw ran.1 goes.2)

    -- a fault
    pub failed_at : (line buffer : List ℕ) (fault : Fault) → line ≡ line_of (take end after)
        → LineEnds runs s t out out' clock_failed output_failed is_strict line (Err fault)
        → NextEnds runs s t out out' longest input left (take buffered before) input_failed clock_failed output_failed is_strict buffer (Err fault)
    failed_at line buffer Write lines (reply, replied, wrote, failed) = (
      record {
        took = to.took;
        piece = take end after;
        rest = drop end (take now after);
        reply = reply;
        consumed = to.fills.consumed;
        cut = splits_at_delimiter (10 ∷ []) input left before after buffered end now to;
        ends = inl whole_at;
        short = whole_short longest (take end after) whole_at (omega (arith, size, length-take end after));
        replied = subst (λ l. runs s l reply t) lines replied;
        wrote = wrote;
      },
      failed,
    )
    failed_at line buffer Read lines (clocked, same, kept) = (
      record {
        took = to.took;
        consumed = to.fills.consumed;
        little = omega (arith, size, within, ap length (keeps_what_was_taken (10 ∷ []) input left before after buffered (Delimiter end now) to), length-take now after);
        office = same;
        wrote = kept;
      },
      inr clocked,
    )
    failed_at line buffer other lines ends = absurd ends

  -- ---- at the end of the input

  module _ (now : ℕ) (to : FillsTo (10 ∷ []) input left before after buffered (End now)) where
    taken_is : take now after ≡ take buffered before ++ to.took
    taken_is = keeps_what_was_taken (10 ∷ []) input left before after buffered (End now) to

    free : HasNoLf (take now after)
    free = no_delimiter_of_byte 10 (take now after) to.rests.1

    short : length (take now after) ≤ longest
    short = let room = to.rests.0 in omega (arith, size, length-take now after)

    some : now ≢ 0 → 0 < length (take now after)
    some more = let room = to.rests.0 in omega (arith, length-take now after)

    ran_last : ((take now after ≡ []) × (t ≡ s) × Appends out out' [])
        ⊎ ((0 < length (take now after)) × (reply : List ℕ) × runs s (take now after) reply t × Appends out out' reply)
        → (ran : RanLast runs s t out out' longest input left (take buffered before)) × (take buffered before ++ ran.took ≡ take now after)
    ran_last ran = (
      record {
        took = to.took;
        consumed = to.fills.consumed;
        at_end = to.rests.2;
        free = subst HasNoLf taken_is free;
        short = rw (sym taken_is) short;
        ran = rw (sym taken_is) ran;
      },
      sym taken_is,
    )

    -- nothing is left
    pub ended_none : (buffer : List ℕ) → now ≡ 0 → t ≡ s → Appends out out' []
        → NextEnds runs s t out out' longest input left (take buffered before) input_failed clock_failed output_failed is_strict buffer (Ok (Ends ended.Whole))
    ended_none buffer none stays kept =
        let empty : take now after ≡ [] = ap (λ n. take n after) none in
        let ran = ran_last (inl (empty, stays, kept)) in
        (ran.0, λ more. absurd (omega (arith, more, ap length ran.1, ap length empty)))

    -- a last line without its LF ran
    pub ended_last : (buffer : List ℕ) (passed : _) → now ≢ 0 → IsFalse is_strict
        → LineEnds runs s t out out' clock_failed output_failed is_strict (take now after) (Ok passed)
        → NextEnds runs s t out out' longest input left (take buffered before) input_failed clock_failed output_failed is_strict buffer (Ok (Ends ended.Whole))
    ended_last buffer passed more lax (reply, replied, wrote, goes) = ((ran_last (inr (some more, reply, replied, wrote))).0, λ _. lax)

    -- a strict run does not run it
    pub ended_cut : (buffer : List ℕ) → now ≢ 0 → IsTrue is_strict → t ≡ s → Appends out out' []
        → NextEnds runs s t out out' longest input left (take buffered before) input_failed clock_failed output_failed is_strict buffer (Ok (Ends ended.NoLineEnd))
    ended_cut buffer more strict stays kept = (
      record {
        took = to.took;
        consumed = to.fills.consumed;
        little = omega (arith, short, ap length taken_is);
        office = stays;
        wrote = kept;
      },
      strict,
      subst IsCut taken_is (free, some more),
      to.rests.2,
    )

    -- its run came to a fault
    pub failed_last : (buffer : List ℕ) (fault : Fault) → now ≢ 0
        → LineEnds runs s t out out' clock_failed output_failed is_strict (take now after) (Err fault)
        → NextEnds runs s t out out' longest input left (take buffered before) input_failed clock_failed output_failed is_strict buffer (Err fault)
    failed_last buffer Write more (reply, replied, wrote, failed) = (
      record {
        took = to.took;
        piece = take now after;
        rest = [];
        reply = reply;
        consumed = to.fills.consumed;
        cut = sym taken_is ∙ sym (append-nil (take now after));
        ends = inr ((free, some more), refl, to.rests.2);
        short = omega (arith, short, ap length (strip_free (take now after) free));
        replied = subst (λ l. runs s l reply t) (sym (line_free (take now after) free)) replied;
        wrote = wrote;
      },
      failed,
    )
    failed_last buffer Read more (clocked, stays, kept) = (
      record {
        took = to.took;
        consumed = to.fills.consumed;
        little = omega (arith, short, ap length taken_is);
        office = stays;
        wrote = kept;
      },
      inr clocked,
    )
    failed_last buffer other more ends = absurd ends

  -- ---- where the input fails

  pub reads_full : (buffer : List ℕ) → FillsTo (10 ∷ []) input left before after buffered Full → t ≡ s → Appends out out' []
      → NextEnds runs s t out out' longest input left (take buffered before) input_failed clock_failed output_failed is_strict buffer (Err Read)
  reads_full buffer to stays kept =
      let all : after ≡ take buffered before ++ to.took =
      sym (take_all (length after) after (omega arith)) ∙ keeps_what_was_taken (10 ∷ []) input left before after buffered Full to in (
        record {
          took = to.took;
          consumed = to.fills.consumed;
          little = omega (arith, size, ap length all);
          office = stays;
          wrote = kept;
        },
        inl (subst HasNoLf all (no_delimiter_of_byte 10 after to.rests), inl (omega (arith, size, ap length all))),
      )

  pub reads_short : (buffer : List ℕ) → FillsShort (10 ∷ []) input left before after buffered → input_failed → t ≡ s → Appends out out' []
      → NextEnds runs s t out out' longest input left (take buffered before) input_failed clock_failed output_failed is_strict buffer (Err Read)
  reads_short buffer to failed stays kept =
      let room = to.room in (
        record {
          took = to.took;
          consumed = to.fills.consumed;
          little = omega (arith, size, ap length to.fills.stands, length-take (buffered + length to.took) after);
          office = stays;
          wrote = kept;
        },
        inl (subst HasNoLf to.fills.stands (no_delimiter_of_byte 10 _ to.no_delimiter), inr failed),
      )
