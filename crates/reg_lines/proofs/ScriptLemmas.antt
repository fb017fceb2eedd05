-- Lemmas on a run of lines, one after the other.
use Rattle.std.proofs.Common.{◌≡◌, ◌≢◌, ◌⊎◌, ℕ, ◌+◌, ◌<◌, ◌≤◌, List, [], ◌∷◌, ◌++◌, length, map, take, Option, refl, sym, ap, ◌∙◌, subst, arith, inl, inr, lit≤, length-append, length-take, append-nil, append_assoc, Ok, Err}
use Rattle.std.specs.Prelude.{Bool, true, false, IsFalse, IsTrue, Result}
use Rattle.reg_core.specs.declared.refusal.Fault.{Fault}
use Rattle.reg_core.specs.declared.refusal.Fault.TheVariants.{Read, Write}
use Rattle.std.specs.List.{AllByRecursion, concat}
use Rattle.std.specs.Io.KnownBytes.{Appends, Consumes, IsAtEnd}
use Rattle.std.proofs.KnownBytes.{Appends-nil, Appends-trans, Consumes-nil, Consumes-trans}
use Rattle.std.proofs.lemmas.Bool.{false≢true, ne_eqb}
use Rattle.std.proofs.lemmas.List.{map-append}
use Rattle.std.proofs.lemmas.List.Elements.{All-head, All-nil, All-tail}
use Rattle.reg_io.specs.RunsOfAnswers.{Answered}
use Rattle.reg_io.proofs.PublicLaws.{answered_push}
use Rattle.reg_lines.proofs.Pieces.{all_push, concat_push}
use Rattle.reg_lines.specs.Accepted.{IsAccepted, GivesReason}
use Rattle.reg_lines.specs.Script.{CutLine, EndOrMore, FirstLines, HasNoLf, IsCut, IsShort, IsWholeLine, NextEnds, RanLast, RanNone, RanWhole, RunEnds, TakesNoLine, WritesPart, line_of, longest_of, pieces}
use Rattle.reg_lines.specs.declared.answered.Ended.{Ended}
use Rattle.reg_lines.specs.declared.answered.Ended.TheVariants as ended
use Rattle.reg_lines.specs.declared.lines.AfterLine.TheVariants.{End}
use Rattle.reg_lines.proofs.StepLemmas.{line_free, strip_free}

abbrev no_lf : ℕ → Type 0
no_lf byte = byte ≢ 10

-- ---- lines of an input

cut_whole : (front rest : List ℕ) → HasNoLf front → pieces ((front ++ 10 ∷ []) ++ rest) ≡ (front ++ 10 ∷ []) ∷ pieces rest
unfolding pieces
cut_whole [] rest free = refl
cut_whole (byte ∷ front) rest free =
    rw (ne_eqb byte 10 (All-head no_lf byte front free), cut_whole front rest (All-tail no_lf byte front free)) refl

pub pieces_whole : (piece rest : List ℕ) → IsWholeLine piece → pieces (piece ++ rest) ≡ piece ∷ pieces rest
pieces_whole piece rest (front, is, free) = rw is (cut_whole front rest free)

pub pieces_free : (bytes : List ℕ) → HasNoLf bytes → 0 < length bytes → pieces bytes ≡ bytes ∷ []
unfolding pieces
pieces_free [] free some = absurd (omega arith)
pieces_free (byte ∷ []) free some = rw (ne_eqb byte 10 (All-head no_lf byte [] free)) refl
pieces_free (byte ∷ next ∷ rest) free some =
    rw (ne_eqb byte 10 (All-head no_lf byte (next ∷ rest) free), pieces_free (next ∷ rest) (All-tail no_lf byte (next ∷ rest) free) (omega arith)) refl

pub pieces_none : pieces [] ≡ []
unfolding pieces
pieces_none = refl

pieces_done : (done : List (List ℕ)) (rest : List ℕ) → AllByRecursion IsWholeLine done → pieces (concat done ++ rest) ≡ done ++ pieces rest
pieces_done [] rest all = refl
pieces_done (piece ∷ done) rest all =
    let assoc : concat (piece ∷ done) ++ rest ≡ piece ++ (concat done ++ rest) = append_assoc piece (concat done) rest in
    ap pieces assoc ∙ pieces_whole piece (concat done ++ rest) all.0 ∙ ap (λ l. piece ∷ l) (pieces_done done rest all.1)

lines_push : (done : List (List ℕ)) (piece : List ℕ) → map line_of (done ++ piece ∷ []) ≡ map line_of done ++ line_of piece ∷ []
lines_push done piece = map-append line_of done (piece ∷ [])

-- what is taken besides stands behind what is held
taken_more : (took buffered more : List ℕ) (done : List (List ℕ)) → took ≡ concat done ++ buffered → took ++ more ≡ concat done ++ (buffered ++ more)
taken_more took buffered more done parts = ap (λ l. l ++ more) parts ∙ append_assoc (concat done) buffered more

-- these lines are the first ones, however the input goes on
first_lines : (took buffered more : List ℕ) (done : List (List ℕ)) → took ≡ concat done ++ buffered → AllByRecursion IsWholeLine done
    → (after : List ℕ) → pieces ((took ++ more) ++ after) ≡ done ++ pieces ((buffered ++ more) ++ after)
first_lines took buffered more done parts whole after =
    ap pieces (ap (λ l. l ++ after) (taken_more took buffered more done parts) ∙ append_assoc (concat done) (buffered ++ more) after)
    ∙ pieces_done done ((buffered ++ more) ++ after) whole

-- a line has a byte at least, where it has as many as it may
pub longest_some : (is_clocked : Bool) → 1 ≤ longest_of is_clocked
longest_some true = lit≤ tt
longest_some false = lit≤ tt

-- a byte was taken or none
one_or_none : (more : List ℕ) → length more ≤ 1 → HasNoLf more ⊎ (0 < length more)
one_or_none [] little = inl (All-nil no_lf)
one_or_none (byte ∷ rest) little = inr (omega arith)

-- a byte was taken, or none and the input failed
no_line_or_more : (failed : Type 0) (longest : ℕ) (more : List ℕ) → length more ≤ 1 → (0 < length more) ⊎ failed
    → TakesNoLine failed longest more ⊎ (0 < length more)
no_line_or_more failed longest more little (inl some) = inr some
no_line_or_more failed longest more little (inr fails) =
    elim (one_or_none more little) [ inl free ↦ inl (free, inr fails) | inr some ↦ inr some ]

-- the next line of what is left
next_of : (left piece rest : List ℕ) (input' : Option (List ℕ)) → left ≡ piece ++ rest
    → IsWholeLine piece ⊎ (IsCut piece × (rest ≡ []) × IsAtEnd input') → pieces left ≡ piece ∷ pieces rest
next_of left piece rest input' cut (inl whole) = ap pieces cut ∙ pieces_whole piece rest whole
next_of left piece rest input' cut (inr (is_cut, none, at_end)) =
    let alone : left ≡ piece = cut ∙ ap (λ l. piece ++ l) none ∙ append-nil piece in
    ap pieces alone ∙ pieces_free piece is_cut.0 is_cut.1 ∙ ap (λ l. piece ∷ l) (sym pieces_none ∙ ap pieces (sym none))

ends_of : (piece rest : List ℕ) (input' : Option (List ℕ)) → IsWholeLine piece ⊎ (IsCut piece × (rest ≡ []) × IsAtEnd input')
    → IsWholeLine piece ⊎ ((rest ≡ []) × IsAtEnd input')
ends_of piece rest input' (inl whole) = inl whole
ends_of piece rest input' (inr (is_cut, none, at_end)) = inr (none, at_end)

-- ---- a run so far

module _ {S : Type 0} (runs : S → List ℕ → List ℕ → S → Type 0) (longest : ℕ) (input_failed clock_failed output_failed : Type 0) (is_strict : Bool) where
  -- the lines that ran so far, and the bytes that are held behind them
  pub record Going (s t : S) (input input' out out' : Option (List ℕ)) (buffered : List ℕ) (count : ℕ) : Type 0 where
    pub took : List ℕ
    pub done : List (List ℕ)
    pub replies : List (List ℕ)
    pub parts : took ≡ concat done ++ buffered
    pub whole : AllByRecursion IsWholeLine done
    pub short : AllByRecursion (IsShort longest) done
    pub counted : length done ≡ count
    pub consumed : Consumes input input' took
    pub answered : Answered runs s (map line_of done) replies t
    pub wrote : Appends out out' (concat replies)
    pub passed : IsTrue is_strict → AllByRecursion IsAccepted replies

  pub going_start : (s : S) (input out : Option (List ℕ)) → Going s s input input out out [] 0
  going_start s input out = record {
    took = [];
    done = [];
    replies = [];
    parts = refl;
    whole = tt;
    short = tt;
    counted = refl;
    consumed = Consumes-nil input;
    answered = refl;
    wrote = Appends-nil out;
    passed = λ strict. tt;
  }

  -- What was so far, with less than the most lines, and a step more: at `m`, `between` and `middle` it begins.
  module _ (s m t : S) (input between left out middle out' : Option (List ℕ)) (buffered : List ℕ) (count : ℕ)
      (g : Going s m input between out middle buffered count) (most : count < 1000000) where
    -- what was taken in the step stands behind what is held
    taken : (more : List ℕ) → g.took ++ more ≡ concat g.done ++ (buffered ++ more)
    taken more = taken_more g.took buffered more g.done g.parts

    -- the lines that ran are the first ones, however the input goes on
    first_so_far : (more after : List ℕ) → pieces ((g.took ++ more) ++ after) ≡ g.done ++ pieces ((buffered ++ more) ++ after)
    first_so_far more after = first_lines g.took buffered more g.done g.parts g.whole after

    -- one line more that ran
    module _ (rest : List ℕ) (ran : RanWhole runs m t middle out' longest between left buffered rest) where
      parts_more : g.took ++ ran.took ≡ concat (g.done ++ ran.piece ∷ []) ++ rest
      parts_more =
          taken ran.took ∙ ap (λ l. concat g.done ++ l) ran.cut
          ∙ sym (append_assoc (concat g.done) ran.piece rest) ∙ ap (λ l. l ++ rest) (sym (concat_push g.done ran.piece))

      answered_more : Answered runs s (map line_of (g.done ++ ran.piece ∷ [])) (g.replies ++ ran.reply ∷ []) t
      answered_more = subst (λ l. Answered runs s l (g.replies ++ ran.reply ∷ []) t) (sym (lines_push g.done ran.piece))
          (answered_push runs s m t (map line_of g.done) g.replies (line_of ran.piece) ran.reply g.answered ran.replied)

      wrote_more : Appends out out' (concat (g.replies ++ ran.reply ∷ []))
      wrote_more =
          subst (Appends out out') (sym (concat_push g.replies ran.reply)) (Appends-trans out middle out' (concat g.replies) ran.reply g.wrote ran.wrote)

      -- the run goes on
      pub going_more : (IsTrue is_strict → IsAccepted ran.reply) → Going s t input left out out' rest (count + 1)
      going_more accepted = record {
        took = g.took ++ ran.took;
        done = g.done ++ ran.piece ∷ [];
        replies = g.replies ++ ran.reply ∷ [];
        parts = parts_more;
        whole = all_push IsWholeLine g.done ran.piece g.whole ran.whole;
        short = all_push (IsShort longest) g.done ran.piece g.short ran.short;
        counted = length-append g.done (ran.piece ∷ []) ∙ ap (λ (n : ℕ). n + 1) g.counted;
        consumed = Consumes-trans input between left g.took ran.took g.consumed ran.consumed;
        answered = answered_more;
        wrote = wrote_more;
        passed = λ strict. all_push IsAccepted g.replies ran.reply (g.passed strict) (accepted strict);
      }

      -- its reply ends the run
      refused_run : (refused : _) → IsTrue is_strict → ¬ IsAccepted ran.reply → GivesReason refused ran.reply
          → RunEnds longest input left out out' runs s t input_failed clock_failed output_failed is_strict (Ok (ended.Refused refused))
      refused_run refused strict other why =
          let counted = g.counted in
          let whole = all_push IsWholeLine g.done ran.piece g.whole ran.whole in (
            record {
              took = g.took ++ ran.took;
              done = g.done ++ ran.piece ∷ [];
              replies = g.replies ++ ran.reply ∷ [];
              left = rest;
              consumed = Consumes-trans input between left g.took ran.took g.consumed ran.consumed;
              parts = parts_more;
              first = λ after.
                  ap pieces (ap (λ l. l ++ after) parts_more ∙ append_assoc (concat (g.done ++ ran.piece ∷ [])) rest after)
                  ∙ pieces_done (g.done ++ ran.piece ∷ []) (rest ++ after) whole;
              few = omega (arith, length-append g.done (ran.piece ∷ []));
              short = all_push (IsShort longest) g.done ran.piece g.short ran.short;
              little = ran.little;
              wrote = wrote_more;
            },
            answered_more,
            strict,
            record { accepted = g.replies; refused = ran.reply; parts = refl; each = g.passed strict; last = other },
            why,
          )

    -- no line more ran
    abbrev stopped : RanNone runs m t middle out' longest between left buffered → FirstLines longest input left out out'
    stopped stop =
        let counted = g.counted in record {
          took = g.took ++ stop.took;
          done = g.done;
          replies = g.replies;
          left = buffered ++ stop.took;
          consumed = Consumes-trans input between left g.took stop.took g.consumed stop.consumed;
          parts = taken stop.took;
          first = first_so_far stop.took;
          few = omega arith;
          short = g.short;
          little = stop.little;
          wrote = subst (Appends out out') (append-nil (concat g.replies)) (Appends-trans out middle out' (concat g.replies) [] g.wrote stop.wrote);
        }

    still : (u : S) → u ≡ m → Answered runs s (map line_of g.done) g.replies u
    still u same = subst (Answered runs s (map line_of g.done) g.replies) (sym same) g.answered

    -- the output failed
    abbrev stopped_write : WritesPart runs m t middle out' longest between left buffered → CutLine longest input left out out'
    stopped_write stop =
        let counted = g.counted in record {
          took = g.took ++ stop.took;
          done = g.done;
          replies = g.replies;
          left = buffered ++ stop.took;
          piece = stop.piece;
          rest = stop.rest;
          reply = stop.reply;
          part = stop.wrote.count;
          consumed = Consumes-trans input between left g.took stop.took g.consumed stop.consumed;
          parts = taken stop.took;
          first = first_so_far stop.took;
          few = omega arith;
          short = g.short;
          next = next_of (buffered ++ stop.took) stop.piece stop.rest left stop.cut stop.ends;
          ends = ends_of stop.piece stop.rest left stop.ends;
          little = stop.short;
          partly = stop.wrote.short;
          wrote = Appends-trans out middle out' (concat g.replies) (take stop.wrote.count stop.reply) g.wrote stop.wrote.written;
        }

    -- the bytes that were taken are the lines that ran and those of the rest
    pieces_taken : (more : List ℕ) → pieces (g.took ++ more) ≡ g.done ++ pieces (buffered ++ more)
    pieces_taken more = ap pieces (taken more) ∙ pieces_done g.done (buffered ++ more) g.whole

    -- the rest was a line that ran
    finished_one : (more reply : List ℕ) → Consumes between left more → IsAtEnd left → HasNoLf (buffered ++ more) → length (buffered ++ more) ≤ longest
        → 0 < length (buffered ++ more) → runs m (buffered ++ more) reply t → Appends middle out' reply → IsFalse is_strict
        → RunEnds longest input left out out' runs s t input_failed clock_failed output_failed is_strict (Ok ended.Whole)
    finished_one more reply consumed at_end free small some replied wrote lax =
        let lines : pieces (g.took ++ more) ≡ g.done ++ (buffered ++ more) ∷ [] =
        pieces_taken more ∙ ap (λ l. g.done ++ l) (pieces_free (buffered ++ more) free some) in
        let counted = g.counted in
        let size : length (g.done ++ (buffered ++ more) ∷ []) ≡ length g.done + 1 = length-append g.done ((buffered ++ more) ∷ []) in
        let short : IsShort longest (buffered ++ more) = rw (strip_free (buffered ++ more) free) small in (
          record {
            took = g.took ++ more;
            replies = g.replies ++ reply ∷ [];
            consumed = Consumes-trans input between left g.took more g.consumed consumed;
            at_end = at_end;
            few = rw lines (omega arith);
            short = rw lines (all_push (IsShort longest) g.done (buffered ++ more) g.short short);
            wrote = subst (Appends out out') (sym (concat_push g.replies reply)) (Appends-trans out middle out' (concat g.replies) reply g.wrote wrote);
          },
          rw (lines, lines_push g.done (buffered ++ more), line_free (buffered ++ more) free)
              (answered_push runs s m t (map line_of g.done) g.replies (buffered ++ more) reply g.answered replied),
          (λ strict. absurd (false≢true (sym lax ∙ strict))),
        )

  -- nothing more was written
  kept_back : (out middle out' : Option (List ℕ)) (bytes : List ℕ) → Appends out middle bytes → Appends middle out' [] → Appends out out' bytes
  kept_back out middle out' bytes wrote kept = subst (Appends out out') (append-nil bytes) (Appends-trans out middle out' bytes [] wrote kept)

  -- nothing is left behind the lines that ran
  finished_none : (s t : S) (input between left out middle out' : Option (List ℕ)) (buffered more : List ℕ) (count : ℕ)
      → Going s t input between out middle buffered count → Appends middle out' [] → count ≤ 1000000 → Consumes between left more → IsAtEnd left
      → buffered ++ more ≡ [] → RunEnds longest input left out out' runs s t input_failed clock_failed output_failed is_strict (Ok ended.Whole)
  finished_none s t input between left out middle out' buffered more count g kept most consumed at_end none =
      let lines : pieces (g.took ++ more) ≡ g.done =
      ap pieces (taken_more g.took buffered more g.done g.parts) ∙ pieces_done g.done (buffered ++ more) g.whole
      ∙ ap (λ l. g.done ++ pieces l) none ∙ ap (λ l. g.done ++ l) pieces_none ∙ append-nil g.done in
      let counted = g.counted in (
        record {
          took = g.took ++ more;
          replies = g.replies;
          consumed = Consumes-trans input between left g.took more g.consumed consumed;
          at_end = at_end;
          few = rw lines (omega arith);
          short = rw lines g.short;
          wrote = kept_back out middle out' (concat g.replies) g.wrote kept;
        },
        rw lines g.answered,
        (λ strict. (g.passed strict, rw lines g.whole)),
      )

  -- ---- how it ends

  finished_last : (s m t : S) (input between left out middle out' : Option (List ℕ)) (buffered : List ℕ) (count : ℕ)
      → Going s m input between out middle buffered count → count < 1000000
      → (ran : RanLast runs m t middle out' longest between left buffered) → (0 < length (buffered ++ ran.took) → IsFalse is_strict)
      → RunEnds longest input left out out' runs s t input_failed clock_failed output_failed is_strict (Ok ended.Whole)
  finished_last s m t input between left out middle out' buffered count g most ran lax =
      elim ran.ran [
        | inl (none, same, kept) ↦
            subst (λ v. RunEnds longest input left out out' runs s v input_failed clock_failed output_failed is_strict (Ok ended.Whole)) (sym same)
            (finished_none s m input between left out middle out' buffered ran.took count g kept (omega arith) ran.consumed ran.at_end none)
        | inr (some, reply, replied, wrote) ↦
            finished_one s m t input between left out middle out' buffered count g most ran.took reply ran.consumed ran.at_end ran.free ran.short some
            replied wrote (lax some)
      ]

  -- a step ends the run
  pub run_ended : (s m t : S) (input between left out middle out' : Option (List ℕ)) (buffered buffer : List ℕ) (count : ℕ) (how : Ended)
      → Going s m input between out middle buffered count → count < 1000000
      → NextEnds runs m t middle out' longest between left buffered input_failed clock_failed output_failed is_strict buffer (Ok (End how))
      → RunEnds longest input left out out' runs s t input_failed clock_failed output_failed is_strict (Ok how)
  run_ended s m t input between left out middle out' buffered buffer count ended.Whole g most (ran, lax) =
      finished_last s m t input between left out middle out' buffered count g most ran lax
  run_ended s m t input between left out middle out' buffered buffer count (ended.Refused refused) g most (rest, ran, strict, other, why) =
      refused_run s m t input between left out middle out' buffered count g most rest ran refused strict other why
  run_ended s m t input between left out middle out' buffered buffer count ended.NoLineEnd g most (ran, strict, cut, at_end) = (
    stopped s m t input between left out middle out' buffered count g most ran,
    still s m t input between left out middle out' buffered count g most t ran.office,
    strict,
    g.passed strict,
    cut,
    at_end,
  )

  -- a step failed
  pub run_failed : (s m t : S) (input between left out middle out' : Option (List ℕ)) (buffered buffer : List ℕ) (count : ℕ) (fault : Fault)
      → Going s m input between out middle buffered count → count < 1000000
      → NextEnds runs m t middle out' longest between left buffered input_failed clock_failed output_failed is_strict buffer (Err fault)
      → RunEnds longest input left out out' runs s t input_failed clock_failed output_failed is_strict (Err fault)
  run_failed s m t input between left out middle out' buffered buffer count Read g most (ran, why) = (
    stopped s m t input between left out middle out' buffered count g most ran,
    still s m t input between left out middle out' buffered count g most t ran.office,
    g.passed,
    elim why [ inl none ↦ inl (inr none) | inr clocked ↦ inr clocked ],
  )
  run_failed s m t input between left out middle out' buffered buffer count Write g most ends =
      (stopped_write s m t input between left out middle out' buffered count g most ends.0, m, g.answered, ends.0.replied, g.passed, ends.1)
  run_failed s m t input between left out middle out' buffered buffer count other g most ends = absurd ends

  -- ---- after the most lines

  -- some bytes are left behind them
  stopped_many : (s t : S) (input between left out middle : Option (List ℕ)) (buffered more : List ℕ) (count : ℕ)
      → Going s t input between out middle buffered count → count ≡ 1000000 → Consumes between left more → length (buffered ++ more) ≤ longest
      → TakesNoLine input_failed longest (buffered ++ more) ⊎ (0 < length (buffered ++ more))
      → RunEnds longest input left out middle runs s t input_failed clock_failed output_failed is_strict (Err Read)
  stopped_many s t input between left out middle buffered more count g all consumed little either =
      let counted = g.counted in (
        record {
          took = g.took ++ more;
          done = g.done;
          replies = g.replies;
          left = buffered ++ more;
          consumed = Consumes-trans input between left g.took more g.consumed consumed;
          parts = taken_more g.took buffered more g.done g.parts;
          first = first_lines g.took buffered more g.done g.parts g.whole;
          few = omega arith;
          short = g.short;
          little = omega arith;
          wrote = g.wrote;
        },
        g.answered,
        g.passed,
        inl (elim either [ inl none ↦ inr none | inr some ↦ inl (omega arith, some, little) ]),
      )

  -- bytes are held behind the most lines
  pub run_over : (s t : S) (input left out middle : Option (List ℕ)) (buffer : List ℕ) (buffered count : ℕ)
      → Going s t input left out middle (take buffered buffer) count → count ≡ 1000000 → 0 < buffered → buffered ≤ longest → length buffer ≡ longest + 1
      → RunEnds longest input left out middle runs s t input_failed clock_failed output_failed is_strict (Err Read)
  run_over s t input left out middle buffer buffered count g all some room size =
      let long : length (take buffered buffer ++ []) ≡ buffered = omega (arith, length-append (take buffered buffer) [], length-take buffered buffer) in
      stopped_many s t input left left out middle (take buffered buffer) [] count g all (Consumes-nil left) (omega arith) (inr (omega arith))

  -- nothing is held behind them, and a byte more was asked for
  pub run_checked : (s t : S) (input between left out middle : Option (List ℕ)) (buffer : List ℕ) (buffered count : ℕ) (result : Result Ended Fault)
      → Going s t input between out middle (take buffered buffer) count → count ≡ 1000000 → buffered ≡ 0 → 1 ≤ longest → EndOrMore input_failed between left result
      → RunEnds longest input left out middle runs s t input_failed clock_failed output_failed is_strict result
  run_checked s t input between left out middle buffer buffered count (Ok how) g all none some (is, consumed, at_end) =
      subst (λ h. RunEnds longest input left out middle runs s t input_failed clock_failed output_failed is_strict (Ok h)) (sym is)
      (finished_none s t input between left out middle middle (take buffered buffer) [] count g (Appends-nil middle) (omega arith) consumed at_end
      (ap (λ n. take n buffer ++ []) none))
  run_checked s t input between left out middle buffer buffered count (Err fault) g all none some (is, took, consumed, little, why) =
      let nothing : take buffered buffer ≡ [] = ap (λ n. take n buffer) none in
      let same : take buffered buffer ++ took ≡ took = ap (λ l. l ++ took) nothing in
      let either = no_line_or_more input_failed longest took little why in
      subst (λ f. RunEnds longest input left out middle runs s t input_failed clock_failed output_failed is_strict (Err f)) (sym is)
      (stopped_many s t input between left out middle (take buffered buffer) took count g all consumed (rw same (omega arith)) (rw same either))
