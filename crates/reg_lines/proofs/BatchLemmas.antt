-- Lemmas on lines of a script that run together, in one transaction.
use Rattle.std.proofs.Common.{◌≡◌, ℕ, ◌+◌, ◌-◌, ◌<◌, ◌≤◌, List, [], ◌∷◌, ◌++◌, length, map, take, drop, Option, refl, sym, ap, ◌∙◌, subst, arith, inl, inr, length-append, length-drop, length-take, slice_index_or, append-nil, append_assoc, take-append-drop}
use Rattle.std.specs.Prelude.{false, Result, Ok, Err}
use Rattle.std.specs.List.{AllByRecursion, AllZip, concat}
use Rattle.std.specs.Io.KnownBytes.{Appends}
use Rattle.std.proofs.KnownBytes.{Appends-nil, Appends-trans, Consumes-nil}
use Rattle.std.proofs.Math.Seq.{take-add}
use Rattle.std.proofs.lemmas.Bool.{false≢true}
use Rattle.std.proofs.lemmas.List.{map-append, take_all, take_more}
use Rattle.std.proofs.lemmas.List.Folds.{concat-append}
use Rattle.reg_core.specs.Records.{Records}
use Rattle.reg_core.specs.declared.command.Command.{Command}
use Rattle.reg_core.specs.declared.command.Reply.{Reply}
use Rattle.reg_core.specs.declared.refusal.Fault.{Fault}
use Rattle.reg_core.specs.declared.refusal.Fault.TheVariants.{Read, Write}
use Rattle.reg_core_laws.specs.Run.{Happens, Run}
use Rattle.reg_crl.specs.Signing.{signed_by}
use Rattle.reg_io.specs.Put.{AppendsPrefix}
use Rattle.reg_io.specs.RunsOfAnswers.{Answered}
use Rattle.reg_io.proofs.PublicLaws.{answered_append}
use Rattle.reg_office_api.specs.CallSteps.{Signs}
use Rattle.reg_office_api.specs.Signers.{OfficeSigners}
use Rattle.reg_office_api.specs.Leads.{Leads}
use Rattle.reg_office_api.specs.declared.office.Office.{Ghosts as Office}
use Rattle.reg_office_api.proofs.PublicLaws.{chains, follows, stays}
use Rattle.reg_lines.specs.Answer.{LineReplies}
use Rattle.reg_lines.specs.Batches.{AreTimedCommands, BatchEnds, CutHeld, IsTimedCommand, MayBeAhead, RanHeld, WritesReplies, reply_to}
use Rattle.reg_lines.specs.ByCalls.{LineCalls, Lines}
use Rattle.reg_lines.specs.Meaning.{means_command}
use Rattle.reg_lines.specs.Script.{EndOrMore, IsShort, IsWholeLine, NextEnds, RunEnds, line_of, longest_of}
use Rattle.reg_lines.specs.declared.answered.Answered.TheVariants.{Completed}
use Rattle.reg_lines.specs.declared.answered.Ended.{Ended}
use Rattle.reg_lines.specs.declared.batches.Ran.{Ran}
use Rattle.reg_lines.specs.declared.lines.AfterLine.{AfterLine}
use Rattle.reg_lines.specs.declared.lines.AfterLine.TheVariants.{End, Held}
use Rattle.reg_lines.specs.declared.answered.LineKind.TheVariants.{Command as CommandLine}
use Rattle.reg_lines.proofs.Pieces.{concat_push, turned}
use Rattle.reg_lines.proofs.ScriptLemmas.{Going, going_more, going_start, longest_some, run_checked, run_ended, run_failed, run_over}
use Rattle.reg_lines.proofs.ScriptsAndImports.{next_moves, reply_moves}
use Rattle.reg_lines.proofs.StepLemmas.{whole_short}

-- ---- commands that are read

zip_push : {A B : Type 0} (R : A → B → Type 0) (xs : List A) (ys : List B) (x : A) (y : B) → AllZip R xs ys → R x y → AllZip R (xs ++ x ∷ []) (ys ++ y ∷ [])
zip_push R [] [] x y all more = (more, tt)
zip_push R [] (b ∷ ys) x y all more = absurd all
zip_push R (a ∷ xs) [] x y all more = absurd all
zip_push R (a ∷ xs) (b ∷ ys) x y all more = (all.0, zip_push R xs ys x y all.1 more)

pub one_more_command : (held : List ℕ) (end more : ℕ) (timed : List (ℕ × Command)) (next : ℕ × Command)
    → AreTimedCommands (take end held) timed → IsTimedCommand (take more (take (length held - end) (drop end held))) next
    → AreTimedCommands (take (end + more) held) (timed ++ next ∷ [])
one_more_command held end more timed next (lines, joined, all) means =
    let line = take more (drop end held) in
    let rest : take (length held - end) (drop end held) ≡ drop end held =
    take_all (length held - end) (drop end held) (omega (arith, length-drop {A = ℕ} end held)) in (
      lines ++ line ∷ [],
      take-add end more held ∙ ap (λ (l : List ℕ). l ++ line) joined ∙ sym (concat_push lines line),
      zip_push IsTimedCommand lines timed line next all (subst (λ (l : List ℕ). IsTimedCommand (take more l) next) rest means),
    )

zip_whole : (lines : List (List ℕ)) (timed : List (ℕ × Command)) → AllZip IsTimedCommand lines timed → AllByRecursion IsWholeLine lines
zip_whole [] [] all = tt
zip_whole [] (one ∷ timed) all = tt
zip_whole (line ∷ lines) [] all = absurd all
zip_whole (line ∷ lines) (one ∷ timed) all = (all.0.0, zip_whole lines timed all.1)

zip_length : (lines : List (List ℕ)) (timed : List (ℕ × Command)) → AllZip IsTimedCommand lines timed → length lines ≡ length timed
zip_length [] [] all = refl
zip_length [] (one ∷ timed) all = absurd all
zip_length (line ∷ lines) [] all = absurd all
zip_length (line ∷ lines) (one ∷ timed) all = omega (arith, zip_length lines timed all.1)

-- ---- commands that run together

-- each line is answered as it is alone
module _ (signs : Signs) (signers : OfficeSigners) where
  abbrev kept : Records → List ℕ → List ℕ → Records → Type 0
  kept = LineReplies (Lines signs signers) (λ now. ⊥) false

  one_runs : (before after : Records) (line : List ℕ) (timed : ℕ × Command) (outcome : Result Reply Fault) → IsTimedCommand line timed
      → Happens (signed_by signs signers.crls) before timed.0 timed.1 outcome after → kept before (line_of line) (reply_to outcome) after
  one_runs before after line timed outcome (whole, (text, begins, means)) happens =
      (Completed (CommandLine timed.1) outcome, inl (timed.0, text, begins, inl (means_command timed.1, means, (outcome, happens, refl))), refl)

  all_run : (lines : List (List ℕ)) (timed : List (ℕ × Command)) (outcomes : List (Result Reply Fault)) (before after : Records)
      → AllZip IsTimedCommand lines timed → Run (signed_by signs signers.crls) before timed outcomes after
      → Answered kept before (map line_of lines) (map reply_to outcomes) after
  all_run [] [] [] before after all run = run
  all_run [] [] (outcome ∷ outcomes) before after all run = absurd run
  all_run [] (one ∷ timed) outcomes before after all run = absurd all
  all_run (line ∷ lines) [] outcomes before after all run = absurd all
  all_run (line ∷ lines) (one ∷ timed) [] before after all run = absurd run
  all_run (line ∷ lines) (one ∷ timed) (outcome ∷ outcomes) before after all (next, happens, run) =
      (next, one_runs before next line one outcome all.0 happens, all_run lines timed outcomes next after all.1 run)

  -- the first lines, and the one whose reply is cut
  record Parted (lines : List (List ℕ)) (first : List (Result Reply Fault)) (next : Result Reply Fault) (before : Records) : Type 0 where
    pub front : List (List ℕ)
    pub piece : List ℕ
    pub behind : List (List ℕ)
    pub middle : Records
    pub after : Records
    pub is : lines ≡ front ++ piece ∷ behind
    pub whole : AllByRecursion IsWholeLine front
    pub last : IsWholeLine piece
    pub answered : Answered kept before (map line_of front) (map reply_to first) middle
    pub replied : kept middle (line_of piece) (reply_to next) after

  parted : (lines : List (List ℕ)) (timed : List (ℕ × Command)) (first : List (Result Reply Fault)) (next : Result Reply Fault) (rest : List (Result Reply Fault))
      (before after : Records) → AllZip IsTimedCommand lines timed → Run (signed_by signs signers.crls) before timed (first ++ next ∷ rest) after
      → Parted lines first next before
  parted [] [] [] next rest before after all run = absurd run
  parted [] [] (outcome ∷ first) next rest before after all run = absurd run
  parted [] (one ∷ timed) first next rest before after all run = absurd all
  parted (line ∷ lines) [] first next rest before after all run = absurd all
  parted (line ∷ lines) (one ∷ timed) [] next rest before after all (then, happens, run) = record {
    front = [];
    piece = line;
    behind = lines;
    middle = before;
    after = then;
    is = refl;
    whole = tt;
    last = all.0.0;
    answered = refl;
    replied = one_runs before then line one next all.0 happens;
  }
  parted (line ∷ lines) (one ∷ timed) (outcome ∷ first) next rest before after all (then, happens, run) =
      let p = parted lines timed first next rest then after all.1 run in record {
        front = line ∷ p.front;
        piece = p.piece;
        behind = p.behind;
        middle = p.middle;
        after = p.after;
        is = ap (λ (l : List (List ℕ)). line ∷ l) p.is;
        whole = (all.0.0, p.whole);
        last = p.last;
        answered = (then, one_runs before then line one outcome all.0 happens, p.answered);
        replied = p.replied;
      }

  -- all of a batch ran
  pub batch_ran : (before after : Records) (held : List ℕ) (size count most : ℕ) (timed : List (ℕ × Command)) (outcomes : List (Result Reply Fault))
      (out out' : Option (List ℕ)) (failed : Type 0) → AreTimedCommands (take size held) timed → count ≡ length timed
      → Appends out out' (concat (map reply_to outcomes)) → Run (signed_by signs signers.crls) before timed outcomes after
      → BatchEnds kept before after out out' held most failed (Ok (record { count = count; length = size }))
  batch_ran before after held size count most timed outcomes out out' failed (lines, joined, all) many wrote run = record {
    lines = lines;
    replies = map reply_to outcomes;
    cut = sym (take-append-drop size held) ∙ ap (λ (l : List ℕ). l ++ drop size held) joined;
    whole = zip_whole lines timed all;
    counted = zip_length lines timed all ∙ sym many;
    answered = all_run lines timed outcomes before after all run;
    wrote = wrote;
  }

  -- none of it ran
  pub batch_none : (before after : Records) (held : List ℕ) (most : ℕ) (out : Option (List ℕ)) (failed : Type 0) → after ≡ before
      → BatchEnds kept before after out out held most failed (Ok (record { count = 0; length = 0 }))
  batch_none before after held most out failed same = record {
    lines = [];
    replies = [];
    cut = refl;
    whole = tt;
    counted = refl;
    answered = same;
    wrote = Appends-nil out;
  }

  -- the output failed in one of its replies
  pub batch_cut : {E : Type 0} (before after : Records) (held : List ℕ) (size most : ℕ) (timed : List (ℕ × Command)) (outcomes : List (Result Reply Fault))
      (out out' : Option (List ℕ)) (failed : Type 0) (fault : E) → AreTimedCommands (take size held) timed → length timed ≤ most
      → WritesReplies out out' failed outcomes (Err fault) → Run (signed_by signs signers.crls) before timed outcomes after
      → BatchEnds kept before after out out' held most failed (Err Write)
  batch_cut before after held size most timed outcomes out out' failed fault (lines, joined, all) few (first, next, rest, between, is, wrote, partly, fails) run =
      let p = parted lines timed first next rest before after all
      (subst (λ (l : List (Result Reply Fault)). Run (signed_by signs signers.crls) before timed l after) is run) in
      let tail = drop size held in
      let cut : held ≡ concat p.front ++ (p.piece ++ (concat p.behind ++ tail)) =
      sym (take-append-drop size held) ∙ ap (λ (l : List ℕ). l ++ tail) (joined ∙ ap concat p.is ∙ concat-append p.front (p.piece ∷ p.behind))
      ∙ append_assoc (concat p.front) (p.piece ++ concat p.behind) tail
      ∙ ap (λ (l : List ℕ). concat p.front ++ l) (append_assoc p.piece (concat p.behind) tail) in (
        refl,
        record {
          middle = p.middle;
          after = p.after;
          between = between;
          piece = p.piece;
          rest = concat p.behind ++ tail;
          reply = reply_to next;
          count = length p.front;
          first = record {
            lines = p.front;
            replies = map reply_to first;
            cut = cut;
            whole = p.whole;
            counted = refl;
            answered = p.answered;
            wrote = wrote;
          };
          few = omega (arith, few, zip_length lines timed all, ap length p.is, length-append p.front (p.piece ∷ p.behind));
          whole = p.last;
          replied = p.replied;
          wrote = partly;
        },
        fails,
      )

-- ---- replies that are written

module _ (outcomes : List (Result Reply Fault)) (i : ℕ) (one : Result Reply Fault) (within : i < length outcomes) (is : one ≡ slice_index_or outcomes i one)
    (out middle out' : Option (List ℕ)) (so_far : Appends out middle (concat (map reply_to (take i outcomes)))) where
  next_outcome : take (i + 1) outcomes ≡ take i outcomes ++ one ∷ []
  next_outcome = take_more outcomes i one within ∙ ap (λ (o : Result Reply Fault). take i outcomes ++ o ∷ []) (sym is)

  -- one more
  pub writes_more : Appends middle out' (reply_to one) → Appends out out' (concat (map reply_to (take (i + 1) outcomes)))
  writes_more wrote =
      let joined : concat (map reply_to (take (i + 1) outcomes)) ≡ concat (map reply_to (take i outcomes)) ++ reply_to one =
      ap (λ (l : List (Result Reply Fault)). concat (map reply_to l)) next_outcome ∙ ap concat (map-append reply_to (take i outcomes) (one ∷ []))
      ∙ concat_push (map reply_to (take i outcomes)) (reply_to one) in
      subst (Appends out out') (sym joined) (Appends-trans out middle out' (concat (map reply_to (take i outcomes))) (reply_to one) so_far wrote)

  -- the output failed in the next one
  pub writes_cut : {E : Type 0} (failed : Type 0) (fault : E) → AppendsPrefix middle out' (reply_to one) → failed → WritesReplies out out' failed outcomes (Err fault)
  writes_cut failed fault partly fails = (
    take i outcomes,
    one,
    drop (i + 1) outcomes,
    middle,
    sym (take-append-drop (i + 1) outcomes) ∙ ap (λ (l : List (Result Reply Fault)). l ++ drop (i + 1) outcomes) next_outcome
        ∙ append_assoc (take i outcomes) (one ∷ []) (drop (i + 1) outcomes),
    so_far,
    partly,
    fails,
  )

-- ---- a run that goes on

all_append : {A : Type 0} (Holds : A → Type 0) (xs ys : List A) → AllByRecursion Holds xs → AllByRecursion Holds ys → AllByRecursion Holds (xs ++ ys)
all_append Holds [] ys each more = more
all_append Holds (x ∷ xs) ys each more = (each.0, all_append Holds xs ys each.1 more)

all_short : (longest : ℕ) (lines : List (List ℕ)) → AllByRecursion IsWholeLine lines → length (concat lines) ≤ longest + 1 → AllByRecursion (IsShort longest) lines
all_short longest [] whole fits = tt
all_short longest (line ∷ lines) whole fits =
    let size : length (concat (line ∷ lines)) ≡ length line + length (concat lines) = length-append line (concat lines) in (
      whole_short longest line whole.0 (omega (arith, size, fits)),
      all_short longest lines whole.1 (omega (arith, size, fits)),
    )

module _ {S : Type 0} (runs : S → List ℕ → List ℕ → S → Type 0) (longest : ℕ) (input_failed output_failed : Type 0) where
  -- the lines of a batch ran
  pub going_held : (s m t : S) (input between out middle out' : Option (List ℕ)) (buffered rest : List ℕ) (count more : ℕ)
      → length buffered ≤ longest + 1 → Going runs longest input_failed ⊥ output_failed false s m input between out middle buffered count
      → RanHeld runs m t middle out' buffered rest more
      → Going runs longest input_failed ⊥ output_failed false s t input between out out' rest (count + more)
  going_held s m t input between out middle out' buffered rest count more fits g ran =
      let size : length buffered ≡ length (concat ran.lines) + length rest = ap length ran.cut ∙ length-append (concat ran.lines) rest in
      record {
        took = g.took;
        done = g.done ++ ran.lines;
        replies = g.replies ++ ran.replies;
        parts =
            g.parts ∙ ap (λ (l : List ℕ). concat g.done ++ l) ran.cut ∙ sym (append_assoc (concat g.done) (concat ran.lines) rest)
            ∙ ap (λ (l : List ℕ). l ++ rest) (sym (concat-append g.done ran.lines));
        whole = all_append IsWholeLine g.done ran.lines g.whole ran.whole;
        short = all_append (IsShort longest) g.done ran.lines g.short (all_short longest ran.lines ran.whole (omega (arith, size, fits)));
        counted = omega (arith, length-append g.done ran.lines, g.counted, ran.counted);
        consumed = g.consumed;
        answered = subst (λ (l : List (List ℕ)). Answered runs s l (g.replies ++ ran.replies) t) (sym (map-append line_of g.done ran.lines))
            (answered_append runs s m t (map line_of g.done) g.replies (map line_of ran.lines) ran.replies g.answered ran.answered);
        wrote = subst (Appends out out') (sym (concat-append g.replies ran.replies))
            (Appends-trans out middle out' (concat g.replies) (concat ran.replies) g.wrote ran.wrote);
        passed = λ strict. absurd (false≢true strict);
      }

  -- the reply to one of them was cut
  pub going_cut : (s m : S) (input between out middle out' : Option (List ℕ)) (buffered : List ℕ) (count most : ℕ) → count + most ≤ 1000000
      → length buffered ≤ longest + 1 → Going runs longest input_failed ⊥ output_failed false s m input between out middle buffered count
      → (cut : CutHeld runs m middle out' buffered most) → output_failed
      → RunEnds longest input between out out' runs s cut.after input_failed ⊥ output_failed false (Err Write)
  going_cut s m input between out middle out' buffered count most few fits g cut fails =
      let first = cut.first in
      let size : length buffered ≡ length (concat first.lines) + length (cut.piece ++ cut.rest) =
      ap length first.cut ∙ length-append (concat first.lines) (cut.piece ++ cut.rest) in
      run_failed runs longest input_failed ⊥ output_failed false s cut.middle cut.after input between between out cut.between out'
      (cut.piece ++ cut.rest) [] (count + cut.count) Write
      (going_held s m cut.middle input between out middle cut.between buffered (cut.piece ++ cut.rest) count cut.count fits g first)
      (omega (arith, cut.few, few)) (
        record {
          took = [];
          piece = cut.piece;
          rest = cut.rest;
          reply = cut.reply;
          consumed = Consumes-nil between;
          cut = append-nil (cut.piece ++ cut.rest);
          ends = inl cut.whole;
          short = whole_short longest cut.piece cut.whole (omega (arith, size, fits, length-append cut.piece cut.rest));
          replied = cut.replied;
          wrote = cut.wrote;
        },
        fails,
      )

-- ---- over an office that keeps records

module _ {O : Type 0} (office : Office O) (input_failed output_failed : Type 0) where
  -- the lines that ran so far
  abbrev pub GoingIn : O → O → Option (List ℕ) → Option (List ℕ) → Option (List ℕ) → Option (List ℕ) → List ℕ → ℕ → Type 0
  GoingIn s t input input' out out' buffered count =
      Leads office.is_clean office.stands
      (λ signers before after.
      Going (kept office.signs signers) (longest_of false) input_failed ⊥ output_failed false before after input input' out out' buffered count) s t

  -- how they end
  abbrev pub EndsIn : O → O → Option (List ℕ) → Option (List ℕ) → Option (List ℕ) → Option (List ℕ) → Result Ended Fault → Type 0
  EndsIn s t input input' out out' result =
      Leads office.is_clean office.stands
      (λ signers before ahead.
      MayBeAhead
      (λ v w. RunEnds (longest_of false) input input' out out' (kept office.signs signers) v w input_failed ⊥ output_failed false) before ahead result) s t

  pub starts_in : (s : O) (input out : Option (List ℕ)) → GoingIn s s input input out out [] 0
  starts_in s input out =
      follows office.is_clean office.stands _ _
      (λ signers before after same.
      subst (λ v. Going (kept office.signs signers) (longest_of false) input_failed ⊥ output_failed false before v input input out out [] 0) (sym same)
      (going_start (kept office.signs signers) (longest_of false) input_failed ⊥ output_failed false before input out)) s s
      (stays office.is_clean office.stands s s refl)

  module _ (s m t : O) (input between left out middle out' : Option (List ℕ)) (held : List ℕ) (count : ℕ)
      (so_far : GoingIn s m input between out middle held count) where
    -- a batch ran
    pub batch_goes : (most : ℕ) (ran : Ran) → length held ≤ longest_of false + 1
        → Leads office.is_clean office.stands
        (λ signers before after. BatchEnds (kept office.signs signers) before after middle out' held most output_failed (Ok ran)) m t
        → GoingIn s t input between out out' (drop ran.length held) (count + ran.count)
    batch_goes most ran fits moved =
        follows office.is_clean office.stands _ _
        (λ signers before after both.
        let (there, g, ends) = both in
        going_held (kept office.signs signers) (longest_of false) input_failed output_failed before there after input between out middle out' held
        (drop ran.length held) count ran.count fits g ends) s t
        (chains office.is_clean office.stands _ _ s m t so_far moved)

    -- and the buffer is turned
    pub batch_turned : (most : ℕ) (ran : Ran) (buffer rotated : List ℕ) (buffered : ℕ) → held ≡ take buffered buffer → buffered ≤ length buffer
        → length buffer ≡ longest_of false + 1 → ran.length ≤ length held → rotated ≡ drop ran.length buffer ++ take ran.length buffer
        → Leads office.is_clean office.stands
        (λ signers before after. BatchEnds (kept office.signs signers) before after middle out' held most output_failed (Ok ran)) m t
        → GoingIn s t input between out out' (take (buffered - ran.length) rotated) (count + ran.count)
    batch_turned most ran buffer rotated buffered holds fits size within is moved =
        let long : length held ≡ length (take buffered buffer) = ap length holds in
        let below : ran.length ≤ buffered = omega (arith, long, within, fits, length-take buffered buffer) in
        subst (λ (l : List ℕ). GoingIn s t input between out out' l (count + ran.count))
        (sym (ap (take (buffered - ran.length)) is ∙ turned buffer ran.length buffered below fits ∙ ap (drop ran.length) (sym holds)))
        (batch_goes most ran (omega (arith, long, fits, size, length-take buffered buffer)) moved)

    -- the output failed in it
    pub batch_stops : (most : ℕ) (fault : Fault) → count + most ≤ 1000000 → length held ≤ longest_of false + 1
        → Leads office.is_clean office.stands
        (λ signers before after. BatchEnds (kept office.signs signers) before after middle out' held most output_failed (Err fault)) m t
        → EndsIn s t input between out out' (Err fault)
    batch_stops most fault few fits moved =
        follows office.is_clean office.stands _ _
        (λ signers before ahead both.
        let (there, g, (is, cut, fails)) = both in (
          cut.after,
          subst
              (λ f. RunEnds (longest_of false) input between out out' (kept office.signs signers) before cut.after input_failed ⊥ output_failed false (Err f))
              (sym is)
              (going_cut (kept office.signs signers) (longest_of false) input_failed output_failed before there input between out middle out' held count most
              few fits g cut fails),
          inl (ap (λ (f : Fault). Err f) is),
        )) s t
        (chains office.is_clean office.stands _ _ s m t so_far moved)

    -- the next line ran alone, or the run ended there
    next_in : (reached : ℕ → Type 0) (buffer : List ℕ) (result : Result AfterLine Fault)
        → NextEnds (LineReplies (LineCalls office) reached false) m t middle out' (longest_of false) between left held input_failed ⊥ output_failed false buffer result
        → Leads office.is_clean office.stands
        (λ signers before after.
        (there : Records)
        × Going (kept office.signs signers) (longest_of false) input_failed ⊥ output_failed false before there input between out middle held count
        × NextEnds (kept office.signs signers) there after middle out' (longest_of false) between left held input_failed ⊥ output_failed false buffer result) s t
    next_in reached buffer result ends =
        chains office.is_clean office.stands _ _ s m t so_far
        (next_moves office.is_clean office.stands (LineReplies (LineCalls office) reached false) (λ signers. kept office.signs signers)
        (reply_moves office.is_clean office.stands (LineCalls office) (Lines office.signs) (λ v now call w called. called.0) reached false)
        (longest_of false) m t between left middle out' held input_failed ⊥ output_failed false buffer result ends)

    pub next_goes : (reached : ℕ → Type 0) (buffer : List ℕ) (more : ℕ) → count < 1000000
        → NextEnds (LineReplies (LineCalls office) reached false) m t middle out' (longest_of false) between left held input_failed ⊥ output_failed false buffer (Ok (Held more))
        → GoingIn s t input left out out' (take more buffer) (count + 1)
    next_goes reached buffer more most ends =
        follows office.is_clean office.stands _ _
        (λ signers before after both.
        let (there, g, next) = both in
        going_more (kept office.signs signers) (longest_of false) input_failed ⊥ output_failed false before there after input between left out middle out' held count
        g most (take more buffer) next.1 next.2) s t
        (next_in reached buffer (Ok (Held more)) ends)

    pub next_ends : (reached : ℕ → Type 0) (buffer : List ℕ) (how : Ended) → count < 1000000
        → NextEnds (LineReplies (LineCalls office) reached false) m t middle out' (longest_of false) between left held input_failed ⊥ output_failed false buffer (Ok (End how))
        → EndsIn s t input left out out' (Ok how)
    next_ends reached buffer how most ends =
        follows office.is_clean office.stands _ _
        (λ signers before after both.
        let (there, g, next) = both in (
          after,
          run_ended (kept office.signs signers) (longest_of false) input_failed ⊥ output_failed false before there after input between left out middle out' held buffer
              count how g most next,
          inr refl,
        )) s t
        (next_in reached buffer (Ok (End how)) ends)

    pub next_fails : (reached : ℕ → Type 0) (buffer : List ℕ) (fault : Fault) → count < 1000000
        → NextEnds (LineReplies (LineCalls office) reached false) m t middle out' (longest_of false) between left held input_failed ⊥ output_failed false buffer (Err fault)
        → EndsIn s t input left out out' (Err fault)
    next_fails reached buffer fault most ends =
        follows office.is_clean office.stands _ _
        (λ signers before after both.
        let (there, g, next) = both in (
          after,
          run_failed (kept office.signs signers) (longest_of false) input_failed ⊥ output_failed false before there after input between left out middle out' held buffer
              count fault g most next,
          inr refl,
        )) s t
        (next_in reached buffer (Err fault) ends)

  -- ---- after the most lines

  pub over_in : (s t : O) (input left out middle : Option (List ℕ)) (buffer : List ℕ) (buffered count : ℕ)
      → GoingIn s t input left out middle (take buffered buffer) count → count ≡ 1000000 → 0 < buffered → buffered ≤ longest_of false
      → length buffer ≡ longest_of false + 1 → EndsIn s t input left out middle (Err Read)
  over_in s t input left out middle buffer buffered count so_far all some room size =
      follows office.is_clean office.stands _ _
      (λ signers before after g. (
        after,
        run_over (kept office.signs signers) (longest_of false) input_failed ⊥ output_failed false before after input left out middle buffer buffered count g all
            some room size,
        inr refl,
      )) s t so_far

  pub checked_in : (s t : O) (input between left out middle : Option (List ℕ)) (buffer : List ℕ) (buffered count : ℕ) (result : Result Ended Fault)
      → GoingIn s t input between out middle (take buffered buffer) count → count ≡ 1000000 → buffered ≡ 0 → EndOrMore input_failed between left result
      → EndsIn s t input left out middle result
  checked_in s t input between left out middle buffer buffered count result so_far all none ends =
      follows office.is_clean office.stands _ _
      (λ signers before after g. (
        after,
        run_checked (kept office.signs signers) (longest_of false) input_failed ⊥ output_failed false before after input between left out middle buffer buffered count
            result g all none (longest_some false) ends,
        inr refl,
      )) s t so_far
