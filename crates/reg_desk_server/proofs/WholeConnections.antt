-- Lemmas about whole connections, one for each step (specs/Connections.antt).
use Rattle.std.proofs.Common.{◌≡◌, ◌≢◌, ◌==◌, ℕ, Bool, List, [], ◌∷◌, ◌++◌, ◌⊎◌, take, drop, refl, sym, subst, ap, ◌∙◌, inl, inr, take-append-drop}
use Rattle.std.specs.Io.KnownBytes.{Appends}
use Rattle.std.specs.Prelude.{Option, flat_map, is_some, true, false}
use Rattle.std.specs.List.{AllByRecursion, AllZip, concat}
use Rattle.std.proofs.lemmas.List.{append-nil, append_assoc}
use Rattle.std.proofs.lemmas.Bool.Decides.{eqb_tells}
use Rattle.std.proofs.lemmas.Grind.{flat_map-append}
use Rattle.std.proofs.lemmas.List.Elements.{All-cons, All-nil}
use Rattle.std.proofs.lemmas.List.Folds.{concat-append}
use Rattle.reg_crl_signer.specs.OpenConnections.{SinceOpened, more_received, more_sent, nothing_yet}
use Rattle.reg_http_head.specs.Bytes.{collected_bytes}
use Rattle.reg_http_head.specs.declared.collected.Collected.{Collected}
use Rattle.reg_desk_server.specs.Connections.{AnsweredInCalls, AnyReplies, FinishesInSomeState, AnsweredInOneCall, IsServedOnce, HasAnsweredLines, HasOwnReplies, IsAnsweredAtMostOnce, IsAnsweredBy, KeepsServed, ServesOn, AnswersNoMoreLines, AnswersMoreLines, WasAnswered, WasLeftUnsigned}
use Rattle.reg_desk_server.specs.ControlLines.{DefersFirstLine, Gathers, IsFresh, SameLines, SameStreamAndEnd, AnswersFirstLines, AnswersDeferred}
use Rattle.reg_desk_server.specs.LineEnds.{IsLine, IsWholeLines}
use Rattle.reg_desk_server.specs.Exchange.{Outcome, said, pending, later}
use Rattle.reg_desk_server.specs.Stages.{Answering, Finishing, HasReceived, HasUnsentText, HasUnsentRest, IsDraining, IsDropped, KeepsOutcome, AwaitsSignature, KeepsReceived}
use Rattle.reg_desk_server.specs.Buffers.{unsent_of}
use Rattle.reg_desk_server.specs.declared.control_connection.ControlConnection.{ControlConnection}
use Rattle.reg_desk_server.specs.declared.handler.Handler.{Ghosts}
use Rattle.reg_desk_server.specs.declared.http_connection.HttpConnection.{HttpConnection}
use Rattle.reg_desk_server.specs.declared.http_connection.Stage.{Stage}
use Rattle.reg_desk_server.specs.declared.http_connection.Stage.TheVariants as stage

-- the bytes that came next are kept, or lost at the end; if bytes were lost before, the connection had ended, and no more are kept
lost_on : (front held held' lost kept lost' : List ℕ) (ended ended' : Bool) → (lost ≡ []) ⊎ (ended ≡ true) → held' ≡ held ++ kept
    → (lost' ≡ []) ⊎ (ended' ≡ true) → (ended ≡ true → (held' ≡ held) × (ended' ≡ true))
    → (all : List ℕ) × (front ++ held ++ lost ++ (kept ++ lost') ≡ front ++ held' ++ all) × ((all ≡ []) ⊎ (ended' ≡ true))
lost_on front held held' lost kept lost' ended ended' (inl none) grows whole over = (
  lost',
  ap (λ (l : List ℕ). front ++ held ++ l ++ (kept ++ lost')) none
      ∙ ap (λ (l : List ℕ). l ++ (kept ++ lost')) (append-nil (front ++ held))
      ∙ sym (append_assoc (front ++ held) kept lost')
      ∙ ap (λ (l : List ℕ). l ++ lost') (append_assoc front held kept)
      ∙ ap (λ (l : List ℕ). front ++ l ++ lost') (sym grows),
  whole,
)
lost_on front held held' lost kept lost' ended ended' (inr ends) grows whole over = (
  lost ++ (kept ++ lost'),
  append_assoc (front ++ held) lost (kept ++ lost') ∙ ap (λ (l : List ℕ). front ++ l ++ (lost ++ (kept ++ lost'))) (sym (over ends).0),
  inr (over ends).1,
)

-- a text that is split into a sent part and the rest, after the bytes sent before
part_on : (gone went rest text : List ℕ) → text ≡ went ++ rest → gone ++ text ≡ gone ++ went ++ rest
part_on gone went rest text parted = ap (λ (l : List ℕ). gone ++ l) parted ∙ sym (append_assoc gone went rest)

-- ---- lines and their replies

zip_append : (R : List ℕ → List ℕ → Type 0) (lines replies more given : List (List ℕ)) → AllZip R lines replies → AllZip R more given
    → AllZip R (lines ++ more) (replies ++ given)
zip_append R [] [] more given each next = next
zip_append R [] (reply ∷ replies) more given each next = absurd each
zip_append R (line ∷ lines) [] more given each next = absurd each
zip_append R (line ∷ lines) (reply ∷ replies) more given each next = (each.0, zip_append R lines replies more given each.1 next)

all_push : {X : Type 0} (P : X → Type 0) (all : List X) (last : X) → AllByRecursion P all → P last → AllByRecursion P (all ++ last ∷ [])
all_push P [] last each is = (is, tt)
all_push P (one ∷ all) last each is = (each.0, all_push P all last each.1 is)

-- `flat_map` of a list with one more element
flat_more : {X : Type 0} (part : X → List (List ℕ)) (all : List X) (last : X) → flat_map part (all ++ last ∷ []) ≡ flat_map part all ++ part last
flat_more part all last =
    flat_map-append part all (last ∷ []) ∙ ap (λ (l : List (List ℕ)). flat_map part all ++ l) (append-nil (part last))

-- one more call of the handler
calls_more : {H : Type 0} (answers_lines : H → List ℕ → List ℕ → H → Type 0) (s t : H) (lines replies more given : List (List ℕ)) (bytes text : List ℕ)
    → AnsweredInCalls answers_lines lines replies → bytes ≡ concat more → text ≡ concat given → IsWholeLines bytes → answers_lines s bytes text t
    → AnsweredInCalls answers_lines (lines ++ more) (replies ++ given)
calls_more {H = H} answers_lines s t lines replies more given bytes text (calls, lines_are, replies_are, each) bytes_are text_is whole step =
    let Call : Type 0 = List (List ℕ) × List (List ℕ) in
    let last : Call = (more, given) in (
      calls ++ last ∷ [],
      ap (λ (l : List (List ℕ)). l ++ more) lines_are ∙ sym (flat_more (λ (call : Call). call.0) calls last),
      ap (λ (l : List (List ℕ)). l ++ given) replies_are ∙ sym (flat_more (λ (call : Call). call.1) calls last),
      all_push (AnsweredInOneCall answers_lines) calls last each (
        subst IsWholeLines bytes_are whole,
        (s, t, subst (λ (l : List ℕ). answers_lines s l (concat given) t) bytes_are (subst (λ (l : List ℕ). answers_lines s bytes l t) text_is step)),
      ),
    )

-- no text for each of these lines
abbrev no_texts : List (List ℕ) → List (List ℕ)
no_texts [] = []
no_texts (line ∷ lines) = [] ∷ no_texts lines

no_texts_joined : (lines : List (List ℕ)) → concat (no_texts lines) ≡ []
no_texts_joined [] = refl
no_texts_joined (line ∷ lines) = no_texts_joined lines

each_no_text : (lines : List (List ℕ)) → AllByRecursion IsLine lines → AllZip (IsAnsweredBy (λ line reply. Unit {0})) lines (no_texts lines)
each_no_text [] all = tt
each_no_text (line ∷ lines) all = ((all.0, tt), each_no_text lines all.1)

-- bytes and a last LF, as lines
lines_of : (front : List ℕ)
    → (line : List ℕ) × (lines : List (List ℕ)) × (front ++ 10 ∷ [] ≡ concat (line ∷ lines)) × IsLine line × AllByRecursion IsLine lines
lines_of [] = (10 ∷ [], [], refl, ([], refl, All-nil (λ byte. byte ≢ 10)), tt)
lines_of (byte ∷ front) =
    let (line, lines, joined, is, all) = lines_of front in
    go line lines joined is all (eqb_tells byte 10)
  where
    go : (line : List ℕ) (lines : List (List ℕ)) → front ++ 10 ∷ [] ≡ concat (line ∷ lines) → IsLine line → AllByRecursion IsLine lines
        → ((byte == 10) ≡ true × (byte ≡ 10)) ⊎ ((byte == 10) ≡ false × (byte ≢ 10))
        → (line : List ℕ) × (lines : List (List ℕ)) × (byte ∷ front ++ 10 ∷ [] ≡ concat (line ∷ lines)) × IsLine line × AllByRecursion IsLine lines
    go line lines joined is all (inl (test, lf)) =
        (byte ∷ [], line ∷ lines, ap (λ (l : List ℕ). byte ∷ l) joined, ([], ap (λ (b : ℕ). b ∷ []) lf, All-nil (λ b. b ≢ 10)), (is, all))
    go line lines joined (prefix, is, free) all (inr (test, other)) =
        (byte ∷ line, lines, ap (λ (l : List ℕ). byte ∷ l) joined, (byte ∷ prefix, ap (λ (l : List ℕ). byte ∷ l) is, All-cons (λ b. b ≢ 10) byte prefix other free), all)

-- any whole lines and any text: the text is the reply to the first line, and the others get none
pub any_replies : AnyReplies
any_replies bytes text (front, is) =
    let (line, lines, joined, first, all) = lines_of front in
    record {
      lines = line ∷ lines;
      replies = text ∷ no_texts lines;
      bytes_are = is ∙ joined;
      text_is = sym (ap (λ (l : List ℕ). text ++ l) (no_texts_joined lines) ∙ append-nil text);
      each = ((first, tt), each_no_text lines all);
    }

-- ---- control connections

module _ {S H : Type 0} (contents remaining : S → Option (List ℕ)) (answers_lines : H → List ℕ → List ℕ → H → Type 0) (answers_line : List ℕ → List ℕ → Type 0) where
  -- on a connection that was just accepted, no line was answered
  pub lines_answered_none : (connection : ControlConnection S) → IsFresh connection → HasAnsweredLines contents remaining answers_lines answers_line connection.stream connection [] []
  lines_answered_none connection fresh = record {
    arrived = [];
    gone = [];
    lost = [];
    since = nothing_yet;
    arrived_is = ap (λ (l : List ℕ). l ++ []) (sym fresh.0);
    answered = sym fresh.1;
    each = tt;
    calls = ([], refl, refl, tt);
    whole = inl refl;
  }

  -- the connection was advanced
  pub lines_answered_on : AnswersNoMoreLines contents remaining answers_lines answers_line
  lines_answered_on first old new lines replies was step =
      let it = step.gathered in
      let (lost, front, whole) =
      lost_on (concat lines) old.arrived.items new.arrived.items was.lost it.kept it.lost old.has_ended new.has_ended was.whole it.held it.whole step.over in
      record {
        arrived = was.arrived ++ (it.kept ++ it.lost);
        gone = was.gone ++ step.went;
        lost = lost;
        since =
            more_received was.arrived (was.gone ++ step.went) (it.kept ++ it.lost) step.between new.stream
            (more_sent was.arrived was.gone step.went old.stream step.between was.since step.appended)
            it.consumed;
        arrived_is = ap (λ (l : List ℕ). l ++ (it.kept ++ it.lost)) was.arrived_is ∙ front;
        answered = was.answered ∙ part_on was.gone step.went (unsent_of new.unsent) (unsent_of old.unsent) step.parted;
        each = was.each;
        calls = was.calls;
        whole = whole;
      }

  -- the first lines were answered, each with its own reply
  lines_answered_more : (first : S) (s t : H) (old new : ControlConnection S) (lines replies : List (List ℕ)) (end : ℕ)
      → HasAnsweredLines contents remaining answers_lines answers_line first old lines replies → SameStreamAndEnd old new
      → IsWholeLines (take end old.arrived.items) → unsent_of old.unsent ≡ [] → answers_lines s (take end old.arrived.items) (unsent_of new.unsent) t
      → new.arrived.items ≡ drop end old.arrived.items → (own : HasOwnReplies answers_line (take end old.arrived.items) (unsent_of new.unsent))
      → HasAnsweredLines contents remaining answers_lines answers_line first new (lines ++ own.lines) (replies ++ own.replies)
  lines_answered_more first s t old new lines replies end was same whole none step rest own =
      let held = old.arrived.items in
      record {
        arrived = was.arrived;
        gone = was.gone;
        lost = was.lost;
        since = subst (SinceOpened contents remaining first was.arrived was.gone) (sym same.0) was.since;
        arrived_is =
            was.arrived_is
            ∙ ap (λ (l : List ℕ). l ++ was.lost)
            (ap (λ (l : List ℕ). concat lines ++ l) (sym (take-append-drop end held))
            ∙ sym (append_assoc (concat lines) (take end held) (drop end held))
            ∙ ap (λ (l : List ℕ). l ++ drop end held)
            (ap (λ (l : List ℕ). concat lines ++ l) own.bytes_are ∙ sym (concat-append lines own.lines))
            ∙ ap (λ (l : List ℕ). concat (lines ++ own.lines) ++ l) (sym rest));
        answered =
            concat-append replies own.replies
            ∙ ap (λ (l : List ℕ). concat replies ++ l) (sym own.text_is)
            ∙ ap (λ (l : List ℕ). l ++ unsent_of new.unsent) (was.answered ∙ ap (λ (l : List ℕ). was.gone ++ l) none ∙ append-nil was.gone);
        each = zip_append (IsAnsweredBy answers_line) lines replies own.lines own.replies was.each own.each;
        calls =
            calls_more answers_lines s t lines replies own.lines own.replies (take end held) (unsent_of new.unsent) was.calls own.bytes_are own.text_is whole
            step;
        whole = subst (λ (ended : Bool). (was.lost ≡ []) ⊎ (ended ≡ true)) (sym same.1) was.whole;
      }

  -- neither the kept bytes nor the unsent ones changed
  lines_answered_same : (first : S) (old new : ControlConnection S) (lines replies : List (List ℕ)) → SameStreamAndEnd old new → SameLines old new
      → HasAnsweredLines contents remaining answers_lines answers_line first old lines replies → HasAnsweredLines contents remaining answers_lines answers_line first new lines replies
  lines_answered_same first old new lines replies same as_held was = record {
    arrived = was.arrived;
    gone = was.gone;
    lost = was.lost;
    since = subst (SinceOpened contents remaining first was.arrived was.gone) (sym same.0) was.since;
    arrived_is = was.arrived_is ∙ ap (λ (l : List ℕ). concat lines ++ l ++ was.lost) (sym as_held.0);
    answered = was.answered ∙ ap (λ (l : List ℕ). was.gone ++ l) (sym as_held.1);
    each = was.each;
    calls = was.calls;
    whole = subst (λ (ended : Bool). (was.lost ≡ []) ⊎ (ended ≡ true)) (sym same.1) was.whole;
  }

  -- the first lines were answered, or none was
  pub lines_answered_next : AnswersMoreLines contents remaining answers_lines answers_line (AnswersFirstLines answers_lines) (λ s t _. t ≡ s)
  lines_answered_next first s t old new lines replies was same (inl (end, mark, none, step, rest)) =
      inl (take end old.arrived.items, mark.1, step, lines_answered_more first s t old new lines replies end was same mark.1 none step rest)
  lines_answered_next first s t old new lines replies was same (inr (none, nothing, as_held)) =
      inr (nothing, lines_answered_same first old new lines replies same as_held was)

  -- a deferred line was answered, or deferred again
  pub lines_answered_later : (defers : H → List ℕ → H → Type 0) → AnswersMoreLines contents remaining answers_lines answers_line (AnswersDeferred answers_lines defers) (DefersFirstLine defers)
  lines_answered_later defers first s t old new lines replies was same (inl (inl (end, mark, none, step, rest))) =
      inl (take end old.arrived.items, mark.here, step, lines_answered_more first s t old new lines replies end was same mark.here none step rest)
  lines_answered_later defers first s t old new lines replies was same (inl (inr (none, nothing, as_held))) =
      inr (inr nothing, lines_answered_same first old new lines replies same as_held was)
  lines_answered_later defers first s t old new lines replies was same (inr (looked, as_held)) =
      inr (looked, lines_answered_same first old new lines replies same as_held was)

-- an answer that the handler finishes in this state is finished in some state
pub finishes_once : {H T : Type 0} (finishes : H → T → List ℕ → Type 0) (s : H) (before after : Stage T)
    → Finishing (finishes s) before after → Finishing (FinishesInSomeState finishes) before after
finishes_once finishes s (stage.Signing ticket exact) after (text, finished, holds) = (text, (s, finished), holds)
finishes_once finishes s other after same = same

module _ {H T : Type 0} (answers : H → List ℕ → Outcome T → H → Type 0) (finishes : T → List ℕ → Type 0) where
  -- an answer that was left unsigned, or given, stays so if more bytes came
  left_behind : (arrived more : List ℕ) (ticket : T) → WasLeftUnsigned answers arrived ticket → WasLeftUnsigned answers (arrived ++ more) ticket
  left_behind arrived more ticket (asked, dropped, came_so, by) =
      (asked, dropped ++ more, ap (λ (l : List ℕ). l ++ more) came_so ∙ append_assoc asked dropped more, by)

  answered_behind : (arrived more text : List ℕ) → WasAnswered answers finishes arrived text → WasAnswered answers finishes (arrived ++ more) text
  answered_behind arrived more text (asked, dropped, came_so, by) =
      (asked, dropped ++ more, ap (λ (l : List ℕ). l ++ more) came_so ∙ append_assoc asked dropped more, by)

  -- the same text is the same answer
  answered_as : (arrived text other : List ℕ) → text ≡ other → WasAnswered answers finishes arrived text → WasAnswered answers finishes arrived other
  answered_as arrived text other same was = subst (λ (l : List ℕ). WasAnswered answers finishes arrived l) same was

  -- more of a request was received
  requests_on : (collected : Collected) (after : Stage T) (arrived gone bytes kept lost : List ℕ) (ended ended' : Bool)
      → IsAnsweredAtMostOnce answers finishes arrived gone (stage.Receiving collected) ended → HasReceived after bytes → bytes ≡ collected_bytes collected ++ kept
      → (lost ≡ []) ⊎ (ended' ≡ true) → (ended ≡ true → (bytes ≡ collected_bytes collected) × (ended' ≡ true))
      → IsAnsweredAtMostOnce answers finishes (arrived ++ (kept ++ lost)) gone after ended'
  requests_on collected (stage.Receiving more) arrived gone bytes kept lost ended ended' was asks grows whole over =
      let (all, joined, still) = lost_on [] (collected_bytes collected) bytes was.1 kept lost ended ended' was.3 grows whole over in
      (was.0, all, ap (λ (l : List ℕ). l ++ (kept ++ lost)) was.2 ∙ joined ∙ ap (λ (l : List ℕ). l ++ all) asks, still)
  requests_on collected _ arrived gone bytes kept lost ended ended' was asks grows whole over = absurd asks

  -- an answer is still left to be signed
  waiting_on : (after : Stage T) (arrived gone : List ℕ) (ticket : T) (ended : Bool) → gone ≡ [] → WasLeftUnsigned answers arrived ticket → AwaitsSignature after ticket
      → IsAnsweredAtMostOnce answers finishes arrived gone after ended
  waiting_on (stage.Signing kept exact) arrived gone ticket ended none was waits =
      (none, subst (λ (kept : T). WasLeftUnsigned answers arrived kept) (sym waits) was)
  waiting_on _ arrived gone ticket ended none was waits = absurd waits

  -- more of an answer was sent
  sending_on : (after : Stage T) (arrived gone went rest text : List ℕ) (ended : Bool) → WasAnswered answers finishes arrived (gone ++ text)
      → text ≡ went ++ rest → HasUnsentRest after rest → IsAnsweredAtMostOnce answers finishes arrived (gone ++ went) after ended
  sending_on (stage.Sending unsent exact) arrived gone went rest text ended was parted left =
      answered_as arrived (gone ++ text) (gone ++ went ++ unsent_of unsent)
      (part_on gone went rest text parted ∙ ap (λ (l : List ℕ). gone ++ went ++ l) left)
      was
  sending_on stage.Draining arrived gone went rest text ended was parted left =
      answered_as arrived (gone ++ text) (gone ++ went)
      (part_on gone went rest text parted ∙ ap (λ (l : List ℕ). gone ++ went ++ l) left ∙ append-nil (gone ++ went))
      was
  sending_on _ arrived gone went rest text ended was parted left = absurd left

  -- the whole answer was sent
  leaving_on : (after : Stage T) (arrived gone : List ℕ) (ended : Bool) → WasAnswered answers finishes arrived gone → IsDraining after
      → IsAnsweredAtMostOnce answers finishes arrived gone after ended
  leaving_on stage.Draining arrived gone ended was left = was
  leaving_on _ arrived gone ended was left = absurd left

  -- an answer is kept to be sent, and none of it was sent yet
  answered_by : (after : Stage T) (arrived gone text : List ℕ) (ended : Bool) → gone ≡ [] → WasAnswered answers finishes arrived text → HasUnsentText after text
      → IsAnsweredAtMostOnce answers finishes arrived gone after ended
  answered_by (stage.Sending unsent exact) arrived gone text ended none was holds =
      answered_as arrived text (gone ++ unsent_of unsent) (holds ∙ ap (λ (l : List ℕ). l ++ unsent_of unsent) (sym none)) was
  answered_by _ arrived gone text ended none was holds = absurd holds

  -- the stage stays the same, and the connection may have ended
  same_on : (before after : Stage T) (arrived gone : List ℕ) (ended ended' : Bool) → after ≡ before → (ended ≡ true → ended' ≡ true)
      → IsAnsweredAtMostOnce answers finishes arrived gone before ended → IsAnsweredAtMostOnce answers finishes arrived gone after ended'
  same_on before after arrived gone ended ended' same ends was =
      subst (λ (at : Stage T). IsAnsweredAtMostOnce answers finishes arrived gone at ended') (sym same) (go before was)
    where
      over : (lost : List ℕ) → (lost ≡ []) ⊎ (ended ≡ true) → (lost ≡ []) ⊎ (ended' ≡ true)
      over lost (inl none) = inl none
      over lost (inr is) = inr (ends is)

      go : (at : Stage T) → IsAnsweredAtMostOnce answers finishes arrived gone at ended → IsAnsweredAtMostOnce answers finishes arrived gone at ended'
      go (stage.Receiving collected) it = (it.0, it.1, it.2, over it.1 it.3)
      go other it = it

  -- a request was answered, or waits for a signature
  outcome_on : (after : Stage T) (asked dropped arrived gone : List ℕ) (ended : Bool) (s t : H) (outcome : Outcome T) → gone ≡ [] → arrived ≡ asked ++ dropped
      → answers s asked outcome t → KeepsOutcome outcome after → IsAnsweredAtMostOnce answers finishes arrived gone after ended
  outcome_on after asked dropped arrived gone ended s t (said text) none came_so by held =
      answered_by after arrived gone text ended none (asked, dropped, came_so, inl (s, t, by)) held
  outcome_on after asked dropped arrived gone ended s t (pending ticket) none came_so by held =
      waiting_on after arrived gone ticket ended none (asked, dropped, came_so, (s, t, by)) held
  outcome_on after asked dropped arrived gone ended s t later none came_so by held = absurd held

  -- the handler answered the request, or nothing changed
  pub answering_on : (s t : H) (before after : Stage T) (arrived gone : List ℕ) (ended ended' : Bool) → IsAnsweredAtMostOnce answers finishes arrived gone before ended
      → Answering answers s t before after → (ended ≡ true → ended' ≡ true) → IsAnsweredAtMostOnce answers finishes arrived gone after ended'
  answering_on s t (stage.Receiving collected) after arrived gone ended ended' was (outcome, by, held) ends =
      outcome_on after (collected_bytes collected) was.1 arrived gone ended' s t outcome was.0 was.2 by held
  answering_on s t other after arrived gone ended ended' was same ends = same_on other after arrived gone ended ended' same ends was

  -- an answer that was left to be signed was finished, or nothing changed
  pub finishing_on : (before after : Stage T) (arrived gone : List ℕ) (ended ended' : Bool) → IsAnsweredAtMostOnce answers finishes arrived gone before ended
      → Finishing finishes before after → (ended ≡ true → ended' ≡ true) → IsAnsweredAtMostOnce answers finishes arrived gone after ended'
  finishing_on (stage.Signing ticket exact) after arrived gone ended ended' (none, (asked, dropped, came_so, by)) (text, finished, holds) ends =
      answered_by after arrived gone text ended' none (asked, dropped, came_so, inr (ticket, finished, by)) holds
  finishing_on other after arrived gone ended ended' was same ends = same_on other after arrived gone ended ended' same ends was

  -- a request kept its bytes, or nothing changed
  pub keeping_on : (before after : Stage T) (arrived gone : List ℕ) (ended ended' : Bool) → IsAnsweredAtMostOnce answers finishes arrived gone before ended
      → KeepsReceived before after → (ended ≡ true → ended' ≡ true) → IsAnsweredAtMostOnce answers finishes arrived gone after ended'
  keeping_on (stage.Receiving collected) (stage.Receiving same) arrived gone ended ended' was kept ends =
      same_on (stage.Receiving same) (stage.Receiving same) arrived gone ended ended' refl ends
      (was.0, was.1, was.2 ∙ ap (λ (l : List ℕ). l ++ was.1) kept, was.3)
  keeping_on (stage.Receiving collected) _ arrived gone ended ended' was kept ends = absurd kept
  keeping_on other after arrived gone ended ended' was same ends = same_on other after arrived gone ended ended' same ends was

module _ {S H T L : Type 0} (contents remaining : S → Option (List ℕ)) (g : Ghosts H T L) where
  -- a connection that was just accepted
  pub served_none : (connection : HttpConnection S H T L) → HasReceived connection.stage [] → IsServedOnce contents remaining g connection.stream connection
  served_none connection asks = record { arrived = []; gone = []; since = nothing_yet; once = go connection.stage asks }
    where
      go : (at : Stage T) → HasReceived at [] → IsAnsweredAtMostOnce g.answers (FinishesInSomeState g.finishes) [] [] at (is_some connection.fault)
      go (stage.Receiving collected) asks = (refl, [], asks ∙ sym (append-nil (collected_bytes collected)), inl refl)
      go _ asks = absurd asks

  -- the connection was advanced
  pub served_on : ServesOn contents remaining g
  served_on first old new was receives sends drops = go old.stage was.once receives sends drops
    where
      go : (at : Stage T) → IsAnsweredAtMostOnce g.answers (FinishesInSomeState g.finishes) was.arrived was.gone at (is_some old.fault)
          → ((bytes : List ℕ) → HasReceived at bytes
          → (bytes' : List ℕ) × HasReceived new.stage bytes' × Gathers (remaining old.stream) (remaining new.stream) bytes bytes' (is_some new.fault)
          × (is_some old.fault ≡ true → (bytes' ≡ bytes) × (is_some new.fault ≡ true)))
          → ((text : List ℕ) → HasUnsentText at text
          → (went : List ℕ) × (rest : List ℕ) × (text ≡ went ++ rest) × Appends (contents old.stream) (contents new.stream) went
          × HasUnsentRest new.stage rest)
          → (((ticket : T) → AwaitsSignature at ticket → AwaitsSignature new.stage ticket × IsDropped (remaining old.stream) (remaining new.stream))
          × (IsDraining at → IsDraining new.stage × IsDropped (remaining old.stream) (remaining new.stream)))
          → IsServedOnce contents remaining g first new
      go (stage.Receiving collected) once receives sends drops =
          let (bytes, asks, it, over) = receives (collected_bytes collected) refl in
          record {
            arrived = was.arrived ++ (it.kept ++ it.lost);
            gone = was.gone;
            since = more_received was.arrived was.gone (it.kept ++ it.lost) old.stream new.stream was.since it.consumed;
            once =
                requests_on g.answers (FinishesInSomeState g.finishes) collected new.stage was.arrived was.gone bytes it.kept it.lost (is_some old.fault)
                (is_some new.fault) once asks it.held it.whole over;
          }
      go (stage.Signing ticket exact) once receives sends drops =
          let (waits, dropped) = drops.0 ticket refl in
          record {
            arrived = was.arrived ++ dropped.0;
            gone = was.gone;
            since = more_received was.arrived was.gone dropped.0 old.stream new.stream was.since dropped.1;
            once =
                waiting_on g.answers (FinishesInSomeState g.finishes) new.stage (was.arrived ++ dropped.0) was.gone ticket (is_some new.fault) once.0
                (left_behind g.answers (FinishesInSomeState g.finishes) was.arrived dropped.0 ticket once.1)
                waits;
          }
      go (stage.Sending unsent exact) once receives sends drops =
          let (went, rest, parted, appended, left) = sends (unsent_of unsent) refl in
          record {
            arrived = was.arrived;
            gone = was.gone ++ went;
            since = more_sent was.arrived was.gone went old.stream new.stream was.since appended;
            once =
                sending_on g.answers (FinishesInSomeState g.finishes) new.stage was.arrived was.gone went rest (unsent_of unsent) (is_some new.fault) once
                parted left;
          }
      go stage.Draining once receives sends drops =
          let (left, dropped) = drops.1 tt in
          record {
            arrived = was.arrived ++ dropped.0;
            gone = was.gone;
            since = more_received was.arrived was.gone dropped.0 old.stream new.stream was.since dropped.1;
            once =
                leaving_on g.answers (FinishesInSomeState g.finishes) new.stage (was.arrived ++ dropped.0) was.gone (is_some new.fault)
                (answered_behind g.answers (FinishesInSomeState g.finishes) was.arrived dropped.0 was.gone once)
                left;
          }

  -- only the stage changed, and perhaps the fault
  pub served_by : (step : Stage T → Stage T → Type 0) → ((before after : Stage T) (arrived gone : List ℕ) (ended ended' : Bool)
      → IsAnsweredAtMostOnce g.answers (FinishesInSomeState g.finishes) arrived gone before ended → step before after → (ended ≡ true → ended' ≡ true)
      → IsAnsweredAtMostOnce g.answers (FinishesInSomeState g.finishes) arrived gone after ended') → KeepsServed contents remaining g step
  served_by step changes first old new was same stepped ends = record {
    arrived = was.arrived;
    gone = was.gone;
    since = subst (SinceOpened contents remaining first was.arrived was.gone) (sym same) was.since;
    once = changes old.stage new.stage was.arrived was.gone (is_some old.fault) (is_some new.fault) was.once stepped ends;
  }
