-- Lemmas about exchanges, one after the other.
use Rattle.std.proofs.Common.{◌≡◌, ℕ, ◌+◌, List, [], ◌∷◌, ◌++◌, refl, arith, inl, inr}
use Rattle.reg_io.proofs.PublicLaws.{answered_append}
use Rattle.std.specs.Prelude.{Result, Ok, Err, OnOk, OnErr, take}
use Rattle.reg_desk_server.specs.ControlLines.{DefersFirstLine, AnswersFirstLines, AnswersUpTo, AnswersDeferred}
use Rattle.reg_desk_server.specs.LineEnds.{EndsLine, FirstLineEnds}
use Rattle.reg_desk_server.specs.Exchange.{Input, request, lines, work, Outcome, said, pending, later, requests_in, Handles, HandlesOrWorks, Exchanged}
use Rattle.reg_desk_server.specs.Handling.{Handled, HandledAndWorked}
use Rattle.reg_io.specs.RunsOfAnswers.{Answered}
use Rattle.reg_desk_server.specs.Buffers.{unsent_of}
use Rattle.reg_desk_server.specs.declared.control_connection.ControlConnection.{ControlConnection}
use Rattle.reg_desk_server.specs.declared.handler.Handler.{Ghosts}

-- the count of requests in two lists, one after the other
pub asked_in_append : (first rest : List Input) → requests_in (first ++ rest) ≡ requests_in first + requests_in rest
asked_in_append [] rest = omega arith
asked_in_append (request bytes ∷ first) rest = omega (arith, asked_in_append first rest)
asked_in_append (lines bytes ∷ first) rest = asked_in_append first rest
asked_in_append (work ∷ first) rest = asked_in_append first rest

-- a run whose steps are other ones too
answered_more : {S Q A : Type 0} (answers other : S → Q → A → S → Type 0) → ((s : S) (q : Q) (a : A) (t : S) → answers s q a t → other s q a t) → (s t : S)
    (asked : List Q) (given : List A) → Answered answers s asked given t → Answered other s asked given t
answered_more answers other more s t [] [] run = run
answered_more answers other more s t [] (a ∷ given) run = absurd run
answered_more answers other more s t (q ∷ asked) [] run = absurd run
answered_more answers other more s t (q ∷ asked) (a ∷ given) run =
    (run.0, more s q a run.0 run.1, answered_more answers other more run.0 t asked given run.2)

module _ {S T : Type 0} (handles : S → Input → Outcome T → S → Type 0) where
  -- nothing was exchanged
  pub exchanged_none : (s t : S) (answered answered' : ℕ) → t ≡ s → answered' ≡ answered → Exchanged handles s t answered answered'
  exchanged_none s t answered answered' same count = record { inputs = []; outcomes = []; run = same; counted = omega (arith, count) }

  -- some were exchanged, and then others
  pub exchanged_then : (s m t : S) (answered answered' answered'' : ℕ) → Exchanged handles s m answered answered' → Exchanged handles m t answered' answered''
      → Exchanged handles s t answered answered''
  exchanged_then s m t answered answered' answered'' first rest = record {
    inputs = first.inputs ++ rest.inputs;
    outcomes = first.outcomes ++ rest.outcomes;
    run = answered_append handles s m t first.inputs first.outcomes rest.inputs rest.outcomes first.run rest.run;
    counted = omega (arith, first.counted, rest.counted, asked_in_append first.inputs rest.inputs);
  }

module _ {S T L : Type 0} (g : Ghosts S T L) where
  -- nothing was exchanged
  pub handled_none : (s t : S) (answered answered' : ℕ) → t ≡ s → answered' ≡ answered → Handled g s t answered answered'
  handled_none = exchanged_none (Handles g.answers g.answers_lines g.defers)

  -- a request was answered
  pub handled_request : (s t : S) (answered answered' : ℕ) (bytes : List ℕ) (outcome : Outcome T) → g.answers s bytes outcome t → answered' ≡ answered + 1
      → Handled g s t answered answered'
  handled_request s t answered answered' bytes outcome step count = record {
    inputs = request bytes ∷ [];
    outcomes = outcome ∷ [];
    run = (t, step, refl);
    counted = omega (arith, count);
  }

  -- lines were answered
  pub handled_line : (s t : S) (answered : ℕ) (bytes text : List ℕ) → g.answers_lines s bytes text t → Handled g s t answered answered
  handled_line s t answered bytes text step = record {
    inputs = lines bytes ∷ [];
    outcomes = said text ∷ [];
    run = (t, step, refl);
    counted = omega arith;
  }

  -- some were exchanged, and then others
  pub handled_then : (s m t : S) (answered answered' answered'' : ℕ) → Handled g s m answered answered' → Handled g m t answered' answered''
      → Handled g s t answered answered''
  handled_then = exchanged_then (Handles g.answers g.answers_lines g.defers)

  -- nothing was exchanged, and the handler did not work
  pub worked_none : (s t : S) (answered answered' : ℕ) → t ≡ s → answered' ≡ answered → HandledAndWorked g s t answered answered'
  worked_none = exchanged_none (HandlesOrWorks g.answers g.answers_lines g.defers g.works)

  -- the handler then worked
  pub worked_then : (s m t : S) (answered answered' : ℕ) → HandledAndWorked g s m answered answered' → g.works m t → HandledAndWorked g s t answered answered'
  worked_then s m t answered answered' first step =
      exchanged_then (HandlesOrWorks g.answers g.answers_lines g.defers g.works) s m t answered answered' answered' first
      (record { inputs = work ∷ []; outcomes = later ∷ []; run = (t, step, refl); counted = omega arith })

  handles_more : (s : S) (input : Input) (outcome : Outcome T) (t : S) → Handles g.answers g.answers_lines g.defers s input outcome t
      → HandlesOrWorks g.answers g.answers_lines g.defers g.works s input outcome t
  handles_more s (request bytes) outcome t step = step
  handles_more s (lines bytes) outcome t step = step
  handles_more s work outcome t step = absurd step

  -- requests and lines were then answered
  pub worked_then_handled : (s m t : S) (answered answered' answered'' : ℕ) → HandledAndWorked g s m answered answered' → Handled g m t answered' answered''
      → HandledAndWorked g s t answered answered''
  worked_then_handled s m t answered answered' answered'' first rest =
      exchanged_then (HandlesOrWorks g.answers g.answers_lines g.defers g.works) s m t answered answered' answered'' first (record {
        inputs = rest.inputs;
        outcomes = rest.outcomes;
        run = answered_more _ _ handles_more m t rest.inputs rest.outcomes rest.run;
        counted = rest.counted;
      })

  -- the first lines were answered, or none was
  pub handled_answering : {P : Type 0} (Ends : List ℕ → ℕ → Type 0) (s t : S) (answered : ℕ) (old new : ControlConnection P)
      → AnswersUpTo Ends g.answers_lines s t old new → Handled g s t answered answered
  handled_answering Ends s t answered old new (inl line) = handled_line s t answered (take line.0 old.arrived.items) (unsent_of new.unsent) line.3
  handled_answering Ends s t answered old new (inr silent) = handled_none s t answered answered silent.1 refl

  -- the same, or the handler failed and did not change
  pub handled_first : {P U E : Type 0} (Q : Type 0) (r : Result U E) (s t : S) (answered : ℕ) (old new : ControlConnection P)
      → OnOk r (AnswersFirstLines g.answers_lines s t old new) → OnErr r (Q × (t ≡ s)) → Handled g s t answered answered
  handled_first Q (Ok u) s t answered old new line stopped = handled_answering EndsLine s t answered old new line
  handled_first Q (Err e) s t answered old new line stopped = handled_none s t answered answered stopped.1 refl

  -- the first line was deferred, or none was
  pub handled_deferring : {P : Type 0} (s t : S) (answered : ℕ) (old : ControlConnection P) → DefersFirstLine g.defers s t old → Handled g s t answered answered
  handled_deferring s t answered old (inl looked) = record {
    inputs = lines (take looked.0 old.arrived.items) ∷ [];
    outcomes = later ∷ [];
    run = (t, looked.2, refl);
    counted = omega arith;
  }
  handled_deferring s t answered old (inr same) = handled_none s t answered answered same refl

  -- a deferred line was answered or deferred again; or the handler failed and did not change
  pub handled_deferred : {P U E : Type 0} (Q : Type 0) (r : Result U E) (s t : S) (answered : ℕ) (old new : ControlConnection P)
      → OnOk r (AnswersDeferred g.answers_lines g.defers s t old new) → OnErr r (Q × (t ≡ s)) → Handled g s t answered answered
  handled_deferred Q (Ok u) s t answered old new (inl line) stopped = handled_answering FirstLineEnds s t answered old new line
  handled_deferred Q (Ok u) s t answered old new (inr looked) stopped = handled_deferring s t answered old looked.0
  handled_deferred Q (Err e) s t answered old new line stopped = handled_none s t answered answered stopped.1 refl
