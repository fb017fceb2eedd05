-- The exchanges of a handler on HTTP connections and on control connections, one after the other, and its own work between them.
use Rattle.std.specs.Prelude.{◌≡◌, ℕ, zero, suc, ◌+◌, List, [], ◌∷◌}
use Rattle.reg_io.specs.RunsOfAnswers.{Answered}

-- an input: the bytes of a request, or of one or several whole lines of a control connection; or none, and the handler does work of its own
pub data Input : Type 0 where
  request : List ℕ → Input
  lines : List ℕ → Input
  work : Input

-- the outcome of an input: the text that answers it (for lines, their replies); the ticket of an answer that is left to be signed, which a text
-- finishes later; or no text, for a line that is answered later, perhaps with a signature, and for work
pub data Outcome (T : Type 0) : Type 0 where
  said : List ℕ → Outcome T
  pending : T → Outcome T
  later : Outcome T

-- how many requests are among these inputs
abbrev pub requests_in : List Input → ℕ
requests_in [] = zero
requests_in (request bytes ∷ inputs) = suc (requests_in inputs)
requests_in (lines bytes ∷ inputs) = requests_in inputs
requests_in (work ∷ inputs) = requests_in inputs

module _ {S T : Type 0} (answers : S → List ℕ → Outcome T → S → Type 0)
    (answers_lines : S → List ℕ → List ℕ → S → Type 0) (defers : S → List ℕ → S → Type 0) where
  -- The handler before an input, the input, its outcome, and the handler after it: lines are answered at once or later, and have no ticket. No work
  -- is done.
  abbrev pub Handles : S → Input → Outcome T → S → Type 0
  Handles s (request bytes) outcome t = answers s bytes outcome t
  Handles s (lines bytes) (said text) t = answers_lines s bytes text t
  Handles s (lines bytes) (pending ticket) t = ⊥
  Handles s (lines bytes) later t = defers s bytes t
  Handles s work outcome t = ⊥

  -- the same, or work
  abbrev pub HandlesOrWorks : (S → S → Type 0) → S → Input → Outcome T → S → Type 0
  HandlesOrWorks works s work later t = works s t
  HandlesOrWorks works s input outcome t = Handles s input outcome t

-- the handler s became t by some exchanges and nothing else, and `answered` grew by the number of their requests; an answer that is left to be
-- signed is listed where its request was
pub record Exchanged {S T : Type 0} (handles : S → Input → Outcome T → S → Type 0) (s t : S)
    (answered answered' : ℕ) : Type 0 where
  pub inputs : List Input
  pub outcomes : List (Outcome T)
  pub run : Answered handles s inputs outcomes t
  pub counted : answered' ≡ answered + requests_in inputs
