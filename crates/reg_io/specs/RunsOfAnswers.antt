-- Runs: an object, such as an `Office` (reg_office_api), answers one request after another.
use Rattle.std.specs.Prelude.{◌≡◌, List, [], ◌∷◌, ◌++◌}

-- From the state s on, the object answers the requests `asked` with the answers `given`, one for each, and is then in the state t.
-- `answers s q a t` is one step: in the state s, the request q gets the answer a, and t is the state after it.
abbrev pub Answered : {S Q A : Type 0} → (S → Q → A → S → Type 0) → S → List Q → List A → S → Type 0
Answered answers s [] [] t = t ≡ s
Answered {S = S} answers s (q ∷ asked) (a ∷ given) t =
    (m : S) × answers s q a m × Answered answers m asked given t
Answered answers s [] (a ∷ given) t = ⊥
Answered answers s (q ∷ asked) [] t = ⊥

-- ---- laws

-- a run, and another one from its end, together are a run
abbrev pub RunsGoOn : {S Q A : Type 0} → (S → Q → A → S → Type 0) → Type 0
RunsGoOn {S = S} {Q = Q} {A = A} answers =
    (s m t : S) (asked : List Q) (given : List A) (more : List Q) (others : List A)
    → Answered answers s asked given m → Answered answers m more others t
    → Answered answers s (asked ++ more) (given ++ others) t

-- a run and one more step are a run, too
abbrev pub RunsStepOn : {S Q A : Type 0} → (S → Q → A → S → Type 0) → Type 0
RunsStepOn {S = S} {Q = Q} {A = A} answers =
    (s m t : S) (asked : List Q) (given : List A) (q : Q) (a : A)
    → Answered answers s asked given m → answers m q a t
    → Answered answers s (asked ++ q ∷ []) (given ++ a ∷ []) t
