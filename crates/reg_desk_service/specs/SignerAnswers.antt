-- The answers of a signer at a path to the messages that it was asked to sign.
use Rattle.std.specs.Prelude.{◌≡◌, ℕ, List, Option, Some}

-- there is a path, and `Holds` is true of it
abbrev pub AtGivenPath : Option (List ℕ) → (List ℕ → Type 0) → Type 0
AtGivenPath given_path Holds = (path : List ℕ) × (given_path ≡ Some path) × Holds path

-- a signer at some path gave this answer for this message
abbrev pub AnsweredAtSomePath : (List ℕ → List ℕ → List ℕ → Type 0) → List ℕ → List ℕ → Type 0
AnsweredAtSomePath signer_answered message answer = (path : List ℕ) × signer_answered path message answer

-- a path is given, and the signer at it gave this answer for this message
abbrev pub AnsweredAtPath : (List ℕ → List ℕ → List ℕ → Type 0) → Option (List ℕ) → List ℕ → List ℕ → Type 0
AnsweredAtPath signer_answered given_path message answer =
    AtGivenPath given_path (λ path. signer_answered path message answer)
