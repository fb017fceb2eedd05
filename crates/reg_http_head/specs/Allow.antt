-- The method that a 405 allows.
use Rattle.std.specs.Prelude.{ℕ, List, [], Option, Some, None}

-- the bytes of the method; no bytes for `None`
abbrev pub allowed : Option (List ℕ) → List ℕ
allowed None = []
allowed (Some method) = method
