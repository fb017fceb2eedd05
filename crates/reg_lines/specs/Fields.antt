-- The fields of a line.
use Rattle.std.specs.Prelude.{ℕ, ◌==◌, List, [], ◌∷◌, if◌then◌else◌, Option, Some, None}

-- one more byte at the start of the first field
abbrev pub in_prefix : ℕ → List (List ℕ) → List (List ℕ)
in_prefix byte [] = (byte ∷ []) ∷ []
in_prefix byte (field ∷ fields) = (byte ∷ field) ∷ fields

-- the fields of a line: the texts between its spaces (the byte 32), one more than there are spaces
unfoldable pub fields_of : List ℕ → List (List ℕ)
fields_of [] = [] ∷ []
fields_of (byte ∷ line) = if byte == 32 then [] ∷ fields_of line else in_prefix byte (fields_of line)

-- the fields that are left, if there is a rest of the line
abbrev pub fields_after : Option (List ℕ) → List (List ℕ)
fields_after None = []
fields_after (Some rest) = fields_of rest
