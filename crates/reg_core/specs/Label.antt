use Rattle.std.specs.Prelude.{ℕ, ◌≤◌, ◌<◌, Bool, ◌&&◌, ◌||◌, ◌==◌, cond, nat_le, nat_lt, IsTrue, List, length, Option, Some, None}
use Rattle.std.specs.List.{list_all, All}
use Rattle.std.specs.Char.{is_ascii_alphanumeric}

-- a text of 1 to 64 bytes
pub record IsLabel (text : List ℕ) : Type 0 where
  pub not_empty : 1 ≤ length text
  pub at_most_64 : length text ≤ 64
  pub bytes : All (λ byte. byte < 256) text

-- the text, if it is a label
unfoldable pub label_of : List ℕ → Option (List ℕ)
label_of text =
    cond (nat_le 1 (length text) && nat_le (length text) 64 && list_all (λ b. nat_lt b 256) text)
    (Some text) None

-- an ASCII letter, a digit, or one of `.`, `-` and `_`
abbrev pub is_name_byte : ℕ → Bool
is_name_byte byte = is_ascii_alphanumeric byte || byte == 46 || byte == 45 || byte == 95

-- each byte of the text is allowed in a name
abbrev pub is_name : List ℕ → Bool
is_name text = list_all is_name_byte text

-- the text is allowed as a name
abbrev pub IsName : List ℕ → Type 0
IsName text = IsTrue (is_name text)
