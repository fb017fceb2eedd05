-- Delimiters: bytes that end a part of an input. LF ends a line, and CR LF CR LF ends a header section (RFC 9112 2.1).
use Rattle.std.specs.Prelude.{◌≡◌, ◌≢◌, ℕ, ◌<◌, ◌≤◌, List, [], ◌∷◌, ◌++◌, length, take}
use Rattle.std.specs.List.{All}

-- the bytes end with the delimiter
abbrev pub EndsWith : List ℕ → List ℕ → Type 0
EndsWith bytes delimiter = (prefix : List ℕ) × (bytes ≡ prefix ++ delimiter)

-- the bytes do not contain the delimiter: no prefix of the bytes ends with it
abbrev pub HasNoDelimiter : List ℕ → List ℕ → Type 0
HasNoDelimiter delimiter bytes = (n : ℕ) → ¬ EndsWith (take n bytes) delimiter

-- the first delimiter in the bytes ends at index `end`: the prefix of that length ends with it, and no shorter prefix does
pub record FirstDelimiter (delimiter bytes : List ℕ) (end : ℕ) : Type 0 where
  pub within : end ≤ length bytes
  pub here : EndsWith (take end bytes) delimiter
  pub first : (n : ℕ) → n < end → ¬ EndsWith (take n bytes) delimiter

-- ---- laws

-- bytes have at most one first delimiter
abbrev pub OneFirstDelimiter : Type 0
OneFirstDelimiter =
    (delimiter bytes : List ℕ) (m n : ℕ) → FirstDelimiter delimiter bytes m
    → FirstDelimiter delimiter bytes n → m ≡ n

-- the first delimiter stays the first if more bytes follow
abbrev pub FirstDelimiterOfAppend : Type 0
FirstDelimiterOfAppend =
    (delimiter bytes more : List ℕ) (end : ℕ) → FirstDelimiter delimiter bytes end
    → FirstDelimiter delimiter (bytes ++ more) end

-- the first delimiter is also the first in each prefix that contains it
abbrev pub FirstDelimiterInPrefix : Type 0
FirstDelimiterInPrefix =
    (delimiter bytes : List ℕ) (end count : ℕ) → FirstDelimiter delimiter bytes end → end ≤ count
    → FirstDelimiter delimiter (take count bytes) end

-- a prefix does not contain the delimiter if no prefix of at most its length ends with the delimiter
abbrev pub NoDelimiterInPrefix : Type 0
NoDelimiterInPrefix =
    (delimiter bytes : List ℕ) (count : ℕ) → ((n : ℕ) → n ≤ count → ¬ EndsWith (take n bytes) delimiter)
    → HasNoDelimiter delimiter (take count bytes)

-- the bytes up to the first delimiter of one byte are other bytes, and then that byte
abbrev pub FirstDelimiterOfByte : Type 0
FirstDelimiterOfByte =
    (byte : ℕ) (bytes : List ℕ) (end : ℕ) → FirstDelimiter (byte ∷ []) bytes end
    → (prefix : List ℕ) × (take end bytes ≡ prefix ++ byte ∷ []) × All (λ b. b ≢ byte) prefix

-- bytes that do not contain a delimiter of one byte do not contain that byte
abbrev pub NoDelimiterOfByte : Type 0
NoDelimiterOfByte = (byte : ℕ) (bytes : List ℕ) → HasNoDelimiter (byte ∷ []) bytes → All (λ b. b ≢ byte) bytes
