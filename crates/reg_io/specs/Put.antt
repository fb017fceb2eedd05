-- The bytes that a failed write has written.
use Rattle.std.specs.Prelude.{ℕ, ◌<◌, List, ◌++◌, length, take}
use Rattle.std.specs.declared.option.Option.{Option}
use Rattle.std.specs.Io.KnownBytes.{Appends}

-- a proper prefix of these bytes was appended
pub record AppendsPrefix (old new : Option (List ℕ)) (bytes : List ℕ) : Type 0 where
  pub count : ℕ
  pub short : count < length bytes
  pub written : Appends old new (take count bytes)

-- ---- laws

-- if a proper prefix of the first of two parts was appended, it is a proper prefix of both parts together
abbrev pub PrefixOfFirst : Type 0
PrefixOfFirst =
    (old new : Option (List ℕ)) (first second : List ℕ) → AppendsPrefix old new first
    → AppendsPrefix old new (first ++ second)

-- if the first part and then a proper prefix of the second were appended, that is a proper prefix of both parts together
abbrev pub PrefixOfSecond : Type 0
PrefixOfSecond =
    (old middle new : Option (List ℕ)) (first second : List ℕ) → Appends old middle first
    → AppendsPrefix middle new second
    → AppendsPrefix old new (first ++ second)
