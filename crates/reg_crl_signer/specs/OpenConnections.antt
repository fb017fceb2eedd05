-- The bytes of a connection.
use Rattle.std.specs.Prelude.{ℕ, List, [], ◌++◌, Option}
use Rattle.std.specs.Io.KnownBytes.{Appends, Consumes}

-- since a connection was opened these bytes came on it, and those were sent on it, in any pieces
pub data SinceOpened {S : Type 0} (contents remaining : S → Option (List ℕ)) (first : S) : List ℕ → List ℕ
    → S → Type 0 where
  nothing_yet : SinceOpened contents remaining first [] [] first
  more_received : (arrived gone more : List ℕ) (s t : S)
      → SinceOpened contents remaining first arrived gone s → Consumes (remaining s) (remaining t) more
      → SinceOpened contents remaining first (arrived ++ more) gone t
  more_sent : (arrived gone more : List ℕ) (s t : S) → SinceOpened contents remaining first arrived gone s
      → Appends (contents s) (contents t) more
      → SinceOpened contents remaining first arrived (gone ++ more) t
