-- The bytes of a copy of a database's files.
use Rattle.std.specs.Prelude.{ℕ, zero, suc, List, [], ◌++◌, Option, Some, None}
use Rattle.sqlite_wal.specs.Recovery.{Pages}

-- the bytes of a page, if there is one
abbrev pub page_bytes : Option (List ℕ) → List ℕ
page_bytes (Some bytes) = bytes
page_bytes None = []

-- the bytes of the first n pages of a database, in order
abbrev pub pages_in_order : Pages → ℕ → List ℕ
pages_in_order pages zero = []
pages_in_order pages (suc n) = pages_in_order pages n ++ page_bytes (pages (suc n))
