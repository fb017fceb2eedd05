-- Messages and answers on persistent connections.
use Rattle.std.specs.Prelude.{ℕ, List, ◌++◌, length}
use Rattle.std.specs.Int.{w32, to_be_bytes}

-- a message or an answer on a persistent connection: its length in four octets, big-endian, and then its octets
abbrev pub counted_bytes : List ℕ → List ℕ
counted_bytes octets = to_be_bytes w32 (length octets) ++ octets
