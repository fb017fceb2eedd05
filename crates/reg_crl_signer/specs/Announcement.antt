-- The announcement of persistent connections.
use Rattle.std.specs.Prelude.{ℕ, List, codes, drop, length, nat_eq, if◌then◌else◌}
use Rattle.std.specs.List.{starts_with}

-- a signer that takes persistent connections sends these octets before a signature on a connection for one message
abbrev pub announcement : List ℕ
announcement = codes "desk-signer/1 \r\n"

-- the signature in an answer: what follows the announcement, if the answer begins with it, or else the whole answer
abbrev pub signature_in : List ℕ → List ℕ
signature_in answer =
    if starts_with nat_eq answer announcement then drop (length announcement) answer else answer
