-- The result of a call, as bytes.
use Rattle.std.specs.Prelude.{ℕ, List, Result, Ok, Err, Vec}

-- the bytes of a buffer, or the error
abbrev pub items_of : {E Z : Type 0} → Result (Vec ℕ Z) E → Result (List ℕ) E
items_of (Ok bytes) = Ok bytes.items
items_of (Err fault) = Err fault
