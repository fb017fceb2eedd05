-- Clauses on a result, carried on.
use Rattle.std.specs.Prelude.{Result, Ok, Err, OnOk, IfErr}

pub on_ok : {A E : Type 0} {P Q : Type 0} (result : Result A E) → OnOk result P → (P → Q) → OnOk result Q
on_ok (Ok value) here to = to here
on_ok (Err error) here to = tt

pub if_err : {A E : Type 0} {P Q : E → Type 0} (result : Result A E) → IfErr result P → ((error : E) → P error → Q error) → IfErr result Q
if_err (Ok value) here to = tt
if_err (Err error) here to = to error here
