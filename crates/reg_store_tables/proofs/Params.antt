-- What the values are that a statement is given.
use Rattle.std.proofs.Common.{◌≡◌, ℕ, pos, Result, Ok, Err, IfOk, ap}
use Rattle.sqlite_value.specs.declared.value.ValueRef.{ValueRef}
use Rattle.sqlite_value.specs.declared.value.ValueRef.TheVariants as lent
use Rattle.sqlite_value.specs.Value.{owned}
use Rattle.sqlite.specs.Values.{bound_value}
use Rattle.reg_store_tables.specs.Rows.{number}

pub number_is : (v : ValueRef) (n : ℕ) → v ≡ lent.Int (pos n) → bound_value (owned v) ≡ number n
number_is v n is = ap (λ w. bound_value (owned w)) is

pub moment_is : (v : ValueRef) (n : ℕ) → v ≡ lent.Int (pos n) → bound_value (owned v) ≡ number n
moment_is = number_is

-- what holds of an Ok, and what follows from it
pub ok_then : {A E : Type 0} (P Q : A → Type 0) (r : Result A E) → ((x : A) → P x → Q x) → IfOk r P → IfOk r Q
ok_then P Q (Ok x) leads holds = leads x holds
ok_then P Q (Err e) leads holds = tt
