-- What SQL's comparisons say of the values of a register.
use Rattle.std.proofs.Common.{◌≡◌, ◌<◌, ◌^◌, ℕ, pos, Bool, true, false, ◌&&◌, List, Some, refl, sym, ap, ◌∙◌, arith}
use Rattle.std.specs.Prelude.{nat_le, nat_lt, bytes_eq, ◌==◌}
use Rattle.std.specs.Ordering.{nat_cmp, int_cmp, is_eq, is_lt, is_le, is_gt, is_ge}
use Rattle.std.specs.Cmp.Lexicographic.{slice_cmp}
use Rattle.std.proofs.lemmas.Map.Text.{is_eq-slice_cmp}
use Rattle.std.specs.Int.{bytes_high_first}
use Rattle.std.proofs.lemmas.Bool.Decides.{nat_tests}
use Rattle.sqlite_value.specs.declared.value.Value.{Value}
use Rattle.sqlite_value.specs.declared.value.Value.TheVariants.{Text}
use Rattle.sqlite_value.specs.declared.keys.Collation.TheVariants.{Binary}
use Rattle.sqlite_value.specs.Order.{value_cmp}
use Rattle.sqlite_value.proofs.OrderLemmas.{value_cmp-Int, value_cmp-Text, value_cmp-Blob}
use Rattle.sqlite_sql.specs.Ops.{binary, is_true, from_truth, test}
use Rattle.sqlite_sql.specs.declared.ops.BinaryOp.TheVariants.{Compare}
use Rattle.sqlite_sql.specs.declared.ops.CompareOp.{CompareOp}
use Rattle.sqlite_sql.specs.declared.ops.CompareOp.TheVariants.{Eq, Lt, Le, Gt}
use Rattle.reg_core.specs.Integer.{value}
use Rattle.reg_core.specs.Serial.{IsSerial, serial_bytes}
use Rattle.reg_core.proofs.PublicLaws.{bytes_order, value-bytes20, is_bytes-bytes_high_first}
use Rattle.reg_store_tables.specs.Rows.{number, serial_value}

pub and_true : (b : Bool) → (b && true) ≡ b
and_true true = refl
and_true false = refl

-- WHERE keeps what a test says
of_truth : (b : Bool) → is_true (from_truth (Some b)) ≡ b
of_truth true = refl
of_truth false = refl

abbrev pub compares : CompareOp → Value → Value → Bool
compares op a b = is_true (binary (Compare op Binary) a b)

numbers : (op : CompareOp) (m n : ℕ) → compares op (number m) (number n) ≡ test op (int_cmp (pos m) (pos n))
unfolding binary
numbers op m n = of_truth _ ∙ ap (test op) (value_cmp-Int (pos m) (pos n))

pub as_numbers : (m n : ℕ) → int_cmp (pos m) (pos n) ≡ nat_cmp m n
as_numbers m n = grind (arith, nat_tests)

compared : (op : CompareOp) (m n : ℕ) → compares op (number m) (number n) ≡ test op (nat_cmp m n)
compared op m n = numbers op m n ∙ ap (test op) (as_numbers m n)

pub is_eq-nat_cmp : (m n : ℕ) → is_eq (nat_cmp m n) ≡ (m == n)
is_eq-nat_cmp m n = grind (arith, nat_tests)

pub is_lt-nat_cmp : (m n : ℕ) → is_lt (nat_cmp m n) ≡ nat_lt m n
is_lt-nat_cmp m n = grind (arith, nat_tests)

is_le-nat_cmp : (m n : ℕ) → is_le (nat_cmp m n) ≡ nat_le m n
is_le-nat_cmp m n = grind (arith, nat_tests)

is_gt-nat_cmp : (m n : ℕ) → is_gt (nat_cmp m n) ≡ nat_lt n m
is_gt-nat_cmp m n = grind (arith, nat_tests)

pub is_ge-nat_cmp : (m n : ℕ) → is_ge (nat_cmp m n) ≡ nat_le n m
is_ge-nat_cmp m n = grind (arith, nat_tests)

pub eq_number : (m n : ℕ) → compares Eq (number m) (number n) ≡ (m == n)
eq_number m n = compared Eq m n ∙ is_eq-nat_cmp m n

pub lt_number : (m n : ℕ) → compares Lt (number m) (number n) ≡ nat_lt m n
lt_number m n = compared Lt m n ∙ is_lt-nat_cmp m n

pub le_number : (m n : ℕ) → compares Le (number m) (number n) ≡ nat_le m n
le_number m n = compared Le m n ∙ is_le-nat_cmp m n

pub gt_number : (m n : ℕ) → compares Gt (number m) (number n) ≡ nat_lt n m
gt_number m n = compared Gt m n ∙ is_gt-nat_cmp m n

pub eq_text : (s t : List ℕ) → compares Eq (Text s) (Text t) ≡ bytes_eq s t
unfolding binary
eq_text s t = of_truth _ ∙ ap is_eq (value_cmp-Text s t) ∙ is_eq-slice_cmp s t

-- serial numbers compare as their bytes, and so does 0, which is below all
below_order : (a b : ℕ) → a < 2 ^ 159 → b < 2 ^ 159 → slice_cmp nat_cmp (serial_bytes a) (serial_bytes b) ≡ nat_cmp a b
unfolding serial_bytes
below_order a b in_a in_b =
    let first : value (bytes_high_first 20 a) ≡ a = value-bytes20 a (omega arith) in
    let second : value (bytes_high_first 20 b) ≡ b = value-bytes20 b (omega arith) in
    let order = bytes_order (bytes_high_first 20 a) (bytes_high_first 20 b) (is_bytes-bytes_high_first 20 a) (is_bytes-bytes_high_first 20 b) refl in
    order ∙ ap (λ m. nat_cmp m (value (bytes_high_first 20 b))) first ∙ ap (nat_cmp a) second

pub serial_order : (a b : ℕ) → IsSerial a → IsSerial b → slice_cmp nat_cmp (serial_bytes a) (serial_bytes b) ≡ nat_cmp a b
serial_order a b in_a in_b = below_order a b in_a.1 in_b.1

pub eq_serial : (a b : ℕ) → IsSerial a → IsSerial b → compares Eq (serial_value a) (serial_value b) ≡ (a == b)
unfolding binary
eq_serial a b in_a in_b = of_truth _ ∙ ap is_eq (value_cmp-Blob (serial_bytes a) (serial_bytes b) ∙ serial_order a b in_a in_b) ∙ is_eq-nat_cmp a b

pub gt_serial : (a b : ℕ) → IsSerial a → b < 2 ^ 159 → compares Gt (serial_value a) (serial_value b) ≡ nat_lt b a
unfolding binary
gt_serial a b in_a in_b = of_truth _ ∙ ap is_gt (value_cmp-Blob (serial_bytes a) (serial_bytes b) ∙ below_order a b in_a.1 in_b) ∙ is_gt-nat_cmp a b

-- a serial number is known by its bytes
pub serial_injective : (a b : ℕ) → IsSerial a → IsSerial b → serial_bytes a ≡ serial_bytes b → a ≡ b
unfolding serial_bytes
serial_injective a b in_a in_b same =
    let first : value (bytes_high_first 20 a) ≡ a = value-bytes20 a (omega arith) in
    let second : value (bytes_high_first 20 b) ≡ b = value-bytes20 b (omega arith) in
    sym first ∙ ap value same ∙ second

pub number_order : (m n : ℕ) → value_cmp (number m) (number n) ≡ nat_cmp m n
number_order m n = value_cmp-Int (pos m) (pos n) ∙ as_numbers m n
