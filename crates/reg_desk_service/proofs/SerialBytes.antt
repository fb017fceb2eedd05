-- The serial number before one, byte by byte.
use Rattle.std.proofs.Common.{◌≡◌, ◌≢◌, ℕ, zero, suc, ◌+◌, ◌-◌, ◌*◌, ◌^◌, ◌<◌, ◌≤◌, List, [], ◌∷◌, length, get_or, set, Option, None, Some, sym, ap, subst, ◌∙◌, arith, inl, inr}
use Rattle.std.specs.Prelude.{MatchOption}
use Rattle.std.specs.Int.{bytes_high_first}
use Rattle.std.proofs.lemmas.Bool.{cases_lt}
use Rattle.std.proofs.Math.Nat.{pow-succ'}
use Rattle.std.proofs.lemmas.List.{length-set}
use Rattle.reg_core.specs.Integer.{IsBytes, value}
use Rattle.reg_core.specs.Serial.{IsSerial, serial_bytes}
use Rattle.reg_core.proofs.PublicLaws.{is_bytes-bytes_high_first, octets_are_below, octets_are_lowest, octets_are_places, one_spelling, value-bytes20}
use Rattle.reg_core.specs.AscendingRows.{key_of}

-- one of the bytes is written anew; `unit` is what it counts in its place
pub value_set : (unit : ℕ) (xs : List ℕ) (i y : ℕ) → i < length xs → unit ≡ 256 ^ (length xs - 1 - i)
    → value (set xs i y) + get_or xs i 0 * unit ≡ value xs + y * unit
value_set unit [] i y inside is = absurd (omega (arith, inside))
value_set unit (x ∷ xs) zero y inside is =
    let place : length (x ∷ xs) - 1 - 0 ≡ length xs = omega arith in
    let same : unit ≡ 256 ^ length xs = is ∙ ap (λ n. 256 ^ n) place in
    let old : value (x ∷ xs) ≡ x * unit + value xs = octets_are_places x xs ∙ ap (λ u. x * u + value xs) (sym same) in
    let new : value (y ∷ xs) ≡ y * unit + value xs = octets_are_places y xs ∙ ap (λ u. y * u + value xs) (sym same) in
    omega (arith, old, new)
value_set unit (x ∷ xs) (suc i) y inside is =
    let place : length (x ∷ xs) - 1 - suc i ≡ length xs - 1 - i = omega arith in
    let rest = value_set unit xs i y (omega (arith, inside)) (is ∙ ap (λ n. 256 ^ n) place) in
    let old = octets_are_places x xs in
    let new : value (x ∷ set xs i y) ≡ x * 256 ^ length xs + value (set xs i y) =
    octets_are_places x (set xs i y) ∙ ap (λ n. x * 256 ^ n + value (set xs i y)) (length-set xs i y) in
    omega (arith, rest, old, new)

pow_next : (place : ℕ) → 256 ^ (place + 1) ≡ 256 * 256 ^ place
pow_next place =
    let one : place + 1 ≡ suc place = omega arith in
    ap (λ n. 256 ^ n) one ∙ pow-succ' 256 place

is_bytes-set : (xs : List ℕ) (i y : ℕ) → y < 256 → IsBytes xs → IsBytes (set xs i y)
is_bytes-set [] zero y small each j = each j
is_bytes-set [] (suc i) y small each j = each j
is_bytes-set (x ∷ xs) zero y small each zero = small
is_bytes-set (x ∷ xs) zero y small each (suc j) = each (suc j)
is_bytes-set (x ∷ xs) (suc i) y small each zero = each 0
is_bytes-set (x ∷ xs) (suc i) y small each (suc j) = is_bytes-set xs i y small (λ k. each (suc k)) j

-- one was taken from each of so many of the lowest of 20 bytes, which were zeros
abbrev pub IsBorrowing : ℕ → ℕ → List ℕ → Type 0
IsBorrowing serial place bytes = (length bytes ≡ 20) × IsBytes bytes × (value bytes + 1 ≡ serial + 256 ^ place)

pub begins : (bytes : List ℕ) (serial : ℕ) → bytes ≡ serial_bytes serial → value bytes ≡ serial → IsBorrowing serial 0 bytes
unfolding serial_bytes
begins bytes serial is spelled = (
  ap length is ∙ (octets_are_lowest 20 serial).counted,
  subst IsBytes (sym is) (is_bytes-bytes_high_first 20 serial),
  omega (arith, spelled),
)

-- a byte more that is none
pub borrows : (bytes : List ℕ) (place serial : ℕ) → IsBorrowing serial place bytes → place < 20 → get_or bytes (19 - place) 0 ≤ 0
    → IsBorrowing serial (place + 1) (set bytes (19 - place) 255)
borrows bytes place serial so more none =
    let unit = 256 ^ place in
    let size = so.0 in
    let places : place ≡ length bytes - 1 - (19 - place) = omega (arith, size, more) in
    let written = value_set unit bytes (19 - place) 255 (omega (arith, size, more)) (ap (λ n. 256 ^ n) places) in
    let is_none : get_or bytes (19 - place) 0 ≡ 0 = omega (arith, none) in
    let nothing : get_or bytes (19 - place) 0 * unit ≡ 0 * unit = ap (λ n. n * unit) is_none in
    let next : 256 ^ (place + 1) ≡ 256 * 256 ^ place = pow_next place in
    let spelled = so.2 in
    (length-set bytes (19 - place) 255 ∙ size, is_bytes-set bytes (19 - place) 255 (omega arith) so.1, omega (arith, written, nothing, next, spelled))

-- the first byte that is one gives it
lessened : (bytes : List ℕ) (place serial less : ℕ) → IsBorrowing serial place bytes → place < 20
    → get_or bytes (19 - place) 0 ≡ less + 1 → value (set bytes (19 - place) less) + 1 ≡ serial
lessened bytes place serial less so more has =
    let unit = 256 ^ place in
    let size = so.0 in
    let places : place ≡ length bytes - 1 - (19 - place) = omega (arith, size, more) in
    let written = value_set unit bytes (19 - place) less (omega (arith, size, more)) (ap (λ n. 256 ^ n) places) in
    let one : get_or bytes (19 - place) 0 * unit ≡ (less + 1) * unit = ap (λ n. n * unit) has in
    let spelled = so.2 in
    omega (arith, written, one, spelled)

-- there is one
pub never_ends : (bytes : List ℕ) (place serial : ℕ) → IsBorrowing serial place bytes → place ≡ 20 → IsSerial serial → 0 ≡ serial - 1
never_ends bytes place serial so end range =
    let below : value bytes < 256 ^ 20 = rw so.0 at (octets_are_below bytes so.1) in
    let spelled : value bytes + 1 ≡ serial + 256 ^ 20 = so.2 ∙ ap (λ n. serial + 256 ^ n) end in
    omega (arith, below, spelled)

before_read : (result : Option ℕ) (bytes : List ℕ) (serial : ℕ) → IsBytes bytes → length bytes ≡ 20 → IsSerial serial → value bytes + 1 ≡ serial
    → MatchOption result ((n : ℕ) → IsSerial n → bytes ≢ serial_bytes n) (λ n. IsSerial n × (bytes ≡ serial_bytes n)) → key_of result ≡ serial - 1
unfolding serial_bytes
before_read (Some n) bytes serial each size range is read =
    let spelled : value bytes ≡ n = ap value read.1 ∙ value-bytes20 n (omega (arith, read.0.1)) in
    omega (arith, spelled, is)
before_read None bytes serial each size range is read = elim (cases_lt 1 serial) [
  | inl more ↦
      let n = serial - 1 in
      let in_range : IsSerial n = (omega (arith, more), omega (arith, range.1)) in
      let spelled : value (bytes_high_first 20 n) ≡ n = value-bytes20 n (omega (arith, in_range.1)) in
      let same : bytes ≡ bytes_high_first 20 n =
      one_spelling bytes (bytes_high_first 20 n) each (is_bytes-bytes_high_first 20 n) (size ∙ sym (octets_are_lowest 20 n).counted)
      (omega (arith, spelled, is, more)) in
      absurd (read n in_range same)
  | inr least ↦ omega (arith, range.0, least)
]

pub reads_before : (result : Option ℕ) (bytes : List ℕ) (place serial : ℕ) → IsBorrowing serial place bytes → place < 20 → 0 < get_or bytes (19 - place) 0
    → IsSerial serial
    → MatchOption result ((n : ℕ) → IsSerial n → set bytes (19 - place) (get_or bytes (19 - place) 0 - 1) ≢ serial_bytes n)
    (λ n. IsSerial n × (set bytes (19 - place) (get_or bytes (19 - place) 0 - 1) ≡ serial_bytes n))
    → key_of result ≡ serial - 1
reads_before result bytes place serial so more some range read =
    let less = get_or bytes (19 - place) 0 - 1 in
    let has : get_or bytes (19 - place) 0 ≡ less + 1 = omega (arith, some) in
    let small : less < 256 = let each = so.1 (19 - place) in omega (arith, each) in
    before_read result (set bytes (19 - place) less) serial (is_bytes-set bytes (19 - place) less small so.1) (length-set bytes (19 - place) less ∙ so.0) range
    (lessened bytes place serial less so more has) read
