-- The number that digits of any base write: digit by digit, and in two parts.
use Rattle.std.proofs.Common.{◌≡◌, ℕ, true, suc, zero, ◌+◌, ◌*◌, ◌^◌, ◌<◌, ◌≤◌, List, [], ◌∷◌, ◌++◌, ◌-◌, length, map, get_or, take, drop, inl, inr, refl, sym, ap, ◌∙◌, arith}
use Rattle.std.proofs.Math.Nat.{pow-succ', pow-zero, pow-le-pow_left, pow-le-pow_right, add-mul, mul_assoc, zero-mul}
use Rattle.std.proofs.lemmas.List.{length-take, length-drop, length-map, map-append, take-append-drop}
use Rattle.std.specs.Char.{digit_value, is_digit}
use Rattle.std.specs.List.{list_all}
use Rattle.std.proofs.lemmas.Bool.{and_parts, cases_lt, lt-ltb, ltb-true}
use Rattle.std.specs.Str.Parse.{AllDigits, digits_value}
use Rattle.std.specs.Int.Digits.{number_from_digits, number_from_digits_after}
use Rattle.std.proofs.lemmas.Int.Digits.{number_after_append, digits_value-lt, digits_value_is, digits_value_more, digits_more}

-- the digits so far count by the room that the further digits take
pub number_after-split : (b n : ℕ) (ds : List ℕ) → number_from_digits_after b n ds ≡ n * b ^ length ds + number_from_digits b ds
number_after-split b n [] =
    let one : b ^ 0 ≡ 1 = pow-zero b in
    let zero_digits : number_from_digits b [] ≡ 0 = refl in
    let whole : number_from_digits_after b n [] ≡ n = refl in
    rw one (omega arith)
number_after-split b n (d ∷ ds) =
    let here = number_after-split b (n * b + d) ds in
    let alone = number_after-split b (0 * b + d) ds in
    let room : b ^ suc (length ds) ≡ b * b ^ length ds = pow-succ' b (length ds) in
    let parts : (n * b + d) * b ^ length ds ≡ n * b * b ^ length ds + d * b ^ length ds = add-mul (n * b) d (b ^ length ds) in
    let whole : n * b * b ^ length ds ≡ n * (b * b ^ length ds) = mul_assoc n b (b ^ length ds) in
    let first : (0 * b + d) * b ^ length ds ≡ d * b ^ length ds = ap (λ (x : ℕ). x * b ^ length ds) (omega arith) in
    rw room (omega (arith, here, alone, parts, whole, first))

pub number-cons : (b d : ℕ) (ds : List ℕ) → number_from_digits b (d ∷ ds) ≡ d * b ^ length ds + number_from_digits b ds
number-cons b d ds =
    let first : 0 * b + d ≡ d = omega arith in
    ap (λ (x : ℕ). number_from_digits_after b x ds) first ∙ number_after-split b d ds

pub number-append : (b : ℕ) (xs ys : List ℕ) → number_from_digits b (xs ++ ys) ≡ number_from_digits b xs * b ^ length ys + number_from_digits b ys
number-append b xs ys = number_after_append b 0 xs ys ∙ number_after-split b (number_from_digits b xs) ys

-- a byte that is no digit makes a text no number
pub not_digits : (radix : ℕ) (bs : List ℕ) (i : ℕ) → i < length bs → radix ≤ digit_value (get_or bs i 0) → AllDigits radix bs → ⊥
not_digits radix [] i h bad digits = absurd (omega arith)
not_digits radix (b ∷ bs) zero h bad digits = let good = digits.0 in absurd (omega arith)
not_digits radix (b ∷ bs) (suc i) h bad digits = not_digits radix bs i (omega arith) bad digits.1

-- 32 digits of a base up to 16 write a number below 2^128
pub digits-fit : (radix : ℕ) (bs : List ℕ) → radix ≤ 16 → length bs ≤ 32 → AllDigits radix bs → digits_value radix bs < 2 ^ 128
digits-fit radix bs h short digits =
    let below = digits_value-lt radix bs digits in
    let base : radix ^ length bs ≤ 16 ^ length bs = pow-le-pow_left h (length bs) in
    let count : 16 ^ length bs ≤ 16 ^ 32 = pow-le-pow_right {n = 16} (omega arith) {i = length bs} {j = 32} (omega arith) in
    omega arith

-- one digit more
pub record ReadsOn (radix : ℕ) (bs : List ℕ) (i : ℕ) (number : ℕ) : Type 0 where
  pub digits : AllDigits radix (take (i + 1) bs)
  pub value : number ≡ digits_value radix (take (i + 1) bs)
  pub fits : number < 2 ^ 128

pub reads_on : (radix : ℕ) (bs : List ℕ) (i number digit : ℕ) → radix ≤ 16 → length bs ≤ 32 → i < length bs
    → AllDigits radix (take i bs) → number ≡ digits_value radix (take i bs) → digit ≡ digit_value (get_or bs i 0) → digit < radix
    → ReadsOn radix bs i (number * radix + digit)
reads_on radix bs i number digit h short within digits value is small =
    let below : digit_value (get_or bs i 0) < radix = omega arith in
    let more = digits_more radix bs i within digits below in
    let step = digits_value_more radix bs i within in
    let same : number * radix + digit ≡ digits_value radix (take (i + 1) bs) = ap (λ (x : ℕ). x * radix + digit) value ∙ ap (λ (x : ℕ). digits_value radix (take i bs) * radix + x) is ∙ sym step in
    let room = digits-fit radix (take (i + 1) bs) h (omega (arith, length-take (i + 1) bs)) more in
    record { digits = more; value = same; fits = omega arith }

-- two parts of a text
pub digits-append : (radix : ℕ) (xs ys : List ℕ) → AllDigits radix xs → AllDigits radix ys → AllDigits radix (xs ++ ys)
digits-append radix [] ys hx hy = hy
digits-append radix (x ∷ xs) ys hx hy = (hx.0, digits-append radix xs ys hx.1 hy)

pub digits-front : (radix : ℕ) (xs ys : List ℕ) → AllDigits radix (xs ++ ys) → AllDigits radix xs
digits-front radix [] ys h = tt
digits-front radix (x ∷ xs) ys h = (h.0, digits-front radix xs ys h.1)

pub digits-back : (radix : ℕ) (xs ys : List ℕ) → AllDigits radix (xs ++ ys) → AllDigits radix ys
digits-back radix [] ys h = h
digits-back radix (x ∷ xs) ys h = digits-back radix xs ys h.1

pub digits_value-append : (radix : ℕ) (xs ys : List ℕ) → digits_value radix (xs ++ ys) ≡ digits_value radix xs * radix ^ length ys + digits_value radix ys
digits_value-append radix xs ys =
    rw (digits_value_is radix (xs ++ ys), digits_value_is radix xs, digits_value_is radix ys, map-append, number-append, length-map) refl

-- ---- the test of each digit

pub digits-test : (radix : ℕ) (bs : List ℕ) → AllDigits radix bs → list_all (λ code. is_digit code radix) bs ≡ true
digits-test radix [] h = refl
digits-test radix (b ∷ bs) h = rw (lt-ltb (digit_value b) radix h.0, digits-test radix bs h.1) refl

pub test-digits : (radix : ℕ) (bs : List ℕ) → list_all (λ code. is_digit code radix) bs ≡ true → AllDigits radix bs
test-digits radix [] h = tt
test-digits radix (b ∷ bs) h =
    let parts = and_parts (is_digit b radix) (list_all (λ code. is_digit code radix) bs) h in
    (ltb-true (digit_value b) radix parts.0, test-digits radix bs parts.1)

-- a text parted before the last k digits
pub digits_value-split : (radix k mid : ℕ) (text : List ℕ) → mid ≡ length text - k
    → digits_value radix (take mid text) * radix ^ k + digits_value radix (drop mid text) ≡ digits_value radix text
digits_value-split radix k mid text e =
    let parts : digits_value radix text ≡ digits_value radix (take mid text) * radix ^ length (drop mid text) + digits_value radix (drop mid text) =
    ap (digits_value radix) (sym (take-append-drop mid text)) ∙ digits_value-append radix (take mid text) (drop mid text) in
    let count = length-drop mid text in
    elim (cases_lt (length text) k) [
      | inl few ↦
          let none : mid ≡ 0 = omega arith in
          let front : digits_value radix (take mid text) ≡ 0 = ap (λ (j : ℕ). digits_value radix (take j text)) none in
          let left : digits_value radix (take mid text) * radix ^ k ≡ 0 * radix ^ k = ap (λ (x : ℕ). x * radix ^ k) front in
          let right : digits_value radix (take mid text) * radix ^ length (drop mid text) ≡ 0 * radix ^ length (drop mid text) =
          ap (λ (x : ℕ). x * radix ^ length (drop mid text)) front in
          omega (arith, zero-mul (radix ^ k), zero-mul (radix ^ length (drop mid text)))
      | inr many ↦
          let exact : length (drop mid text) ≡ k = omega arith in
          rw exact at (sym parts)
    ]

pub digits_value-cons : (radix c : ℕ) (cs : List ℕ) → digits_value radix (c ∷ cs) ≡ digit_value c * radix ^ length cs + digits_value radix cs
digits_value-cons radix c cs =
    digits_value_is radix (c ∷ cs) ∙ number-cons radix (digit_value c) (map digit_value cs)
    ∙ rw (length-map, digits_value_is radix cs) refl
