-- Decimal numbers and their text: what is read, and that it reads back.
use Rattle.std.proofs.Common.{◌≡◌, ℕ, ◌+◌, ◌-◌, ◌/◌, ◌%◌, ◌^◌, ◌<◌, ◌≤◌, Bool, true, false, ◌&&◌, List, [], ◌∷◌, ◌++◌, length, take, drop, set, replicate, refl, sym, ap, ◌∙◌, arith, append_assoc, length-append, length-set}
use Rattle.std.specs.Prelude.{Some, None, nat_le}
use Rattle.std.specs.Char.{is_digit}
use Rattle.std.specs.List.{list_all}
use Rattle.std.specs.Str.Parse.{AllDigits, digits_value}
use Rattle.std.specs.Fmt.{decimal}
use Rattle.std.proofs.Math.Nat.{pow-le-pow_right}
use Rattle.std.proofs.lemmas.Bool.{and_parts, le-leb, leb-true}
use Rattle.std.proofs.lemmas.List.{append-nil, drop-set, take-append-drop, take-replicate, take-set, take-take}
use Rattle.std.proofs.lemmas.Fmt.{decimal_digit, decimal_is_IsNumeral, decimal_nonempty, decimal_step, length-decimal-le}
use Rattle.std.proofs.lemmas.Int.Digits.{digits_value-lt}
use Rattle.reg_core.specs.Number.{IsNumberText, is_number_text, number_of}
use Rattle.reg_core.proofs.Digits.{digits-test, test-digits}

-- ---- what is read

pub number_text-test : (text : List ℕ) (n : ℕ) → IsNumberText text n → is_number_text text ≡ true
number_text-test text n is = rw (le-leb 1 (length text) is.not_empty, le-leb (length text) 18 is.short, digits-test 10 text is.digits) refl

pub test-number_text : (text : List ℕ) → is_number_text text ≡ true → IsNumberText text (digits_value 10 text)
test-number_text text is =
    let parts = and_parts (nat_le 1 (length text) && nat_le (length text) 18) (list_all (λ code. is_digit code 10) text) is in
    let lengths = and_parts (nat_le 1 (length text)) (nat_le (length text) 18) parts.0 in
    record { not_empty = leb-true 1 (length text) lengths.0; short = leb-true (length text) 18 lengths.1; digits = test-digits 10 text parts.1; spelled = refl }

-- a text that writes a number gives it
pub number_of-some : (text : List ℕ) (n : ℕ) → IsNumberText text n → number_of text ≡ Some n
unfolding number_of
number_of-some text n is = rw (number_text-test text n is) (ap Some is.spelled)

none_at : (text : List ℕ) → ((n : ℕ) → ¬ IsNumberText text n) → (b : Bool) → is_number_text text ≡ b → number_of text ≡ None
unfolding number_of
none_at text never true e = absurd (never (digits_value 10 text) (test-number_text text e))
none_at text never false e = rw e refl

-- a text that writes none gives none
pub number_of-none : (text : List ℕ) → ((n : ℕ) → ¬ IsNumberText text n) → number_of text ≡ None
number_of-none text never = none_at text never (is_number_text text) refl

-- a number that is read is below 10^18
pub number-lt : (text : List ℕ) (n : ℕ) → IsNumberText text n → n < 10 ^ 18
number-lt text n is =
    let below = digits_value-lt 10 text is.digits in
    let count : 10 ^ length text ≤ 10 ^ 18 = pow-le-pow_right {n = 10} (omega arith) {i = length text} {j = 18} is.short in
    let spelled = is.spelled in
    omega arith

-- ---- the text of a number

-- the text of a `u64` has 20 digits at most
pub length-decimal : (n : ℕ) → n < 2 ^ 64 → length (decimal n) ≤ 20
length-decimal n h = length-decimal-le 20 n (omega arith) (omega arith) h

-- and that of a number below 10^18 has 18
pub length-decimal_number : (n : ℕ) → n < 10 ^ 18 → length (decimal n) ≤ 18
length-decimal_number n h = length-decimal-le 18 n (omega arith) h (omega arith)

pub decimal-some : (n : ℕ) → n < 2 ^ 64 → 1 ≤ length (decimal n)
decimal-some n h = decimal_nonempty n h

pub decimal-digits : (n : ℕ) → n < 2 ^ 64 → AllDigits 10 (decimal n)
decimal-digits n h = (decimal_is_IsNumeral n h).0.1

-- it reads as the number
pub digits_value-decimal : (n : ℕ) → n < 2 ^ 64 → digits_value 10 (decimal n) ≡ n
digits_value-decimal n h = (decimal_is_IsNumeral n h).1

pub decimal-is : (n : ℕ) → n < 10 ^ 18 → IsNumberText (decimal n) n
decimal-is n h =
    record { not_empty = decimal-some n (omega arith); short = length-decimal_number n h; digits = decimal-digits n (omega arith); spelled = digits_value-decimal n (omega arith) }

-- ---- the digits from the last to the first

-- the room after zeros, with one digit more in front
pub record PutsDigit (bytes : List ℕ) (start digit : ℕ) : Type 0 where
  pub text : drop (start - 1) (set bytes (start - 1) digit) ≡ digit ∷ drop start bytes
  pub front : take (start - 1) (set bytes (start - 1) digit) ≡ replicate (start - 1) 0

pub puts_digit : (bytes : List ℕ) (start digit : ℕ) → 1 ≤ start → start ≤ length bytes → take start bytes ≡ replicate start 0 → PutsDigit bytes start digit
puts_digit bytes start digit some within zeros =
    let last : start - 1 + 1 ≡ start = omega arith in
    let below : start - 1 ≤ start = omega arith in record {
      text = drop-set bytes (start - 1) digit (omega arith) ∙ ap (λ (k : ℕ). digit ∷ drop k bytes) last;
      front =
          take-set bytes (start - 1) digit ∙ sym (take-take (start - 1) start bytes below) ∙ ap (take (start - 1)) zeros
          ∙ take-replicate (start - 1) start 0 below;
    }

-- a number of two digits or more is its front and its last digit
pub length-decimal_step : (n : ℕ) → 10 ≤ n → n < 2 ^ 64 → length (decimal n) ≡ length (decimal (n / 10)) + 1
length-decimal_step n many h = ap length (decimal_step n many h) ∙ length-append (decimal (n / 10)) ((48 + n % 10) ∷ [])

-- what holds before each digit but the last is written: the digits so far stand at the end, with room for the others
pub record Writes (number rest start : ℕ) (bytes : List ℕ) : Type 0 where
  pub size : length bytes ≡ 20
  pub within : start ≤ 20
  pub room : length (decimal rest) ≤ start
  pub text : decimal rest ++ drop start bytes ≡ decimal number
  pub front : take start bytes ≡ replicate start 0

pub writes_none : (number : ℕ) → number < 2 ^ 64 → Writes number number 20 (replicate 20 0)
writes_none number h = record { size = refl; within = omega arith; room = length-decimal number h; text = append-nil (decimal number); front = refl }

pub writes_more : (number rest start : ℕ) (bytes : List ℕ) → Writes number rest start bytes → 10 ≤ rest → rest < 2 ^ 64
    → Writes number (rest / 10) (start - 1) (set bytes (start - 1) (48 + rest % 10))
writes_more number rest start bytes w many h =
    let long = length-decimal_step rest many h in
    let some = decimal-some (rest / 10) (omega arith) in
    let size = w.size in
    let within = w.within in
    let room = w.room in
    let put = puts_digit bytes start (48 + rest % 10) (omega arith) (omega arith) w.front in record {
      size = length-set bytes (start - 1) (48 + rest % 10) ∙ size;
      within = omega arith;
      room = omega arith;
      text =
          ap (λ (s : List ℕ). decimal (rest / 10) ++ s) put.text
          ∙ sym (append_assoc (decimal (rest / 10)) ((48 + rest % 10) ∷ []) (drop start bytes))
          ∙ ap (λ (s : List ℕ). s ++ drop start bytes) (sym (decimal_step rest many h)) ∙ w.text;
      front = put.front;
    }

-- the whole text, with the first digit
pub record Written (number start : ℕ) (bytes : List ℕ) : Type 0 where
  pub size : length bytes ≡ 20
  pub within : start ≤ 20
  pub text : drop start bytes ≡ decimal number
  pub zeros : bytes ≡ replicate start 0 ++ drop start bytes

pub writes_last : (number rest start : ℕ) (bytes : List ℕ) → Writes number rest start bytes → rest < 10
    → Written number (start - 1) (set bytes (start - 1) (48 + rest))
writes_last number rest start bytes w one =
    let digit = decimal_digit rest one in
    let size = w.size in
    let within = w.within in
    let room : 1 ≤ start = omega (arith, w.room, ap length digit) in
    let put = puts_digit bytes start (48 + rest) room (omega arith) w.front in record {
      size = length-set bytes (start - 1) (48 + rest) ∙ size;
      within = omega arith;
      text = put.text ∙ ap (λ (s : List ℕ). s ++ drop start bytes) (sym digit) ∙ w.text;
      zeros =
          sym (take-append-drop (start - 1) (set bytes (start - 1) (48 + rest)))
          ∙ ap (λ (s : List ℕ). s ++ drop (start - 1) (set bytes (start - 1) (48 + rest))) put.front;
    }
