-- Serial numbers: their halves, their bytes and their text.
use Rattle.std.proofs.Common.{◌≡◌, ℕ, ◌+◌, ◌-◌, ◌*◌, ◌/◌, ◌%◌, ◌^◌, ◌<◌, ◌≤◌, Bool, true, false, ◌&&◌, eqb, List, [], ◌∷◌, ◌++◌, length, get_or, take, drop, slice_index, refl, sym, ap, subst, ◌∙◌, arith, length-append}
use Rattle.std.specs.Prelude.{Option, Some, None, SomeIff, MatchOption, Result, Ok, Err, IsOk, OnOk, ◌↔◌, nat_le, nat_lt}
use Rattle.std.specs.Char.{digit_value, is_digit}
use Rattle.std.specs.Cmp.Lexicographic.{slice_cmp}
use Rattle.std.specs.Int.{bytes_high_first}
use Rattle.std.specs.List.{list_all}
use Rattle.std.specs.Ordering.{nat_cmp}
use Rattle.std.specs.Str.Parse.{AllDigits, digits_value}
use Rattle.std.proofs.Math.Nat.{mod-eq_of_lt, pow-succ'}
use Rattle.std.proofs.lemmas.Nat.{mul-pow, pow-add}
use Rattle.std.proofs.lemmas.Bool.{agree_below_at, and_parts, false≢true, eqb-true, le-leb, leb-true, lt-ltb, ltb-true}
use Rattle.std.proofs.lemmas.List.{take-append-drop}
use Rattle.hex.specs.Hex.{encode_lower, encode_with, lower_digits}
use Rattle.hex.proofs.HexLemmas.{length-encode_with}
use Rattle.reg_core.specs.Integer.{IsBytes, IsInteger, IsShortest, integer, value}
use Rattle.reg_core.specs.Serial.{IsSerial, IsSerialText, is_serial_text, serial_bytes, serial_of, serial_text}
use Rattle.reg_core.proofs.Digits.{digits-append, digits-back, digits-front, digits-test, digits_value-cons, digits_value-split, test-digits}
use Rattle.reg_core.proofs.Integers.{bytes_high_first-is, bytes_order, integer-is, integer_only, is_bytes-append, is_bytes-bytes_high_first, is_bytes-tail, length-below_20, length-bytes_high_first, value-append, value-cons, value-bytes20, value-bytes_high_first}

-- ---- the text that is read

pub serial_text-test : (text : List ℕ) (n : ℕ) → IsSerialText text n → is_serial_text text ≡ true
serial_text-test text n is =
    let e = is.spelled in
    let some : 1 ≤ digits_value 16 text = rw e is.in_range.0 in
    let small : digits_value 16 text < 2 ^ 159 = rw e is.in_range.1 in
    rw (le-leb 1 (length text) is.not_empty, le-leb (length text) 40 is.short, digits-test 16 text is.digits, le-leb 1 (digits_value 16 text) some, lt-ltb (digits_value 16 text) (2 ^ 159) small) refl

pub test-serial_text : (text : List ℕ) → is_serial_text text ≡ true → IsSerialText text (digits_value 16 text)
test-serial_text text is =
    let lengths = nat_le 1 (length text) && nat_le (length text) 40 in
    let digits = list_all (λ code. is_digit code 16) text in
    let some = nat_le 1 (digits_value 16 text) in
    let e0 = and_parts (lengths && digits && some) (nat_lt (digits_value 16 text) (2 ^ 159)) is in
    let e1 = and_parts (lengths && digits) some e0.0 in
    let e2 = and_parts lengths digits e1.0 in
    let e3 = and_parts (nat_le 1 (length text)) (nat_le (length text) 40) e2.0 in
    record {
      not_empty = leb-true 1 (length text) e3.0;
      short = leb-true (length text) 40 e3.1;
      digits = test-digits 16 text e2.1;
      spelled = refl;
      in_range = (leb-true 1 (digits_value 16 text) e1.1, ltb-true (digits_value 16 text) (2 ^ 159) e0.1);
    }

-- a text that writes a serial number gives it
pub serial_of-some : (text : List ℕ) (n : ℕ) → IsSerialText text n → serial_of text ≡ Some n
unfolding serial_of
serial_of-some text n is = rw (serial_text-test text n is) (ap Some is.spelled)

none_at : (text : List ℕ) → ((n : ℕ) → ¬ IsSerialText text n) → (b : Bool) → is_serial_text text ≡ b → serial_of text ≡ None
unfolding serial_of
none_at text never true e = absurd (never (digits_value 16 text) (test-serial_text text e))
none_at text never false e = rw e refl

-- a text that writes none gives none
pub serial_of-none : (text : List ℕ) → ((n : ℕ) → ¬ IsSerialText text n) → serial_of text ≡ None
serial_of-none text never = none_at text never (is_serial_text text) refl

-- what is read is what `serial_of` gives
pub serial_of-read : (r : Option ℕ) (text : List ℕ) → MatchOption r ((n : ℕ) → ¬ IsSerialText text n) (IsSerialText text) → r ≡ serial_of text
serial_of-read (Some n) text h = sym (serial_of-some text n h)
serial_of-read None text h = sym (serial_of-none text h)

-- digits that are none on either side of a part
pub no_front : (mid : ℕ) (text : List ℕ) → (AllDigits 16 (take mid text) → ⊥) → (n : ℕ) → ¬ IsSerialText text n
no_front mid text bad n is = bad (digits-front 16 (take mid text) (drop mid text) (rw (take-append-drop mid text) is.digits))

pub no_back : (mid : ℕ) (text : List ℕ) → (AllDigits 16 (drop mid text) → ⊥) → (n : ℕ) → ¬ IsSerialText text n
no_back mid text bad n is = bad (digits-back 16 (take mid text) (drop mid text) (rw (take-append-drop mid text) is.digits))

-- two parts of digits
pub halves_read : (r : Option ℕ) (mid high low : ℕ) (text : List ℕ) → 1 ≤ length text → length text ≤ 40 → mid ≡ length text - 32
    → AllDigits 16 (take mid text) × (high ≡ digits_value 16 (take mid text)) → AllDigits 16 (drop mid text) × (low ≡ digits_value 16 (drop mid text))
    → SomeIff r (IsSerial (high * 2 ^ 128 + low)) (high * 2 ^ 128 + low)
    → MatchOption r ((n : ℕ) → ¬ IsSerialText text n) (IsSerialText text)
halves_read r mid high low text some short at front back read =
    let digits : AllDigits 16 text = subst (AllDigits 16) (take-append-drop mid text) (digits-append 16 (take mid text) (drop mid text) front.0 back.0) in
    let whole : high * 2 ^ 128 + low ≡ digits_value 16 text =
    ap (λ (x : ℕ). x * 2 ^ 128 + low) front.1 ∙ ap (λ (x : ℕ). digits_value 16 (take mid text) * 2 ^ 128 + x) back.1 ∙ digits_value-split 16 32 mid text at in
    at_result r digits (subst (λ (v : ℕ). SomeIff r (IsSerial v) v) whole read)
  where
    at_result : (o : Option ℕ) → AllDigits 16 text → SomeIff o (IsSerial (digits_value 16 text)) (digits_value 16 text)
        → MatchOption o ((n : ℕ) → ¬ IsSerialText text n) (IsSerialText text)
    at_result (Some n) digits h = record { not_empty = some; short = short; digits = digits; spelled = sym h.1; in_range = rw h.1 h.0 }
    at_result None digits h = λ n is. h (rw is.spelled is.in_range)

-- ---- bytes

-- the same fact and the same value in other words
pub some_iff : (r : Option ℕ) (P Q : Type 0) (v w : ℕ) → SomeIff r P v → (P → Q) → (Q → P) → v ≡ w → SomeIff r Q w
some_iff (Some n) P Q v w h to from e = (to h.0, h.1 ∙ e)
some_iff None P Q v w h to from e = λ q. h (from q)

-- 20 bytes that write a number are its bytes
pub serial_bytes-is : (bs : List ℕ) (n : ℕ) → IsBytes bs → length bs ≡ 20 → value bs ≡ n → bs ≡ serial_bytes n
unfolding serial_bytes
serial_bytes-is bs n each len is = bytes_high_first-is 20 n bs each len is

pub length-serial_bytes : (n : ℕ) → length (serial_bytes n) ≡ 20
unfolding serial_bytes
length-serial_bytes n = length-bytes_high_first 20 n

pub is_bytes-serial_bytes : (n : ℕ) → IsBytes (serial_bytes n)
unfolding serial_bytes
is_bytes-serial_bytes n = is_bytes-bytes_high_first 20 n

pub value-serial_bytes : (n : ℕ) → n < 2 ^ 160 → value (serial_bytes n) ≡ n
unfolding serial_bytes
value-serial_bytes n h = value-bytes20 n h

-- different numbers have different bytes
pub serial_bytes_injective : (m n : ℕ) → m < 2 ^ 160 → n < 2 ^ 160 → serial_bytes m ≡ serial_bytes n → m ≡ n
serial_bytes_injective m n hm hn e = sym (value-serial_bytes m hm) ∙ ap value e ∙ value-serial_bytes n hn

-- bytes compare as the numbers do, so a column of them in ascending order is in ascending order of serial
pub serial_bytes-order : (m n : ℕ) → m < 2 ^ 160 → n < 2 ^ 160 → slice_cmp nat_cmp (serial_bytes m) (serial_bytes n) ≡ nat_cmp m n
serial_bytes-order m n hm hn =
    bytes_order (serial_bytes m) (serial_bytes n) (is_bytes-serial_bytes m) (is_bytes-serial_bytes n) (length-serial_bytes m ∙ sym (length-serial_bytes n))
    ∙ ap (λ (a : ℕ). nat_cmp a (value (serial_bytes n))) (value-serial_bytes m hm) ∙ ap (nat_cmp m) (value-serial_bytes n hn)

-- the bytes of two halves
pub halves_bytes : (high low n : ℕ) (xs ys : List ℕ) → xs ≡ bytes_high_first 4 high → ys ≡ bytes_high_first 16 low → high < 2 ^ 31 → low < 2 ^ 128
    → high * 2 ^ 128 + low ≡ n → xs ++ ys ≡ serial_bytes n
halves_bytes high low n xs ys ex ey hx hy is =
    let vx : value xs ≡ high = ap value ex ∙ value-bytes_high_first 4 high ∙ mod-eq_of_lt (omega arith) in
    let vy : value ys ≡ low = ap value ey ∙ value-bytes_high_first 16 low ∙ mod-eq_of_lt (omega arith) in
    let lx : length xs ≡ 4 = ap length ex ∙ length-bytes_high_first 4 high in
    let ly : length ys ≡ 16 = ap length ey ∙ length-bytes_high_first 16 low in
    let bx : IsBytes xs = subst IsBytes (sym ex) (is_bytes-bytes_high_first 4 high) in
    let by_low : IsBytes ys = subst IsBytes (sym ey) (is_bytes-bytes_high_first 16 low) in
    let whole : value (xs ++ ys) ≡ n =
    value-append xs ys ∙ ap (λ (x : ℕ). x * 256 ^ length ys + value ys) vx ∙ ap (λ (x : ℕ). high * 256 ^ length ys + x) vy
    ∙ ap (λ (k : ℕ). high * 256 ^ k + low) ly ∙ is in
    serial_bytes-is (xs ++ ys) n (is_bytes-append xs ys bx by_low) (omega (arith, length-append xs ys)) whole

-- 20 bytes are those of the serial number that they write
pub bytes_read : (r : Option ℕ) (bs : List ℕ) → IsBytes bs → length bs ≡ 20 → SomeIff r ((length bs ≤ 20) × IsSerial (value bs)) (value bs)
    → MatchOption r ((n : ℕ) → IsSerial n → bs ≡ serial_bytes n → ⊥) (λ n. IsSerial n × (bs ≡ serial_bytes n))
bytes_read (Some n) bs each len h = (rw h.1 h.0.1, serial_bytes-is bs n each len (sym h.1))
bytes_read None bs each len h = λ n range e.
    let is : value bs ≡ n = ap value e ∙ value-serial_bytes n (omega (arith, range.1)) in
    h (omega arith, rw is range)

-- bytes of another count are those of none
pub bytes_none : (bs : List ℕ) → (length bs ≡ 20 → ⊥) → (n : ℕ) → IsSerial n → bs ≡ serial_bytes n → ⊥
bytes_none bs other n range e = other (ap length e ∙ length-serial_bytes n)

-- ---- INTEGER contents octets

-- what is no INTEGER of a serial number is not the octets of one
pub octets_none : (octets : List ℕ) → ((n : ℕ) → IsSerial n → ¬ IsInteger octets n) → (n : ℕ) → IsSerial n → octets ≡ integer n → ⊥
octets_none octets never n range e = never n range (subst (λ (o : List ℕ). IsInteger o n) (sym e) (integer-is n (omega (arith, range.1))))

-- the octets of the number that was read
pub octets_read : (r : Option ℕ) (octets : List ℕ) → MatchOption r ((n : ℕ) → IsSerial n → ¬ IsInteger octets n) (λ n. IsSerial n × IsInteger octets n)
    → MatchOption r ((n : ℕ) → IsSerial n → octets ≡ integer n → ⊥) (λ n. octets ≡ integer n)
octets_read (Some n) octets h = integer_only octets n (omega (arith, h.0.1)) h.1
octets_read None octets h = octets_none octets h

-- octets that are the fewest, with a clear first bit
pub integer_read : (r : Option ℕ) (octets : List ℕ) → IsBytes octets → IsShortest octets → get_or octets 0 0 < 128
    → SomeIff r ((length octets ≤ 20) × IsSerial (value octets)) (value octets)
    → MatchOption r ((n : ℕ) → IsSerial n → ¬ IsInteger octets n) (λ n. IsSerial n × IsInteger octets n)
integer_read (Some n) octets each shortest clear h =
    (rw h.1 h.0.1, record { each_byte = each; shortest = shortest; not_negative = clear; spelled = sym h.1 })
integer_read None octets each shortest clear h = λ n range is. h (length-below_20 octets n range.1 is, rw is.spelled range)

-- ---- the text that is written

-- the place of a digit in the table is its value
table_reads : (d : ℕ) → d < 16 → digit_value (slice_index lower_digits d) ≡ d
table_reads d h =
    eqb-true (digit_value (slice_index lower_digits d)) d (agree_below_at (λ k. eqb (digit_value (slice_index lower_digits k)) k) (λ _. true) 16 d refl h)

pub digits-encode_lower : (bs : List ℕ) → IsBytes bs → AllDigits 16 (encode_lower bs)
unfolding encode_with
digits-encode_lower [] h = tt
digits-encode_lower (b ∷ bs) h =
    let fits : b < 256 = h 0 in
    let high = table_reads (b / 16) (omega arith) in
    let low = table_reads (b % 16) (omega arith) in
    (rw high (omega arith), (rw low (omega arith), digits-encode_lower bs (is_bytes-tail b bs h)))

-- two digits count as one byte
pub digits_value-encode_lower : (bs : List ℕ) → IsBytes bs → digits_value 16 (encode_lower bs) ≡ value bs
unfolding encode_with
digits_value-encode_lower [] h = refl
digits_value-encode_lower (b ∷ bs) h =
    let fits : b < 256 = h 0 in
    let rest = encode_lower bs in
    let high = table_reads (b / 16) (omega arith) in
    let low = table_reads (b % 16) (omega arith) in
    let tail = digits_value-encode_lower bs (is_bytes-tail b bs h) in
    let count : length rest ≡ length bs + length bs = omega (arith, length-encode_with lower_digits bs) in
    let unit : 16 ^ length rest ≡ 256 ^ length bs = ap (λ (k : ℕ). 16 ^ k) count ∙ pow-add 16 (length bs) (length bs) ∙ sym (mul-pow 16 16 (length bs)) in
    let whole : b / 16 * 16 + b % 16 ≡ b = omega arith in
    let scaled : (b / 16 * 16 + b % 16) * 256 ^ length bs ≡ b * 256 ^ length bs = ap (λ (x : ℕ). x * 256 ^ length bs) whole in
    let first = digits_value-cons 16 (slice_index lower_digits (b / 16)) (slice_index lower_digits (b % 16) ∷ rest) in
    let second = digits_value-cons 16 (slice_index lower_digits (b % 16)) rest in
    first ∙ rw (second, high, low, pow-succ' 16 (length rest), unit, tail, value-cons b bs) (omega (arith, scaled))

-- the text of a serial number writes it
pub serial_text-is : (n : ℕ) → IsSerial n → IsSerialText (serial_text n) n
unfolding serial_text
serial_text-is n range =
    let each = is_bytes-serial_bytes n in
    let len = length-encode_with lower_digits (serial_bytes n) in
    let count = length-serial_bytes n in
    record {
      not_empty = omega arith;
      short = omega arith;
      digits = digits-encode_lower (serial_bytes n) each;
      spelled = digits_value-encode_lower (serial_bytes n) each ∙ value-serial_bytes n (omega (arith, range.1));
      in_range = range;
    }

-- what `encode_to_slice` writes of the bytes of a serial number
pub encoded_text : {E : Type 0} (r : Result (Unit {0}) E) (text bytes : List ℕ) (n : ℕ) → bytes ≡ serial_bytes n → (IsOk r ↔ (40 ≡ 2 * length bytes)) → OnOk r (text ≡ encode_lower bytes)
    → text ≡ serial_text n
unfolding serial_text
encoded_text (Ok u) text bytes n is fits written = written ∙ ap encode_lower is
encoded_text (Err e) text bytes n is fits written =
    let count : 40 ≡ 2 * length bytes = omega (arith, ap length is, length-serial_bytes n) in
    absurd (false≢true (fits.1 count))
