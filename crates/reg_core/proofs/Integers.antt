-- Laws of INTEGER contents octets: they spell their number in the fewest octets, and no other octets do.
use Rattle.std.proofs.Common.{◌≡◌, ℕ, suc, zero, ◌+◌, ◌-◌, ◌*◌, ◌%◌, ◌/◌, ◌^◌, ◌<◌, ◌≤◌, inl, inr, true, false, cond, List, [], ◌∷◌, ◌++◌, length, get_or, take, drop, refl, sym, ap, subst, ◌∙◌, arith}
use Rattle.std.specs.Prelude.{nat_lt}
use Rattle.std.proofs.lemmas.List.{length-take, length-drop, take-append-drop}
use Rattle.std.specs.Cmp.Lexicographic.{slice_cmp}
use Rattle.std.specs.Ordering.{nat_cmp, ordering_then}
use Rattle.std.specs.declared.cmp.Ordering.{Ordering}
use Rattle.std.specs.declared.cmp.Ordering.TheVariants.{Less, Equal, Greater}
use Rattle.std.proofs.lemmas.Bool.{cases_lt, cases_order, eq-eqb, ne_eqb, lt-ltb, le-ltb}
use Rattle.std.proofs.Math.Nat.{pow-succ', pow-le-pow_right, one-le-pow, mul-le-mul_right, mod-eq_of_lt, div-one}
use Rattle.std.proofs.Math.Arith.{mod-mul}
use Rattle.std.specs.Int.{byte_at, bytes_high_first}
use Rattle.std.specs.Int.Digits.{AllBelowBase}
use Rattle.std.proofs.lemmas.Int.Digits.{number_lt, number_more}
use Rattle.reg_core.specs.Integer.{IsBytes, IsInteger, integer, value, with_clear_bit, without_zeros}
use Rattle.reg_core.proofs.Digits.{number-append, number-cons}

-- ---- bytes

pub is_bytes-cons : (b : ℕ) (bs : List ℕ) → b < 256 → IsBytes bs → IsBytes (b ∷ bs)
is_bytes-cons b bs h hs zero = h
is_bytes-cons b bs h hs (suc i) = hs i

pub is_bytes-tail : (b : ℕ) (bs : List ℕ) → IsBytes (b ∷ bs) → IsBytes bs
is_bytes-tail b bs h i = h (suc i)

pub is_bytes-below : (bs : List ℕ) → IsBytes bs → AllBelowBase 256 bs
is_bytes-below [] h = tt
is_bytes-below (b ∷ bs) h = (h 0, is_bytes-below bs (is_bytes-tail b bs h))

-- ---- the number that bytes write

pub value-cons : (b : ℕ) (bs : List ℕ) → value (b ∷ bs) ≡ b * 256 ^ length bs + value bs
value-cons b bs = number-cons 256 b bs

pub value-append : (xs ys : List ℕ) → value (xs ++ ys) ≡ value xs * 256 ^ length ys + value ys
value-append xs ys = number-append 256 xs ys

pub value-lt : (bs : List ℕ) → IsBytes bs → value bs < 256 ^ length bs
value-lt bs h = number_lt 256 bs (is_bytes-below bs h)

-- a digit and a rest below its unit are told by their sum
same_parts : (unit a b x y : ℕ) → x < unit → y < unit → a * unit + x ≡ b * unit + y → (a ≡ b) × (x ≡ y)
same_parts unit a b x y hx hy e = elim (cases_lt a b) [
  | inl less ↦
      let more : (a + 1) * unit ≤ b * unit = mul-le-mul_right unit (omega arith) in
      absurd (omega arith)
  | inr least ↦ elim (cases_lt b a) [
    | inl less ↦
        let more : (b + 1) * unit ≤ a * unit = mul-le-mul_right unit (omega arith) in
        absurd (omega arith)
    | inr most ↦
        let same : a ≡ b = omega arith in
        let scaled : a * unit ≡ b * unit = ap (λ (k : ℕ). k * unit) same in
        (same, omega arith)
  ]
]

-- as many bytes that write the same number are the same bytes
pub same_bytes : (xs ys : List ℕ) → IsBytes xs → IsBytes ys → length xs ≡ length ys → value xs ≡ value ys → xs ≡ ys
same_bytes [] [] hx hy len e = refl
same_bytes [] (y ∷ ys) hx hy len e = absurd (omega arith)
same_bytes (x ∷ xs) [] hx hy len e = absurd (omega arith)
same_bytes (x ∷ xs) (y ∷ ys) hx hy len e =
    let inner : length xs ≡ length ys = omega arith in
    let room : 256 ^ length xs ≡ 256 ^ length ys = ap (λ (k : ℕ). 256 ^ k) inner in
    let tx = is_bytes-tail x xs hx in
    let ty = is_bytes-tail y ys hy in
    let below_x : value xs < 256 ^ length ys = let h = value-lt xs tx in omega arith in
    let sums : x * 256 ^ length ys + value xs ≡ y * 256 ^ length ys + value ys =
    ap (λ (u : ℕ). x * u + value xs) (sym room) ∙ sym (value-cons x xs) ∙ e ∙ value-cons y ys in
    let parts = same_parts (256 ^ length ys) x y (value xs) (value ys) below_x (value-lt ys ty) sums in
    let rest = same_bytes xs ys tx ty inner parts.1 in
    let first = parts.0 in
    cc

-- ---- the lowest bytes of a number

pub length-bytes_high_first : (k n : ℕ) → length (bytes_high_first k n) ≡ k
length-bytes_high_first zero n = refl
length-bytes_high_first (suc k) n = let e = length-bytes_high_first k n in omega (arith, e)

byte_at-lt : (k n : ℕ) → byte_at k n < 256
byte_at-lt zero n = omega arith
byte_at-lt (suc k) n = omega arith

pub is_bytes-bytes_high_first : (k n : ℕ) → IsBytes (bytes_high_first k n)
is_bytes-bytes_high_first zero n i = omega arith
is_bytes-bytes_high_first (suc k) n zero = byte_at-lt k n
is_bytes-bytes_high_first (suc k) n (suc i) = is_bytes-bytes_high_first k n i

byte_at-div : (k n : ℕ) → byte_at k n ≡ n / 256 ^ k % 256
byte_at-div zero n = ap (λ (m : ℕ). m % 256) (sym (div-one n))
byte_at-div (suc k) n = refl

pub value-bytes_high_first : (k n : ℕ) → value (bytes_high_first k n) ≡ n % 256 ^ k
value-bytes_high_first zero n = omega arith
value-bytes_high_first (suc k) n =
    let some : 0 < 256 ^ k = one-le-pow k 256 (omega arith) in
    let split = mod-mul n {m = 256} {c = 256 ^ k} (omega arith) some in
    let rest = value-bytes_high_first k n in
    value-cons (byte_at k n) (bytes_high_first k n)
    ∙ rw (length-bytes_high_first k n, rest, byte_at-div k n, pow-succ' 256 k, split) refl

-- what 20 bytes hold is the number itself
pub value-bytes20 : (n : ℕ) → n < 2 ^ 160 → value (bytes_high_first 20 n) ≡ n
value-bytes20 n h = value-bytes_high_first 20 n ∙ mod-eq_of_lt (omega arith)

-- bytes are the lowest bytes of the number that they write
pub bytes_high_first-value : (bs : List ℕ) → IsBytes bs → bytes_high_first (length bs) (value bs) ≡ bs
bytes_high_first-value bs h =
    let len = length-bytes_high_first (length bs) (value bs) in
    let same : value (bytes_high_first (length bs) (value bs)) ≡ value bs = value-bytes_high_first (length bs) (value bs) ∙ mod-eq_of_lt (value-lt bs h) in
    same_bytes _ bs (is_bytes-bytes_high_first (length bs) (value bs)) h len same

-- ---- zeros in front

pub value-without_zeros : (bs : List ℕ) → value (without_zeros bs) ≡ value bs
value-without_zeros [] = refl
value-without_zeros (zero ∷ bs) = value-without_zeros bs ∙ omega (arith, value-cons 0 bs)
value-without_zeros (suc b ∷ bs) = refl

is_bytes-without_zeros : (bs : List ℕ) → IsBytes bs → IsBytes (without_zeros bs)
is_bytes-without_zeros [] h = h
is_bytes-without_zeros (zero ∷ bs) h = is_bytes-without_zeros bs (is_bytes-tail 0 bs h)
is_bytes-without_zeros (suc b ∷ bs) h = h

length-without_zeros : (bs : List ℕ) → length (without_zeros bs) ≤ length bs
length-without_zeros [] = omega arith
length-without_zeros (zero ∷ bs) = let h = length-without_zeros bs in omega arith
length-without_zeros (suc b ∷ bs) = omega arith

-- the list is empty, or does not lead with 0
abbrev LeadsAboveZero : List ℕ → Type 0
LeadsAboveZero [] = Unit {0}
LeadsAboveZero (b ∷ bs) = 1 ≤ b

leads-without_zeros : (bs : List ℕ) → LeadsAboveZero (without_zeros bs)
leads-without_zeros [] = tt
leads-without_zeros (zero ∷ bs) = leads-without_zeros bs
leads-without_zeros (suc b ∷ bs) = omega arith

-- ---- the sign bit

-- what is left without zeros becomes an INTEGER
with_clear_bit-is : (bs : List ℕ) → IsBytes bs → LeadsAboveZero bs → IsInteger (with_clear_bit bs) (value bs)
with_clear_bit-is [] h leads = record { each_byte = is_bytes-cons 0 [] (omega arith) h; shortest = tt; not_negative = omega arith; spelled = refl }
with_clear_bit-is (b ∷ []) h leads = elim (cases_lt b 128) [
  | inl low ↦ rw (lt-ltb b 128 low) (record { each_byte = h; shortest = tt; not_negative = low; spelled = refl })
  | inr high ↦ rw (le-ltb b 128 high) (record {
    each_byte = is_bytes-cons 0 (b ∷ []) (omega arith) h;
    shortest = (λ _. high, λ e. absurd (omega arith));
    not_negative = omega arith;
    spelled = omega (arith, value-cons 0 (b ∷ []));
  })
]
with_clear_bit-is (b ∷ c ∷ bs) h leads = elim (cases_lt b 128) [
  | inl low ↦ rw (lt-ltb b 128 low) (record { each_byte = h; shortest = (λ e. absurd (omega arith), λ e. absurd (omega arith)); not_negative = low; spelled = refl })
  | inr high ↦ rw (le-ltb b 128 high) (record {
    each_byte = is_bytes-cons 0 (b ∷ c ∷ bs) (omega arith) h;
    shortest = (λ _. high, λ e. absurd (omega arith));
    not_negative = omega arith;
    spelled = omega (arith, value-cons 0 (b ∷ c ∷ bs));
  })
]

length-with_clear_bit : (bs : List ℕ) → length (with_clear_bit bs) ≤ length bs + 1
length-with_clear_bit [] = omega arith
length-with_clear_bit (b ∷ bs) = elim (nat_lt b 128) as (λ low. length (cond low (b ∷ bs) (0 ∷ b ∷ bs)) ≤ length (b ∷ bs) + 1) [
  | true ↦ omega arith
  | false ↦ omega arith
]

-- ---- the contents octets of an INTEGER

-- the octets of a number are its INTEGER (X.690 8.3)
pub integer-is : (n : ℕ) → n < 2 ^ 160 → IsInteger (integer n) n
unfolding integer
integer-is n h =
    let all = bytes_high_first 20 n in
    let is = with_clear_bit-is (without_zeros all) (is_bytes-without_zeros all (is_bytes-bytes_high_first 20 n)) (leads-without_zeros all) in
    let spells : value (without_zeros all) ≡ n = value-without_zeros all ∙ value-bytes20 n h in
    subst (λ (m : ℕ). IsInteger (with_clear_bit (without_zeros all)) m) spells is

-- they are 21 at most
pub length-integer : (n : ℕ) → length (integer n) ≤ 21
unfolding integer
length-integer n =
    let all = bytes_high_first 20 n in
    omega (arith, length-with_clear_bit (without_zeros all), length-without_zeros all, length-bytes_high_first 20 n)

-- octets whose first bit is clear write less than half of what as many could
below_half : (octets : List ℕ) (n : ℕ) → IsInteger octets n → n < 128 * 256 ^ (length octets - 1)
below_half [] n h = absurd h.shortest
below_half (b ∷ bs) n h =
    let low = h.not_negative in
    let rest = value-lt bs (is_bytes-tail b bs h.each_byte) in
    let front : (b + 1) * 256 ^ length bs ≤ 128 * 256 ^ length bs = mul-le-mul_right (256 ^ length bs) (omega arith) in
    let spelled : n ≡ b * 256 ^ length bs + value bs = sym h.spelled ∙ value-cons b bs in
    let one_less : suc (length bs) - 1 ≡ length bs = omega arith in
    rw one_less (omega arith)

-- octets that are the fewest write at least half of what one octet less could
above_half : (octets : List ℕ) (n : ℕ) → IsInteger octets n → 2 ≤ length octets → 128 * 256 ^ (length octets - 2) ≤ n
above_half [] n h two = absurd (omega arith)
above_half (b ∷ []) n h two = absurd (omega arith)
above_half (b ∷ c ∷ bs) n h two =
    let unit = 256 ^ length bs in
    let spelled : n ≡ b * (256 * unit) + (c * unit + value bs) =
    sym h.spelled ∙ value-cons b (c ∷ bs) ∙ ap (λ (x : ℕ). b * 256 ^ suc (length bs) + x) (value-cons c bs)
    ∙ ap (λ (x : ℕ). b * x + (c * unit + value bs)) (pow-succ' 256 (length bs)) in
    let two_less : suc (suc (length bs)) - 2 ≡ length bs = omega arith in
    let goal : 128 * unit ≤ n = elim (cases_lt b 1) [
      | inl none ↦
          let first : b ≡ 0 = omega arith in
          let second : 128 ≤ c = h.shortest.0 first in
          let large : 128 * unit ≤ c * unit = mul-le-mul_right unit second in
          omega arith
      | inr some ↦
          let large : 1 * (256 * unit) ≤ b * (256 * unit) = mul-le-mul_right (256 * unit) some in
          omega arith
    ] in
    rw two_less goal

-- fewer octets than that many write a smaller number
no_longer : (xs ys : List ℕ) (n : ℕ) → IsInteger xs n → IsInteger ys n → length xs < length ys → ⊥
no_longer [] ys n hx hy less = absurd hx.shortest
no_longer (x ∷ xs) ys n hx hy less =
    let upper : n < 128 * 256 ^ (length (x ∷ xs) - 1) = below_half (x ∷ xs) n hx in
    let lower : 128 * 256 ^ (length ys - 2) ≤ n = above_half ys n hy (omega arith) in
    let powers : 256 ^ (length (x ∷ xs) - 1) ≤ 256 ^ (length ys - 2) = pow-le-pow_right {n = 256} (omega arith) {i = length (x ∷ xs) - 1} {j = length ys - 2} (omega arith) in
    absurd (omega arith)

-- a number has one INTEGER
pub one_integer : (xs ys : List ℕ) (n : ℕ) → IsInteger xs n → IsInteger ys n → xs ≡ ys
one_integer xs ys n hx hy =
    let same : value xs ≡ value ys = hx.spelled ∙ sym hy.spelled in
    elim (cases_lt (length xs) (length ys)) [
      | inl less ↦ absurd (no_longer xs ys n hx hy less)
      | inr least ↦ elim (cases_lt (length ys) (length xs)) [
        | inl less ↦ absurd (no_longer ys xs n hy hx less)
        | inr most ↦ same_bytes xs ys hx.each_byte hy.each_byte (omega arith) same
      ]
    ]

-- the fewest octets, with a clear first bit, that write a number are `integer` of it
pub integer_only : (octets : List ℕ) (n : ℕ) → n < 2 ^ 160 → IsInteger octets n → octets ≡ integer n
integer_only octets n h is = one_integer octets (integer n) n is (integer-is n h)

-- the INTEGER of a serial number takes at most 20 octets (RFC 5280 4.1.2.2)
pub length-below_20 : (octets : List ℕ) (n : ℕ) → n < 2 ^ 159 → IsInteger octets n → length octets ≤ 20
length-below_20 octets n h is = elim (cases_lt 20 (length octets)) [
  | inl more ↦
      let lower = above_half octets n is (omega arith) in
      let powers : 256 ^ 19 ≤ 256 ^ (length octets - 2) = pow-le-pow_right {n = 256} (omega arith) {i = 19} {j = length octets - 2} (omega arith) in
      absurd (omega arith)
  | inr few ↦ few
]

-- different numbers have different INTEGERs
pub integer_injective : (m n : ℕ) → m < 2 ^ 160 → n < 2 ^ 160 → integer m ≡ integer n → m ≡ n
integer_injective m n hm hn e = sym (integer-is m hm).spelled ∙ ap value e ∙ (integer-is n hn).spelled

-- ---- a number read byte by byte

pub is_bytes-take : (k : ℕ) (bs : List ℕ) → IsBytes bs → IsBytes (take k bs)
is_bytes-take zero bs h i = omega arith
is_bytes-take (suc k) [] h i = omega arith
is_bytes-take (suc k) (b ∷ bs) h zero = h 0
is_bytes-take (suc k) (b ∷ bs) h (suc i) = is_bytes-take k bs (is_bytes-tail b bs h) i

-- one byte more, of 16 at most
pub record ReadsByte (bs : List ℕ) (i : ℕ) (number : ℕ) : Type 0 where
  pub value : number ≡ value (take (i + 1) bs)
  pub fits : number < 2 ^ 128

pub reads_byte : (bs : List ℕ) (i number : ℕ) → IsBytes bs → length bs ≤ 16 → i < length bs → number ≡ value (take i bs)
    → ReadsByte bs i (number * 256 + get_or bs i 0)
reads_byte bs i number each short within is =
    let same : number * 256 + get_or bs i 0 ≡ value (take (i + 1) bs) = ap (λ (x : ℕ). x * 256 + get_or bs i 0) is ∙ sym (number_more 256 bs i within) in
    let below = value-lt (take (i + 1) bs) (is_bytes-take (i + 1) bs each) in
    let count = length-take (i + 1) bs in
    let powers : 256 ^ length (take (i + 1) bs) ≤ 256 ^ 16 = pow-le-pow_right {n = 256} (omega arith) {i = length (take (i + 1) bs)} {j = 16} (omega arith) in
    record { value = same; fits = omega arith }

pub is_bytes-append : (xs ys : List ℕ) → IsBytes xs → IsBytes ys → IsBytes (xs ++ ys)
is_bytes-append [] ys hx hy = hy
is_bytes-append (x ∷ xs) ys hx hy = is_bytes-cons x (xs ++ ys) (hx 0) (is_bytes-append xs ys (is_bytes-tail x xs hx) hy)

-- k bytes that write n are the lowest k bytes of n
pub bytes_high_first-is : (k n : ℕ) (bs : List ℕ) → IsBytes bs → length bs ≡ k → value bs ≡ n → bs ≡ bytes_high_first k n
bytes_high_first-is k n bs each len is = sym (bytes_high_first-value bs each) ∙ ap (λ (j : ℕ). bytes_high_first j (value bs)) len ∙ ap (bytes_high_first k) is

-- bytes parted before the last k
pub value-split : (k mid : ℕ) (bs : List ℕ) → mid ≡ length bs - k → value (take mid bs) * 256 ^ k + value (drop mid bs) ≡ value bs
value-split k mid bs e =
    let parts : value bs ≡ value (take mid bs) * 256 ^ length (drop mid bs) + value (drop mid bs) =
    ap value (sym (take-append-drop mid bs)) ∙ value-append (take mid bs) (drop mid bs) in
    let count = length-drop mid bs in
    elim (cases_lt (length bs) k) [
      | inl few ↦
          let none : mid ≡ 0 = omega arith in
          let front : value (take mid bs) ≡ 0 = ap (λ (j : ℕ). value (take j bs)) none in
          let left : value (take mid bs) * 256 ^ k ≡ 0 * 256 ^ k = ap (λ (x : ℕ). x * 256 ^ k) front in
          let right : value (take mid bs) * 256 ^ length (drop mid bs) ≡ 0 * 256 ^ length (drop mid bs) = ap (λ (x : ℕ). x * 256 ^ length (drop mid bs)) front in
          omega arith
      | inr many ↦
          let exact : length (drop mid bs) ≡ k = omega arith in
          rw exact at (sym parts)
    ]

-- ---- the order of bytes is the order of the numbers that they write

nat_cmp-less : (m n : ℕ) → m < n → nat_cmp m n ≡ Less
nat_cmp-less m n h = rw (lt-ltb m n h) refl

nat_cmp-more : (m n : ℕ) → n < m → nat_cmp m n ≡ Greater
nat_cmp-more m n h = rw (le-ltb m n (omega arith), ne_eqb m n (λ e. omega arith)) refl

nat_cmp-same : (m n : ℕ) → m ≡ n → nat_cmp m n ≡ Equal
nat_cmp-same m n e = rw (le-ltb m n (omega arith), eq-eqb m n e) refl

nat_cmp-add : (a m n : ℕ) → nat_cmp (a + m) (a + n) ≡ nat_cmp m n
nat_cmp-add a m n = elim (cases_order m n) [
  | inl same ↦ nat_cmp-same (a + m) (a + n) (omega arith) ∙ sym (nat_cmp-same m n same)
  | inr (inl less) ↦ nat_cmp-less (a + m) (a + n) (omega arith) ∙ sym (nat_cmp-less m n less)
  | inr (inr more) ↦ nat_cmp-more (a + m) (a + n) (omega arith) ∙ sym (nat_cmp-more m n more)
]

-- as many bytes compare, byte by byte, as their numbers do
pub bytes_order : (xs ys : List ℕ) → IsBytes xs → IsBytes ys → length xs ≡ length ys → slice_cmp nat_cmp xs ys ≡ nat_cmp (value xs) (value ys)
bytes_order [] [] hx hy len = sym (nat_cmp-same 0 0 refl)
bytes_order [] (y ∷ ys) hx hy len = absurd (omega arith)
bytes_order (x ∷ xs) [] hx hy len = absurd (omega arith)
bytes_order (x ∷ xs) (y ∷ ys) hx hy len =
    let inner : length xs ≡ length ys = omega arith in
    let unit = 256 ^ length ys in
    let tx = is_bytes-tail x xs hx in
    let ty = is_bytes-tail y ys hy in
    let vx : value (x ∷ xs) ≡ x * unit + value xs = value-cons x xs ∙ ap (λ (k : ℕ). x * 256 ^ k + value xs) inner in
    let vy : value (y ∷ ys) ≡ y * unit + value ys = value-cons y ys in
    let below_x : value xs < unit = subst (λ (k : ℕ). value xs < 256 ^ k) inner (value-lt xs tx) in
    let below_y : value ys < unit = value-lt ys ty in
    elim (cases_order x y) [
      | inl same ↦
          let shifted : nat_cmp (value (x ∷ xs)) (value (y ∷ ys)) ≡ nat_cmp (value xs) (value ys) =
          ap (λ (a : ℕ). nat_cmp a (value (y ∷ ys))) vx ∙ ap (nat_cmp (x * unit + value xs)) vy
          ∙ ap (λ (d : ℕ). nat_cmp (x * unit + value xs) (d * unit + value ys)) (sym same) ∙ nat_cmp-add (x * unit) (value xs) (value ys) in
          ap (λ (r : Ordering). ordering_then r (slice_cmp nat_cmp xs ys)) (nat_cmp-same x y same) ∙ bytes_order xs ys tx ty inner ∙ sym shifted
      | inr (inl less) ↦
          let more : (x + 1) * unit ≤ y * unit = mul-le-mul_right unit (omega arith) in
          ap (λ (r : Ordering). ordering_then r (slice_cmp nat_cmp xs ys)) (nat_cmp-less x y less)
          ∙ sym (nat_cmp-less (value (x ∷ xs)) (value (y ∷ ys)) (omega arith))
      | inr (inr above) ↦
          let more : (y + 1) * unit ≤ x * unit = mul-le-mul_right unit (omega arith) in
          ap (λ (r : Ordering). ordering_then r (slice_cmp nat_cmp xs ys)) (nat_cmp-more x y above)
          ∙ sym (nat_cmp-more (value (x ∷ xs)) (value (y ∷ ys)) (omega arith))
    ]
