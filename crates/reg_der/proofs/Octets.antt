-- Octets, and the numbers that they spell up to leading zeros.
use Rattle.std.proofs.Common.{◌≡◌, ℕ, zero, suc, ◌+◌, ◌*◌, ◌^◌, ◌<◌, ◌≤◌, List, [], ◌∷◌, ◌++◌, length, get_or, take, drop, replicate, refl, sym, ap, ◌∙◌, arith, inl, inr}
use Rattle.std.proofs.Math.Nat.{pow-le-pow_right}
use Rattle.std.proofs.lemmas.Int.Digits.{number_more}
use Rattle.std.proofs.lemmas.Bool.{cases_lt}
use Rattle.std.proofs.lemmas.List.{length-append, length-replicate, length-take, get_or-drop, get_or_past, get_or_append_left}
use Rattle.reg_core.specs.Integer.{IsBytes, value, without_zeros}
use Rattle.reg_core.proofs.PublicLaws.{octets_are_places, octets_are_below, one_spelling, is_bytes-cons, is_bytes-tail, is_bytes-take, is_bytes-append}

-- ---- bytes

pub is_bytes-drop : (n : ℕ) (bytes : List ℕ) → IsBytes bytes → IsBytes (drop n bytes)
is_bytes-drop n bytes h i = rw get_or-drop (h (n + i))

pub is_bytes-append_left : (xs ys : List ℕ) → IsBytes (xs ++ ys) → IsBytes xs
is_bytes-append_left xs ys h i =
    elim (cases_lt i (length xs)) [
      | inl lt ↦ rw (← get_or_append_left xs ys 0 i lt) (h i)
      | inr le ↦ rw (get_or_past xs i 0 le) (omega arith)
    ]

pub is_bytes-append_right : (xs ys : List ℕ) → IsBytes (xs ++ ys) → IsBytes ys
is_bytes-append_right [] ys h = h
is_bytes-append_right (x ∷ xs) ys h = is_bytes-append_right xs ys (is_bytes-tail x (xs ++ ys) h)

is_bytes-zeros : (n : ℕ) → IsBytes (replicate n 0)
is_bytes-zeros zero i = omega arith
is_bytes-zeros (suc n) i = is_bytes-cons 0 (replicate n 0) (omega arith) (is_bytes-zeros n) i

-- ---- the number that a loop over octets comes to

-- one octet more
pub value-take_more : (octets : List ℕ) (i : ℕ) → i < length octets → value (take (i + 1) octets) ≡ value (take i octets) * 256 + get_or octets i 0
value-take_more octets i lt = number_more 256 octets i lt

-- before the last of four octets it is below 2^24
pub value-fits : (octets : List ℕ) (i : ℕ) → IsBytes octets → length octets ≤ 4 → i < length octets → value (take i octets) < 16777216
value-fits octets i h few lt =
    let below = octets_are_below (take i octets) (is_bytes-take i octets h) in
    let places : 256 ^ length (take i octets) ≤ 256 ^ 3 = pow-le-pow_right {n = 256} (omega arith) {i = length (take i octets)} {j = 3} (omega (arith, length-take i octets)) in
    omega arith

-- ---- leading zeros

value-zeros : (n : ℕ) (octets : List ℕ) → value (replicate n 0 ++ octets) ≡ value octets
value-zeros zero octets = refl
value-zeros (suc n) octets = octets_are_places 0 (replicate n 0 ++ octets) ∙ let ih = value-zeros n octets in omega (arith, ih)

without_zeros-zeros : (n : ℕ) (octets : List ℕ) → without_zeros (replicate n 0 ++ octets) ≡ without_zeros octets
without_zeros-zeros zero octets = refl
without_zeros-zeros (suc n) octets = without_zeros-zeros n octets

pub length-without_zeros : (octets : List ℕ) → length (without_zeros octets) ≤ length octets
length-without_zeros [] = omega arith
length-without_zeros (zero ∷ octets) = let ih = length-without_zeros octets in omega (arith, ih)
length-without_zeros (suc octet ∷ octets) = omega arith

pub is_bytes-without_zeros : (octets : List ℕ) → IsBytes octets → IsBytes (without_zeros octets)
is_bytes-without_zeros [] h = h
is_bytes-without_zeros (zero ∷ octets) h = is_bytes-without_zeros octets (is_bytes-tail 0 octets h)
is_bytes-without_zeros (suc octet ∷ octets) h = h

-- octets whose first is above zero stay
pub without_zeros-leads : (octets : List ℕ) → 0 < get_or octets 0 0 → without_zeros octets ≡ octets
without_zeros-leads [] h = refl
without_zeros-leads (zero ∷ octets) h = absurd (omega arith)
without_zeros-leads (suc octet ∷ octets) h = refl

-- what is left without zeros leads above zero
pub without_zeros-first : (octets : List ℕ) → 0 < length (without_zeros octets) → 0 < get_or (without_zeros octets) 0 0
without_zeros-first [] h = absurd (omega arith)
without_zeros-first (zero ∷ octets) h = without_zeros-first octets h
without_zeros-first (suc octet ∷ octets) h = omega arith

-- octets that spell one number are the same up to leading zeros
pub same_digits : (xs ys : List ℕ) → IsBytes xs → IsBytes ys → value xs ≡ value ys → without_zeros xs ≡ without_zeros ys
same_digits xs ys hx hy same =
    let long_x = replicate (length ys) 0 ++ xs in
    let long_y = replicate (length xs) 0 ++ ys in
    let len : length long_x ≡ length long_y = omega (arith, length-append (replicate (length ys) 0) xs, length-append (replicate (length xs) 0) ys, length-replicate {A = ℕ} (length ys) 0, length-replicate {A = ℕ} (length xs) 0) in
    let number : value long_x ≡ value long_y = value-zeros (length ys) xs ∙ same ∙ sym (value-zeros (length xs) ys) in
    let one = one_spelling long_x long_y (is_bytes-append (replicate (length ys) 0) xs (is_bytes-zeros (length ys)) hx) (is_bytes-append (replicate (length xs) 0) ys (is_bytes-zeros (length xs)) hy) len number in
    sym (without_zeros-zeros (length ys) xs) ∙ ap without_zeros one ∙ without_zeros-zeros (length xs) ys
