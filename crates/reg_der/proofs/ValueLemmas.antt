-- The two laws of `value_at` (it gives only values, and each value), and the lengths of values.
use Rattle.std.proofs.Common.{◌≡◌, ℕ, suc, ◌+◌, ◌-◌, ◌%◌, ◌^◌, ◌<◌, ◌≤◌, Bool, true, false, cond, ltb, eqb, ◌||◌, List, [], ◌∷◌, ◌++◌, length, get_or, take, drop, Option, Some, None, refl, sym, ap, subst, ◌∙◌, ◌⊎◌, append_assoc, arith, inl, inr}
use Rattle.std.specs.Int.{bytes_high_first}
use Rattle.std.proofs.Math.Nat.{mod-eq_of_lt, mod-lt, pow-le-pow_right}
use Rattle.std.proofs.lemmas.Bool.{cases_lt, ltb-false, le-ltb, lt-ltb, ne_eqb, eqb-false}
use Rattle.std.proofs.lemmas.List.{take_at, drop_at, take-append-drop, length-append, length-take, get_or-take, get_or_append_left}
use Rattle.reg_core.specs.Integer.{IsBytes, value, without_zeros}
use Rattle.reg_core.specs.Sequence.{◌>>=◌}
use Rattle.reg_der.specs.Der.{fewest, length_octets, tlv, IsTlv, IsLength, IsLongForm, NoTwoPrefixes, LengthIsFewest, ValuesHaveSizes}
use Rattle.reg_der.specs.ValueReading.{Parts, Takes, TakesValue, ReadsValues, EachValueIsRead, long_length_at, length_at, contents_at, value_at}
use Rattle.reg_core.proofs.PublicLaws.{octets_are_below, octets_are_lowest, one_spelling, zeros_count_nothing, is_bytes-cons, is_bytes-tail, is_bytes-take, is_bytes-append}
use Rattle.reg_der.proofs.Octets.{is_bytes-drop, is_bytes-without_zeros, without_zeros-leads, without_zeros-first, length-without_zeros, same_digits}

-- ---- steps of a reading that did not fail

-- the value of a step and of what followed it, for whoever goes on with both
pub bind_then : {A B P : Type 0} (read : Option A) (next : A → Option B) (y : B) → (read >>= next) ≡ Some y → ((x : A) → read ≡ Some x → next x ≡ Some y → P) → P
bind_then (Some x) next y e go = go x refl e
bind_then None next y e go = absurd cc

abbrev some : {A : Type 0} → A → Option A
some x = Some x

abbrev some_pair : Parts × List ℕ → Option (Parts × List ℕ)
some_pair x = Some x

pub some_is : {A : Type 0} (x y : A) → some x ≡ some y → x ≡ y
some_is x y e = cc

-- a test that refused nothing
pub kept : {A : Type 0} (b : Bool) (x : Option A) (y : A) → cond b None x ≡ Some y → (b ≡ false) × (x ≡ Some y)
kept true x y e = absurd cc
kept false x y e = (refl, e)

pub or_false : (a b : Bool) → (a || b) ≡ false → (a ≡ false) × (b ≡ false)
or_false true b e = absurd cc
or_false false b e = (refl, e)

pub Takes-then : (a x b y c : List ℕ) → Takes a x b → Takes b y c → Takes a (x ++ y) c
Takes-then a x b y c p q = record { parts = p.parts ∙ ap (λ (t : List ℕ). x ++ t) q.parts ∙ sym (append_assoc x y c); each = q.each }

-- ---- the fewest octets of a length

value-four : (size : ℕ) → size < 2 ^ 32 → value (bytes_high_first 4 size) ≡ size
value-four size fits = (octets_are_lowest 4 size).spelled ∙ mod-eq_of_lt (omega arith)

pub length-fewest : (size : ℕ) → length (fewest size) ≤ 4
unfolding fewest
length-fewest size = omega (arith, length-without_zeros (bytes_high_first 4 size), (octets_are_lowest 4 size).counted)

pub is_bytes-fewest : (size : ℕ) → IsBytes (fewest size)
unfolding fewest
is_bytes-fewest size = is_bytes-without_zeros (bytes_high_first 4 size) (octets_are_lowest 4 size).each_byte

pub value-fewest : (size : ℕ) → size < 2 ^ 32 → value (fewest size) ≡ size
unfolding fewest
value-fewest size fits = zeros_count_nothing (bytes_high_first 4 size) ∙ value-four size fits

-- digits that spell a size are its fewest octets but for leading zeros
pub fewest-digits : (digits : List ℕ) (size : ℕ) → IsBytes digits → size < 2 ^ 32 → value digits ≡ size → fewest size ≡ without_zeros digits
unfolding fewest
fewest-digits digits size each fits spelled =
    same_digits (bytes_high_first 4 size) digits (octets_are_lowest 4 size).each_byte each (value-four size fits ∙ sym spelled)

pub fewest-some : (size : ℕ) → size < 2 ^ 32 → 0 < size → 0 < length (fewest size)
fewest-some size fits some =
    let number = value-fewest size fits in
    elim (cases_lt 0 (length (fewest size))) [
      | inl lt ↦ lt
      | inr le ↦ absurd (let below = octets_are_below (fewest size) (is_bytes-fewest size) in
          let one : 256 ^ length (fewest size) ≡ 1 = ap (λ (n : ℕ). 256 ^ n) (let none : length (fewest size) ≡ 0 = omega arith in none) in
          omega arith)
    ]

pub fewest-first : (size : ℕ) → 0 < length (fewest size) → 0 < get_or (fewest size) 0 0
unfolding fewest
fewest-first size some = without_zeros-first (bytes_high_first 4 size) some

-- ---- lengths of values

pub length-length_octets : (size : ℕ) → length (length_octets size) ≤ 5
unfolding length_octets
length-length_octets size =
    elim (cases_lt size 128) [
      | inl lt ↦ rw (lt-ltb size 128 lt) (omega arith)
      | inr le ↦ rw (le-ltb size 128 le) (omega (arith, length-fewest size))
    ]

pub length_octets-some : (size : ℕ) → 1 ≤ length (length_octets size)
unfolding length_octets
length_octets-some size =
    elim (cases_lt size 128) [
      | inl lt ↦ rw (lt-ltb size 128 lt) (omega arith)
      | inr le ↦ rw (le-ltb size 128 le) (omega arith)
    ]

length_octets-short : (size : ℕ) → size < 128 → length_octets size ≡ size ∷ []
unfolding length_octets
length_octets-short size lt = rw (lt-ltb size 128 lt) refl

pub length-length_octets_short : (size : ℕ) → size < 128 → length (length_octets size) ≡ 1
unfolding length_octets
length-length_octets_short size lt = rw (lt-ltb size 128 lt) refl

length-tlv : (tag : ℕ) (contents : List ℕ) → length (tlv tag contents) ≡ 1 + length (length_octets (length contents)) + length contents
unfolding tlv
length-tlv tag contents = omega (arith, length-append (length_octets (length contents)) contents)

pub length-tlv_at_most : (tag : ℕ) (contents : List ℕ) → length (tlv tag contents) ≤ length contents + 6
length-tlv_at_most tag contents = omega (arith, length-tlv tag contents, length-length_octets (length contents))

pub length-tlv_at_least : (tag : ℕ) (contents : List ℕ) → length contents + 2 ≤ length (tlv tag contents)
length-tlv_at_least tag contents = omega (arith, length-tlv tag contents, length_octets-some (length contents))

pub length-tlv_short : (tag : ℕ) (contents : List ℕ) → length contents < 128 → length (tlv tag contents) ≡ length contents + 2
length-tlv_short tag contents lt = omega (arith, length-tlv tag contents, length-length_octets_short (length contents) lt)

pub value_size : ValuesHaveSizes
value_size tag contents = record { least = length-tlv_at_least tag contents; most = length-tlv_at_most tag contents; short = length-tlv_short tag contents }

-- ---- the length

-- the octets of a length above 127
length_octets-long : (size : ℕ) → 128 ≤ size → length_octets size ≡ (128 + length (fewest size)) ∷ fewest size
unfolding length_octets
length_octets-long size le = rw (le-ltb size 128 le) refl

abbrev refused_first : ℕ → List ℕ → Bool
refused_first count bytes = (eqb count 0 || ltb 4 count) || ltb (length bytes) count

abbrev refused_digits : ℕ → List ℕ → Bool
refused_digits count bytes = eqb (get_or bytes 0 0) 0 || ltb (value (take count bytes)) 128

-- the digits that a length above 127 was read from are its fewest
digits_fewest : (digits : List ℕ) → IsBytes digits → length digits ≤ 4 → 0 < get_or digits 0 0 → fewest (value digits) ≡ digits
digits_fewest digits each few first =
    let below = octets_are_below digits each in
    let places : 256 ^ length digits ≤ 256 ^ 4 = pow-le-pow_right {n = 256} (omega arith) {i = length digits} {j = 4} few in
    fewest-digits digits (value digits) each (omega arith) refl ∙ without_zeros-leads digits first

long_takes : (count : ℕ) (bytes : List ℕ) (x : ℕ × List ℕ) → IsBytes bytes → long_length_at count bytes ≡ Some x → Takes ((128 + count) ∷ bytes) (length_octets x.0) x.1 × (x.0 < 2 ^ 32)
unfolding long_length_at
long_takes count bytes x each e =
    let outer = kept (refused_first count bytes) (cond (refused_digits count bytes) None (Some (value (take count bytes), drop count bytes))) x e in
    let inner = kept (refused_digits count bytes) (Some (value (take count bytes), drop count bytes)) x outer.1 in
    let counts = or_false (eqb count 0 || ltb 4 count) (ltb (length bytes) count) outer.0 in
    let count_is = or_false (eqb count 0) (ltb 4 count) counts.0 in
    let few : count ≤ 4 = ltb-false 4 count count_is.1 in
    let some : 0 < count = let ne = eqb-false count 0 count_is.0 in omega (arith, ne) in
    let enough : count ≤ length bytes = ltb-false (length bytes) count counts.1 in
    let digits_are = or_false (eqb (get_or bytes 0 0) 0) (ltb (value (take count bytes)) 128) inner.0 in
    let first : 0 < get_or (take count bytes) 0 0 = rw (get_or-take count bytes 0 0 some) (let ne = eqb-false (get_or bytes 0 0) 0 digits_are.0 in omega (arith, ne)) in
    let large : 128 ≤ value (take count bytes) = ltb-false (value (take count bytes)) 128 digits_are.1 in
    let digit_bytes = is_bytes-take count bytes each in
    let len : length (take count bytes) ≡ count = omega (arith, length-take count bytes) in
    let spelled = digits_fewest (take count bytes) digit_bytes (omega arith) first in
    let octets : length_octets (value (take count bytes)) ≡ (128 + count) ∷ take count bytes = length_octets-long (value (take count bytes)) large ∙ rw (spelled, len) refl in
    let below = octets_are_below (take count bytes) digit_bytes in
    let places : 256 ^ length (take count bytes) ≤ 256 ^ 4 = pow-le-pow_right {n = 256} (omega arith) {i = length (take count bytes)} {j = 4} (omega arith) in
    let whole : Takes ((128 + count) ∷ bytes) (length_octets (value (take count bytes))) (drop count bytes) = record { parts = rw octets (ap (λ (t : List ℕ). (128 + count) ∷ t) (sym (take-append-drop count bytes))); each = is_bytes-drop count bytes each } in
    subst (λ (y : ℕ × List ℕ). Takes ((128 + count) ∷ bytes) (length_octets y.0) y.1 × (y.0 < 2 ^ 32)) (some_is (value (take count bytes), drop count bytes) x inner.1) (whole, omega arith)

pub length_takes : (bytes : List ℕ) (x : ℕ × List ℕ) → IsBytes bytes → length_at bytes ≡ Some x → Takes bytes (length_octets x.0) x.1 × (x.0 < 2 ^ 32)
unfolding length_at length_octets
length_takes [] x each e = absurd cc
length_takes (first ∷ rest) x each e =
    elim (cases_lt first 128) [
      | inl lt ↦ let short = rw (lt-ltb first 128 lt) at e in
          let octets : length_octets first ≡ first ∷ [] = rw (lt-ltb first 128 lt) refl in
          subst (λ (y : ℕ × List ℕ). Takes (first ∷ rest) (length_octets y.0) y.1 × (y.0 < 2 ^ 32)) (some_is (first, rest) x short) (record { parts = rw octets refl; each = is_bytes-tail first rest each }, omega arith)
      | inr le ↦ let long = rw (le-ltb first 128 le) at e in
          let back : 128 + (first - 128) ≡ first = omega arith in
          subst (λ (y : ℕ). Takes (y ∷ rest) (length_octets x.0) x.1 × (x.0 < 2 ^ 32)) back (long_takes (first - 128) rest x (is_bytes-tail first rest each) long)
    ]

pub length_again : (size : ℕ) (rest : List ℕ) → size < 2 ^ 32 → length_at (length_octets size ++ rest) ≡ Some (size, rest)
unfolding length_at long_length_at length_octets
length_again size rest fits =
    elim (cases_lt size 128) [
      | inl lt ↦ rw (lt-ltb size 128 lt, lt-ltb size 128 lt) refl
      | inr le ↦ let few = length-fewest size in
          let some = fewest-some size fits (omega arith) in
          let first = fewest-first size some in
          let number = value-fewest size fits in
          let count : (128 + length (fewest size)) - 128 ≡ length (fewest size) = omega arith in
          let whole = length-append (fewest size) rest in
          let lead : get_or (fewest size ++ rest) 0 0 ≡ get_or (fewest size) 0 0 = get_or_append_left (fewest size) rest 0 0 some in
          rw (le-ltb size 128 le, le-ltb (128 + length (fewest size)) 128 (omega arith), count, ne_eqb (length (fewest size)) 0 (λ same. absurd (omega arith)), le-ltb 4 (length (fewest size)) few, le-ltb (length (fewest size ++ rest)) (length (fewest size)) (omega arith), lead, ne_eqb (get_or (fewest size) 0 0) 0 (λ same. absurd (omega arith)), take_at (fewest size) rest (length (fewest size)) refl, drop_at (fewest size) rest (length (fewest size)) refl, number, le-ltb size 128 le) refl
    ]

-- ---- the contents

-- a length, and as many bytes
abbrev pub counted_octets : List ℕ → List ℕ
counted_octets contents = length_octets (length contents) ++ contents

abbrev after_length : ℕ × List ℕ → Option (List ℕ × List ℕ)
after_length size = cond (ltb (length size.1) size.0) None (Some (take size.0 size.1, drop size.0 size.1))

pub counted_takes : (bytes : List ℕ) (x : List ℕ × List ℕ) → IsBytes bytes → contents_at bytes ≡ Some x → Takes bytes (counted_octets x.0) x.1 × IsBytes x.0 × (length x.0 < 2 ^ 32)
unfolding contents_at
counted_takes bytes x each e =
    bind_then (length_at bytes) after_length x e (λ size read then.
    let taken = length_takes bytes size each read in
    let g = kept (ltb (length size.1) size.0) (Some (take size.0 size.1, drop size.0 size.1)) x then in
    let enough : size.0 ≤ length size.1 = ltb-false (length size.1) size.0 g.0 in
    let len : length (take size.0 size.1) ≡ size.0 = omega (arith, length-take size.0 size.1) in
    let second : Takes size.1 (take size.0 size.1) (drop size.0 size.1) = record { parts = sym (take-append-drop size.0 size.1); each = is_bytes-drop size.0 size.1 taken.0.each } in
    let both = Takes-then bytes (length_octets size.0) size.1 (take size.0 size.1) (drop size.0 size.1) taken.0 second in
    let whole : Takes bytes (counted_octets (take size.0 size.1)) (drop size.0 size.1) = subst (λ (k : ℕ). Takes bytes (length_octets k ++ take size.0 size.1) (drop size.0 size.1)) (sym len) both in
    subst (λ (y : List ℕ × List ℕ). Takes bytes (counted_octets y.0) y.1 × IsBytes y.0 × (length y.0 < 2 ^ 32)) (some_is (take size.0 size.1, drop size.0 size.1) x g.1) (whole, is_bytes-take size.0 size.1 taken.0.each, omega (arith, taken.1)))

pub counted_again : (contents rest : List ℕ) → length contents < 2 ^ 32 → contents_at (counted_octets contents ++ rest) ≡ Some (contents, rest)
unfolding contents_at
counted_again contents rest fits =
    let again = length_again (length contents) (contents ++ rest) fits in
    let whole = length-append contents rest in
    rw (append_assoc (length_octets (length contents)) contents rest, again, le-ltb (length (contents ++ rest)) (length contents) (omega arith), take_at contents rest (length contents) refl, drop_at contents rest (length contents) refl) refl

-- ---- the value

abbrev pub text_of : Parts → List ℕ
text_of parts = tlv parts.tag parts.contents

abbrev after_tag : ℕ → List ℕ × List ℕ → Option (Parts × List ℕ)
after_tag tag counted = Some (record { tag = tag; contents = counted.0 }, counted.1)

low_tag : (tag : ℕ) → eqb (tag % 32) 31 ≡ false → tag % 32 < 31
low_tag tag e =
    let ne = eqb-false (tag % 32) 31 e in
    let below = mod-lt tag {m = 32} (omega arith) in
    omega (arith, ne)

front_tag : (tag : ℕ) (bytes contents rest : List ℕ) → Takes bytes (counted_octets contents) rest → Takes (tag ∷ bytes) (tlv tag contents) rest
unfolding tlv
front_tag tag bytes contents rest taken = record { parts = ap (λ (t : List ℕ). tag ∷ t) taken.parts; each = taken.each }

pub value_takes : ReadsValues
unfolding value_at
value_takes [] x each e = absurd cc
value_takes (tag ∷ bytes) x each e =
    let g = kept (eqb (tag % 32) 31) (contents_at bytes >>= after_tag tag) x e in
    bind_then (contents_at bytes) (after_tag tag) x g.1 (λ counted read then.
    let t = counted_takes bytes counted (is_bytes-tail tag bytes each) read in
    let made : Parts × List ℕ = (record { tag = tag; contents = counted.0 }, counted.1) in
    let front : Takes (tag ∷ bytes) (tlv tag counted.0) counted.1 = front_tag tag bytes counted.0 counted.1 t.0 in
    subst (λ (y : Parts × List ℕ). TakesValue (tag ∷ bytes) y.0 y.1) (some_is made x then)
    (record { taken = front; fits = record { one_byte = each 0; low_tag = low_tag tag g.0; byte_contents = t.1; short = t.2; spelled = refl } }))

pub value_again : EachValueIsRead
unfolding value_at tlv
value_again tag contents rest low fits =
    let again = counted_again contents rest fits in
    rw (ne_eqb (tag % 32) 31 (λ same. absurd (omega arith)), again) refl

-- a value at the front is read so
pub value_reads : (bytes raw rest contents : List ℕ) (tag : ℕ) → IsTlv raw tag contents → bytes ≡ raw ++ rest → value_at bytes ≡ Some (record { tag = tag; contents = contents }, rest)
value_reads bytes raw rest contents tag is parts =
    ap value_at (parts ∙ ap (λ (t : List ℕ). t ++ rest) is.spelled) ∙ value_again tag contents rest is.low_tag is.short

-- the bytes of a value are bytes
pub is_bytes-length_octets : (size : ℕ) → size < 2 ^ 32 → IsBytes (length_octets size)
unfolding length_octets
is_bytes-length_octets size fits =
    elim (cases_lt size 128) [
      | inl lt ↦ rw (lt-ltb size 128 lt) (is_bytes-cons size [] (omega arith) (λ i. omega arith))
      | inr le ↦ rw (le-ltb size 128 le) (is_bytes-cons (128 + length (fewest size)) (fewest size) (let few = length-fewest size in omega arith) (is_bytes-fewest size))
    ]

pub is_bytes-tlv : (tag : ℕ) (contents : List ℕ) → tag < 256 → length contents < 2 ^ 32 → IsBytes contents → IsBytes (tlv tag contents)
unfolding tlv
is_bytes-tlv tag contents one fits each =
    is_bytes-cons tag (length_octets (length contents) ++ contents) one (is_bytes-append (length_octets (length contents)) contents (is_bytes-length_octets (length contents) fits) each)

-- what was read, cut from the bytes by what follows it, is the value
pub raw_is : (bytes rest : List ℕ) (parts : Parts) → TakesValue bytes parts rest → take (length bytes - length rest) bytes ≡ text_of parts
raw_is bytes rest parts t =
    let len : length bytes - length rest ≡ length (text_of parts) = omega (arith, ap length t.taken.parts, length-append (text_of parts) rest) in
    ap (take (length bytes - length rest)) t.taken.parts ∙ take_at (text_of parts) rest (length bytes - length rest) (sym len)

-- ---- the laws

pub no_two_prefixes : NoTwoPrefixes
no_two_prefixes a rest_a contents_a b rest_b contents_b tag_a tag_b is_a is_b same =
    let read_a = value_reads (a ++ rest_a) a rest_a contents_a tag_a is_a refl in
    let read_b = value_reads (a ++ rest_a) b rest_b contents_b tag_b is_b same in
    let both : some_pair (record { tag = tag_a; contents = contents_a }, rest_a) ≡ some_pair (record { tag = tag_b; contents = contents_b }, rest_b) = sym read_a ∙ read_b in
    let pair = some_is {A = Parts × List ℕ} (record { tag = tag_a; contents = contents_a }, rest_a) (record { tag = tag_b; contents = contents_b }, rest_b) both in
    let tags : tag_a ≡ tag_b = ap (λ (x : Parts × List ℕ). x.0.tag) pair in
    let contents : contents_a ≡ contents_b = ap (λ (x : Parts × List ℕ). x.0.contents) pair in
    let rests : rest_a ≡ rest_b = ap (λ (x : Parts × List ℕ). x.1) pair in
    (is_a.spelled ∙ rw (tags, contents) (sym is_b.spelled), tags, contents, rests)

length_octets-fewest_long : (octets : List ℕ) (size : ℕ) → size < 2 ^ 32 → IsLongForm octets size → (octets ≡ length_octets size) ⊎ (length (length_octets size) < length octets)
length_octets-fewest_long octets size fits long =
    let counted : length octets ≡ suc (length long.digits) = ap length long.counted in
    let some = long.some in
    elim (cases_lt size 128) [
      | inl lt ↦ inr (let one = length-length_octets_short size lt in omega arith)
      | inr le ↦ let spelled = length_octets-long size le in
          let len : length (length_octets size) ≡ suc (length (fewest size)) = ap length spelled in
          let digits = fewest-digits long.digits size long.each fits long.spelled in
          let no_more = length-without_zeros long.digits in
          let few : length (fewest size) ≤ length long.digits = rw digits no_more in
          elim (cases_lt (length (fewest size)) (length long.digits)) [
            | inl fewer ↦ inr (omega arith)
            | inr as_many ↦ let same = one_spelling (fewest size) long.digits (is_bytes-fewest size) long.each (omega arith) (value-fewest size fits ∙ sym long.spelled) in
                inl (long.counted ∙ rw (← same) (sym spelled))
          ]
    ]

is_length : (size : ℕ) → size < 2 ^ 32 → IsLength (length_octets size) size
unfolding length_octets
is_length size fits =
    elim (cases_lt size 128) [
      | inl lt ↦ inl (rw (lt-ltb size 128 lt) refl, lt)
      | inr le ↦ inr (record { digits = fewest size; each = is_bytes-fewest size; some = fewest-some size fits (omega arith); few = (let few = length-fewest size in omega arith); counted = rw (le-ltb size 128 le) refl; spelled = value-fewest size fits })
    ]

pub length_is_fewest : LengthIsFewest
length_is_fewest size fits = record { spells = is_length size fits; least = λ octets is. least octets size fits is }
  where
    least : (octets : List ℕ) (size : ℕ) → size < 2 ^ 32 → IsLength octets size → (octets ≡ length_octets size) ⊎ (length (length_octets size) < length octets)
    least octets size fits (inl short) = inl (short.0 ∙ sym (length_octets-short size short.1))
    least octets size fits (inr long) = length_octets-fewest_long octets size fits long

-- a value has two octets at least
pub tlv_some : (tag : ℕ) (contents : List ℕ) → 2 ≤ length (tlv tag contents)
tlv_some tag contents = omega (arith, (value_size tag contents).least)

-- ---- what `take` gives

-- where nothing is read, no prefix is a value
pub none_is : (bytes : List ℕ) → value_at bytes ≡ None → (raw rest contents : List ℕ) (tag : ℕ) → IsTlv raw tag contents → bytes ≡ raw ++ rest → ⊥
none_is bytes read raw rest contents tag is parts =
    let reads = value_reads bytes raw rest contents tag is parts in
    let same : some_pair (record { tag = tag; contents = contents }, rest) ≡ None = sym reads ∙ read in
    absurd cc

-- what is cut from the bytes is the value that was read
pub found_is : (bytes contents rest : List ℕ) (tag : ℕ) → IsBytes bytes → value_at bytes ≡ Some (record { tag = tag; contents = contents }, rest)
    → IsTlv (take (length bytes - length rest) bytes) tag contents × (bytes ≡ take (length bytes - length rest) bytes ++ rest)
found_is bytes contents rest tag each read =
    let x : Parts × List ℕ = (record { tag = tag; contents = contents }, rest) in
    let t = value_takes bytes x each read in
    let raw = raw_is bytes rest x.0 t in
    (rw raw t.fits, rw raw t.taken.parts)
