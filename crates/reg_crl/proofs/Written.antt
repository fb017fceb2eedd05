-- A CRL that is written is read back.
use Rattle.std.proofs.Common.{◌≡◌, ℕ, suc, ◌+◌, ◌*◌, ◌%◌, ◌^◌, ◌<◌, ◌≤◌, Bool, true, false, List, [], ◌∷◌, ◌++◌, append_assoc, append-nil, length, map, Option, Some, None, inl, inr, refl, sym, ap, subst, ◌∙◌, arith}
use Rattle.std.specs.Prelude.{cond, nat_le, unwrap_or}
use Rattle.std.specs.List.{flat_map, AllByRecursion}
use Rattle.std.proofs.lemmas.Bool.{cases_lt, lt-ltb, le-leb, eq-eqb, ne_eqb}
use Rattle.std.proofs.lemmas.List.{length-append}
use Rattle.std.proofs.Math.Nat.{mul-le-mul_right, pow-le-pow_right, pow-succ'}
use Rattle.reg_core.specs.Calendar.{general_text, civil_of, utc_text}
use Rattle.reg_core.specs.Integer.{IsInteger, integer, value}
use Rattle.reg_core.specs.Sequence.{◌>>=◌}
use Rattle.reg_core.specs.Serial.{IsSerial}
use Rattle.reg_core.specs.declared.rows.Entry.{Entry}
use Rattle.reg_core.proofs.PublicLaws.{integer_is, octets_are_places}
use Rattle.reg_der.specs.Authority.{name_of}
use Rattle.reg_der.specs.Der.{tlv}
use Rattle.reg_der.specs.TaggedValues.{expect_at, optional_at, whole_at}
use Rattle.reg_der.specs.WrittenValues.{bits_value, integer_value, time_value}
use Rattle.reg_der.proofs.PublicLaws.{value_again, value_size}
use Rattle.reg_crl.specs.Crl.{authority_key_identifier, certificate_list, crl_entry_extensions, crl_extensions, crl_number, extension, key_identifier, revoked_certificate, revoked_certificates, tbs_cert_list}
use Rattle.reg_crl.specs.Reading.{AreEntries, CrlsAreRead, after_next_update, certificate_list_at, crl_extension_at, crl_number_of, header_at, is_time, crl_number_at, revoked_entry_at, tbs_cert_list_at, time_at}
use Rattle.reg_crl.proofs.CrlNumber.{looks_begin, looks_on, number_is}

-- ---- values of a known tag

expect_value : (tag : ℕ) (contents rest : List ℕ) → tag % 32 < 31 → length contents < 2 ^ 32 → expect_at tag (tlv tag contents ++ rest) ≡ Some (contents, rest)
unfolding expect_at
expect_value tag contents rest low short = rw (value_again tag contents rest low short, eq-eqb tag tag refl) refl

expect_last : (tag : ℕ) (contents : List ℕ) → tag % 32 < 31 → length contents < 2 ^ 32 → expect_at tag (tlv tag contents) ≡ Some (contents, [])
expect_last tag contents low short = ap (expect_at tag) (sym (append-nil (tlv tag contents))) ∙ expect_value tag contents [] low short

whole_value : (tag : ℕ) (contents : List ℕ) → tag % 32 < 31 → length contents < 2 ^ 32 → whole_at tag (tlv tag contents) ≡ Some contents
unfolding whole_at
whole_value tag contents low short = rw (expect_last tag contents low short) refl

optional_value : (tag : ℕ) (contents rest : List ℕ) → tag % 32 < 31 → length contents < 2 ^ 32 → optional_at tag (tlv tag contents ++ rest) ≡ Some (Some contents, rest)
unfolding optional_at tlv
optional_value tag contents rest low short = rw (eq-eqb tag tag refl, expect_value tag contents rest low short) refl

optional_other : (tag other : ℕ) (contents rest : List ℕ) → (other ≡ tag → ⊥) → optional_at tag (tlv other contents ++ rest) ≡ Some (None, tlv other contents ++ rest)
unfolding optional_at tlv
optional_other tag other contents rest differs = rw (ne_eqb other tag differs) refl

optional_none : (tag other : ℕ) (contents : List ℕ) → (other ≡ tag → ⊥) → optional_at tag (tlv other contents) ≡ Some (None, tlv other contents)
unfolding optional_at tlv
optional_none tag other contents differs = rw (ne_eqb other tag differs) refl

-- ---- entries

entry_value : (serial : List ℕ) (more rest : List ℕ) → length (tlv 48 (tlv 2 serial ++ more)) < 2 ^ 32
    → revoked_entry_at (tlv 48 (tlv 2 serial ++ more) ++ rest) ≡ Some (serial, rest)
unfolding revoked_entry_at
entry_value serial more rest short =
    let outer = (value_size 48 (tlv 2 serial ++ more)).least in
    let both = length-append (tlv 2 serial) more in
    let inner = (value_size 2 serial).least in
    rw (expect_value 48 (tlv 2 serial ++ more) rest (omega arith) (omega arith), expect_value 2 serial more (omega arith) (omega arith)) refl

entry_is : (entry : Entry) (rest : List ℕ) → length (revoked_certificate entry) < 2 ^ 32 → revoked_entry_at (revoked_certificate entry ++ rest) ≡ Some (integer entry.serial, rest)
unfolding revoked_certificate
entry_is entry rest short =
    let parts = append_assoc (integer_value entry.serial) (time_value entry.at) (crl_entry_extensions entry.reason) in
    let more = time_value entry.at ++ crl_entry_extensions entry.reason in
    ap (λ (l : List ℕ). revoked_entry_at (tlv 48 l ++ rest)) parts
    ∙ entry_value (integer entry.serial) more rest (subst (λ (l : List ℕ). length (tlv 48 l) < 2 ^ 32) parts short)

entries_are : (entries : List Entry) → AllByRecursion (λ entry. IsSerial entry.serial) entries → length (flat_map revoked_certificate entries) < 2 ^ 32
    → AreEntries (flat_map revoked_certificate entries) (map (λ entry. entry.serial) entries) []
entries_are [] serials short = refl
entries_are (entry ∷ entries) serials short =
    let both = length-append (revoked_certificate entry) (flat_map revoked_certificate entries) in (
      flat_map revoked_certificate entries,
      (serials.0, entry_is entry (flat_map revoked_certificate entries) (omega arith)),
      entries_are entries serials.1 (omega arith),
    )

-- ---- what stands before them

tagged_time : (tag : ℕ) (contents rest : List ℕ) → tag % 32 < 31 → is_time tag ≡ true → length (tlv tag contents) < 2 ^ 32 → time_at (tlv tag contents ++ rest) ≡ Some rest
unfolding time_at
tagged_time tag contents rest low is short =
    let size = (value_size tag contents).least in
    rw (value_again tag contents rest low (omega arith), is) refl

time_read : (b : Bool) (utc general rest : List ℕ) → length (cond b (tlv 23 utc) (tlv 24 general)) < 2 ^ 32 → time_at (cond b (tlv 23 utc) (tlv 24 general) ++ rest) ≡ Some rest
time_read true utc general rest short = tagged_time 23 utc rest (omega arith) refl short
time_read false utc general rest short = tagged_time 24 general rest (omega arith) refl short

tagged_next : (tag : ℕ) (contents rest : List ℕ) → tag % 32 < 31 → is_time tag ≡ true → length (tlv tag contents) < 2 ^ 32 → after_next_update (tlv tag contents ++ rest) ≡ Some rest
unfolding after_next_update tlv
tagged_next tag contents rest low is short = rw (is, tagged_time tag contents rest low is short) refl

next_read : (b : Bool) (utc general rest : List ℕ) → length (cond b (tlv 23 utc) (tlv 24 general)) < 2 ^ 32 → after_next_update (cond b (tlv 23 utc) (tlv 24 general) ++ rest) ≡ Some rest
next_read true utc general rest short = tagged_next 23 utc rest (omega arith) refl short
next_read false utc general rest short = tagged_next 24 general rest (omega arith) refl short

time_is : (moment : ℕ) (rest : List ℕ) → length (time_value moment) < 2 ^ 32 → time_at (time_value moment ++ rest) ≡ Some rest
unfolding time_value
time_is moment rest short = time_read (nat_le (civil_of moment).year 2049) (utc_text moment) (general_text moment) rest short

next_is : (moment : ℕ) (rest : List ℕ) → length (time_value moment) < 2 ^ 32 → after_next_update (time_value moment ++ rest) ≡ Some rest
unfolding time_value
next_is moment rest short = next_read (nat_le (civil_of moment).year 2049) (utc_text moment) (general_text moment) rest short

header_is : (one algorithm name rest : List ℕ) (this next : ℕ) → length one < 2 ^ 32 → length algorithm < 2 ^ 32 → length name < 2 ^ 32 → length (time_value this) < 2 ^ 32
    → length (time_value next) < 2 ^ 32 → header_at (tlv 2 one ++ (tlv 48 algorithm ++ (tlv 48 name ++ (time_value this ++ (time_value next ++ rest))))) ≡ Some rest
unfolding header_at
header_is one algorithm name rest this next one_short algorithm_short name_short this_short next_short =
    let e0 = optional_value 2 one (tlv 48 algorithm ++ (tlv 48 name ++ (time_value this ++ (time_value next ++ rest)))) (omega arith) one_short in
    let e1 = expect_value 48 algorithm (tlv 48 name ++ (time_value this ++ (time_value next ++ rest))) (omega arith) algorithm_short in
    let e2 = expect_value 48 name (time_value this ++ (time_value next ++ rest)) (omega arith) name_short in
    let e3 = time_is this (time_value next ++ rest) this_short in
    let e4 = next_is next rest next_short in
    rw (e0, e1, e2, e3, e4) refl

-- ---- what stands behind them

extension_is : (identifier octets rest : List ℕ) → length (extension identifier octets) < 2 ^ 32 → crl_extension_at (extension identifier octets ++ rest) ≡ Some ((identifier, octets), rest)
unfolding crl_extension_at extension
extension_is identifier octets rest short =
    let outer = (value_size 48 (tlv 6 identifier ++ tlv 4 octets)).least in
    let both = length-append (tlv 6 identifier) (tlv 4 octets) in
    let first = (value_size 6 identifier).least in
    let second = (value_size 4 octets).least in
    let e0 = expect_value 48 (tlv 6 identifier ++ tlv 4 octets) rest (omega arith) (omega arith) in
    let e1 = expect_value 6 identifier (tlv 4 octets) (omega arith) (omega arith) in
    let e2 = optional_none 1 4 octets (λ same. absurd (omega arith)) in
    let e3 = whole_value 4 octets (omega arith) (omega arith) in
    rw (e0, e1, e2, e3) refl

some_extension : (identifier octets : List ℕ) → 1 ≤ length (extension identifier octets)
unfolding extension
some_extension identifier octets = let least = (value_size 48 (tlv 6 identifier ++ tlv 4 octets)).least in omega arith

-- a number with nine octets or more is 2^63 at least
many_octets : (octets : List ℕ) (number : ℕ) → IsInteger octets number → 9 ≤ length octets → 2 ^ 63 ≤ number
many_octets [] number is many = absurd (omega arith)
many_octets (first ∷ []) number is many = absurd (omega arith)
many_octets (first ∷ second ∷ rest) number is many =
    let unit = 256 ^ length rest in
    let large : 256 ^ 7 ≤ unit = pow-le-pow_right {n = 256} (omega arith) {i = 7} {j = length rest} (omega arith) in
    let spelled : number ≡ first * (256 * unit) + (second * unit + value rest) =
    sym is.spelled ∙ octets_are_places first (second ∷ rest) ∙ ap (λ (x : ℕ). first * 256 ^ suc (length rest) + x) (octets_are_places second rest)
    ∙ ap (λ (x : ℕ). first * x + (second * unit + value rest)) (pow-succ' 256 (length rest)) in
    elim (cases_lt first 1) [
      | inl none ↦
          let lower : 128 * unit ≤ second * unit = mul-le-mul_right unit (is.shortest.0 (omega arith)) in
          omega arith
      | inr some ↦
          let lower : 1 * (256 * unit) ≤ first * (256 * unit) = mul-le-mul_right (256 * unit) some in
          omega arith
    ]

few_octets : (octets : List ℕ) (number : ℕ) → number < 2 ^ 63 → IsInteger octets number → length octets ≤ 8
few_octets octets number below is = elim (cases_lt 8 (length octets)) [
  | inl more ↦ let least = many_octets octets number is more in absurd (omega arith)
  | inr few ↦ few
]

number_is_read : (octets : List ℕ) (number : ℕ) → IsInteger octets number → length octets ≤ 8 → crl_number_of octets ≡ Some number
number_is_read [] number is short = absurd is.shortest
number_is_read (first ∷ rest) number is short =
    let clear : first < 128 = is.not_negative in
    rw (lt-ltb first 128 clear, le-leb (suc (length rest)) 8 short, is.spelled) refl

numbered_is : (identifier : List ℕ) (number : ℕ) → number < 2 ^ 160 → length (integer number) ≤ 8
    → length (tlv 160 (tlv 48 (authority_key_identifier identifier ++ crl_number number))) < 2 ^ 32
    → crl_number_at (tlv 160 (tlv 48 (authority_key_identifier identifier ++ crl_number number))) ≡ Some number
unfolding crl_number_at authority_key_identifier crl_number
numbered_is identifier number below few short =
    let first : List ℕ = extension (85 ∷ 29 ∷ 35 ∷ []) (tlv 48 (tlv 128 identifier)) in
    let second : List ℕ = extension (85 ∷ 29 ∷ 20 ∷ []) (integer_value number) in
    let outer = (value_size 160 (tlv 48 (first ++ second))).least in
    let inner = (value_size 48 (first ++ second)).least in
    let both = length-append first second in
    let first_some = some_extension (85 ∷ 29 ∷ 35 ∷ []) (tlv 48 (tlv 128 identifier)) in
    let second_some = some_extension (85 ∷ 29 ∷ 20 ∷ []) (integer_value number) in
    let e0 = whole_value 160 (tlv 48 (first ++ second)) (omega arith) (omega arith) in
    let e1 = whole_value 48 (first ++ second) (omega arith) (omega arith) in
    let passed = extension_is (85 ∷ 29 ∷ 35 ∷ []) (tlv 48 (tlv 128 identifier)) second (omega arith) in
    let found : crl_extension_at second ≡ Some ((85 ∷ 29 ∷ 20 ∷ [], integer_value number), []) =
    ap crl_extension_at (sym (append-nil second)) ∙ extension_is (85 ∷ 29 ∷ 20 ∷ []) (integer_value number) [] (omega arith) in
    let behind = looks_on (first ++ second) second (first ++ second) (85 ∷ 29 ∷ 35 ∷ []) (tlv 48 (tlv 128 identifier)) (omega arith) (omega arith) passed refl (looks_begin (first ++ second)) in
    let read = number_is second [] (first ++ second) (85 ∷ 29 ∷ 20 ∷ []) (integer_value number) (omega arith) found refl behind in
    let e2 = whole_value 2 (integer number) (omega arith) (omega arith) in
    rw (e0, e1) (read ∙ ap (λ (o : Option (List ℕ)). o >>= crl_number_of) e2 ∙ number_is_read (integer number) number (integer_is number below) few)

-- ---- the whole

record TakesRevoked (entries : List Entry) (contents : List ℕ) : Type 0 where
  revoked : Option (List ℕ)
  read : optional_at 48 (revoked_certificates entries ++ tlv 160 contents) ≡ Some (revoked, tlv 160 contents)
  are : unwrap_or revoked [] ≡ flat_map revoked_certificate entries

revoked_are : (entries : List Entry) (contents : List ℕ) → length (revoked_certificates entries) < 2 ^ 32 → TakesRevoked entries contents
unfolding revoked_certificates
revoked_are [] contents short = record { revoked = None; read = optional_none 48 160 contents (λ same. absurd (omega arith)); are = refl }
revoked_are (entry ∷ entries) contents short =
    let listed = flat_map revoked_certificate (entry ∷ entries) in
    let size = (value_size 48 listed).least in
    record { revoked = Some listed; read = optional_value 48 listed (tlv 160 contents) (omega arith) (omega arith); are = refl }

-- the contents of a TBSCertList
abbrev parts : List ℕ → List ℕ → List ℕ → ℕ → ℕ → List Entry → List ℕ → List ℕ
parts one algorithm name this next entries extensions =
    tlv 2 one ++ algorithm ++ name ++ time_value this ++ time_value next ++ revoked_certificates entries ++ extensions

regroup : (a b c d e f g : List ℕ) → a ++ b ++ c ++ d ++ e ++ f ++ g ≡ a ++ (b ++ (c ++ (d ++ (e ++ (f ++ g)))))
regroup a b c d e f g = simp append_assoc

parts_are : (one algorithm name identifier : List ℕ) (number this next : ℕ) (entries : List Entry) → number < 2 ^ 160 → length (integer number) ≤ 8
    → length (parts one (tlv 48 algorithm) (tlv 48 name) this next entries (tlv 160 (tlv 48 (authority_key_identifier identifier ++ crl_number number)))) < 2 ^ 32
    → tbs_cert_list_at (parts one (tlv 48 algorithm) (tlv 48 name) this next entries (tlv 160 (tlv 48 (authority_key_identifier identifier ++ crl_number number))))
    ≡ Some (number, flat_map revoked_certificate entries)
unfolding tbs_cert_list_at
parts_are one algorithm name identifier number this next entries below few short =
    let contents = tlv 48 (authority_key_identifier identifier ++ crl_number number) in
    let last = tlv 160 contents in
    let right = regroup (tlv 2 one) (tlv 48 algorithm) (tlv 48 name) (time_value this) (time_value next) (revoked_certificates entries) last in
    let l0 = ap length right in
    let l1 = length-append (tlv 2 one) (tlv 48 algorithm ++ (tlv 48 name ++ (time_value this ++ (time_value next ++ (revoked_certificates entries ++ last))))) in
    let l2 = length-append (tlv 48 algorithm) (tlv 48 name ++ (time_value this ++ (time_value next ++ (revoked_certificates entries ++ last)))) in
    let l3 = length-append (tlv 48 name) (time_value this ++ (time_value next ++ (revoked_certificates entries ++ last))) in
    let l4 = length-append (time_value this) (time_value next ++ (revoked_certificates entries ++ last)) in
    let l5 = length-append (time_value next) (revoked_certificates entries ++ last) in
    let l6 = length-append (revoked_certificates entries) last in
    let s0 = (value_size 2 one).least in
    let s1 = (value_size 48 algorithm).least in
    let s2 = (value_size 48 name).least in
    let taken = revoked_are entries contents (omega arith) in
    let e0 = header_is one algorithm name (revoked_certificates entries ++ last) this next (omega arith) (omega arith) (omega arith) (omega arith) (omega arith) in
    let e1 = taken.read in
    let e2 = numbered_is identifier number below few (omega arith) in
    rw (right, e0, e1, e2, taken.are) refl

listed_short : (entries : List Entry) → length (revoked_certificates entries) < 2 ^ 32 → length (flat_map revoked_certificate entries) < 2 ^ 32
unfolding revoked_certificates
listed_short [] short = omega arith
listed_short (entry ∷ entries) short = let size = (value_size 48 (flat_map revoked_certificate (entry ∷ entries))).least in omega arith

pub crl_is_read : CrlsAreRead
unfolding certificate_list certificate_list_at tbs_cert_list crl_extensions
crl_is_read crl algorithm signature issuer is_algorithm below serials short =
    let few = few_octets (integer crl.number) crl.number below (integer_is crl.number (omega arith)) in
    let name = issuer.name.name in
    let identifier = key_identifier crl.issuer crl.number in
    let last = tlv 160 (tlv 48 (authority_key_identifier identifier ++ crl_number crl.number)) in
    let contents = parts (integer 1) algorithm (name_of crl.issuer) crl.this_update crl.next_update crl.entries last in
    let bits = bits_value signature in
    let spelled : contents ≡ parts (integer 1) (tlv 48 is_algorithm.contents) (tlv 48 name.contents) crl.this_update crl.next_update crl.entries last =
    λ i. parts (integer 1) (is_algorithm.sequence.spelled i) (name.sequence.spelled i) crl.this_update crl.next_update crl.entries last in
    let whole = append_assoc (tlv 48 contents) algorithm bits in
    let outer = (value_size 48 (tlv 48 contents ++ algorithm ++ bits)).least in
    let l0 = length-append (tlv 48 contents ++ algorithm) bits in
    let l1 = length-append (tlv 48 contents) algorithm in
    let inner = (value_size 48 contents).least in
    let e0 = whole_value 48 (tlv 48 contents ++ algorithm ++ bits) (omega arith) (omega arith) in
    let e1 : expect_at 48 (tlv 48 contents ++ algorithm ++ bits) ≡ Some (contents, algorithm ++ bits) =
    ap (expect_at 48) whole ∙ expect_value 48 contents (algorithm ++ bits) (omega arith) (omega arith) in
    let size = (value_size 3 (0 ∷ signature)).least in
    let algorithm_size = (value_size 48 is_algorithm.contents).least in
    let l2 = ap length spelled in
    let l5 = ap length is_algorithm.sequence.spelled in
    let e2 : expect_at 48 (algorithm ++ bits) ≡ Some (is_algorithm.contents, bits) =
    ap (λ (octets : List ℕ). expect_at 48 (octets ++ bits)) is_algorithm.sequence.spelled ∙ expect_value 48 is_algorithm.contents bits (omega arith) (omega arith) in
    let e3 = whole_value 3 (0 ∷ signature) (omega arith) (omega arith) in
    let before = tlv 2 (integer 1) ++ algorithm ++ name_of crl.issuer ++ time_value crl.this_update ++ time_value crl.next_update in
    let l3 = length-append (before ++ revoked_certificates crl.entries) last in
    let l4 = length-append before (revoked_certificates crl.entries) in
    let e4 : tbs_cert_list_at contents ≡ Some (crl.number, flat_map revoked_certificate crl.entries) =
    ap tbs_cert_list_at spelled
    ∙ parts_are (integer 1) is_algorithm.contents name.contents identifier crl.number crl.this_update crl.next_update crl.entries (omega arith) few (omega arith) in
    (flat_map revoked_certificate crl.entries, rw (e0, e1, e2, e3, e4) refl, entries_are crl.entries serials (listed_short crl.entries (omega arith)))
