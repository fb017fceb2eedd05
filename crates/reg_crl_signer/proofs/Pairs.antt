-- Lemmas about reading SEQUENCEs of two INTEGERs above 0.
use Rattle.std.proofs.Common.{◌≡◌, ◌≢◌, ℕ, ◌^◌, ◌<◌, ◌≤◌, Bool, true, false, eqb, List, [], ◌++◌, length, refl, sym, ap, subst, ◌∙◌, append-nil, arith}
use Rattle.std.specs.Prelude.{MatchOption, Option, Some, None, is_some, IsTrue, ◌↔◌}
use Rattle.std.proofs.lemmas.Bool.{eqb-true, false≢true}
use Rattle.std.proofs.lemmas.List.{nil_from_length}
use Rattle.reg_core.specs.Integer.{IsInteger, value}
use Rattle.reg_der.specs.Der.{IsTlv}
use Rattle.reg_der.proofs.PublicLaws.{no_two_prefixes}
use Rattle.reg_crl_signer.specs.Forms.{BeginsPositive, HasOctets, IsPairOfIntegers, IsEcdsaValue, IsPair, IsPositive, IsRsaKey}
use Rattle.reg_crl_signer.proofs.Sizes.{below_power, one_count, within_power}

-- ---- whether something follows

pub is_nothing : (bytes : List ℕ) (answer : Bool) → answer ≡ eqb (length bytes) 0 → answer ≡ true → bytes ≡ []
is_nothing bytes answer test yes_is = nil_from_length bytes (eqb-true (length bytes) 0 (sym test ∙ yes_is))

pub is_something : (bytes : List ℕ) (answer : Bool) → answer ≡ eqb (length bytes) 0 → answer ≡ false → bytes ≡ [] → ⊥
is_something bytes answer test no_is nothing =
    false≢true (sym no_is ∙ test ∙ ap (λ (b : List ℕ). eqb (length b) 0) nothing)

-- ---- one INTEGER at the front

-- a value with another tag is no INTEGER
pub not_integer : (bytes raw contents rest : List ℕ) (tag : ℕ) → IsTlv raw tag contents → bytes ≡ raw ++ rest → tag ≢ 2
    → (other after : List ℕ) (number : ℕ) → IsPositive other number → bytes ≡ other ++ after → ⊥
not_integer bytes raw contents rest tag is parts differs other after number positive split =
    let same = no_two_prefixes raw rest contents other after positive.octets tag 2 is positive.integer (sym parts ∙ split) in
    differs same.1

-- a value is no INTEGER above 0 if its contents are those of no number above 0
pub not_positive : (bytes raw contents rest : List ℕ) (tag : ℕ) → IsTlv raw tag contents → bytes ≡ raw ++ rest
    → ((number : ℕ) → 0 < number → ¬ IsInteger contents number)
    → (other after : List ℕ) (number : ℕ) → IsPositive other number → bytes ≡ other ++ after → ⊥
not_positive bytes raw contents rest tag is parts never other after number positive split =
    let same = no_two_prefixes raw rest contents other after positive.octets tag 2 is positive.integer (sym parts ∙ split) in
    never number positive.positive (subst (λ (octets : List ℕ). IsInteger octets number) (sym same.2) positive.spells)

-- two INTEGERs at the front of the same bytes are of one number
pub one_number : (x s y t : List ℕ) (m n : ℕ) → IsPositive x m → IsPositive y n → x ++ s ≡ y ++ t → (m ≡ n) × (s ≡ t)
one_number x s y t m n has_m has_n parts =
    let same = no_two_prefixes x s has_m.octets y t has_n.octets 2 2 has_m.integer has_n.integer parts in
    (sym has_m.spells.spelled ∙ ap value same.2 ∙ has_n.spells.spelled, same.3)

-- ---- the SEQUENCE

-- a value at the front of bytes that are a SEQUENCE is all of them
pub record IsAll (tag : ℕ) (contents after whole : List ℕ) : Type 0 where
  pub sequence : tag ≡ 48
  pub nothing : after ≡ []
  pub same : contents ≡ whole

pub is_all : (bytes raw contents after whole : List ℕ) (tag : ℕ) → IsTlv raw tag contents → bytes ≡ raw ++ after → IsTlv bytes 48 whole
    → IsAll tag contents after whole
is_all bytes raw contents after whole tag is parts sequence =
    let same = no_two_prefixes raw after contents bytes [] whole tag 48 is sequence (sym parts ∙ sym (append-nil bytes)) in
    record { sequence = same.1; nothing = same.3; same = same.2 }

-- after the number at the front was read, the bytes after it are left
pub left_behind : (contents rest : List ℕ) (size number : ℕ) (raw behind : List ℕ) → BeginsPositive contents size rest → IsPositive raw number
    → contents ≡ raw ++ behind → rest ≡ behind
left_behind contents rest size number raw behind begins is same =
    (one_number begins.raw rest raw behind begins.number number begins.is is (sym begins.parts ∙ same)).1

-- two numbers that were read, with nothing after them, are a pair
pub holds_pair : (bytes raw contents after rest left : List ℕ) (tag m n : ℕ) → IsTlv raw tag contents → bytes ≡ raw ++ after → tag ≡ 48 → after ≡ []
    → BeginsPositive contents m rest → BeginsPositive rest n left → left ≡ [] → IsPairOfIntegers bytes m n
holds_pair bytes raw contents after rest left tag m n is parts sequence nothing one two end =
    let whole : bytes ≡ raw = parts ∙ ap (λ (t : List ℕ). raw ++ t) nothing ∙ append-nil raw in
    let behind : rest ≡ two.raw = two.parts ∙ ap (λ (t : List ℕ). two.raw ++ t) end ∙ append-nil two.raw in
    let inside : contents ≡ one.raw ++ two.raw = one.parts ∙ ap (λ (t : List ℕ). one.raw ++ t) behind in
    let tagged : IsTlv bytes 48 contents = subst (λ (b : List ℕ). IsTlv b 48 contents) (sym whole) (subst (λ (t : ℕ). IsTlv raw t contents) sequence is) in
    record {
      first = one.number;
      second = two.number;
      pair = record {
        first_bytes = one.raw;
        second_bytes = two.raw;
        sequence = subst (λ (c : List ℕ). IsTlv bytes 48 c) inside tagged;
        first_is = one.is;
        second_is = two.is;
      };
      first_octets = one.octets;
      second_octets = two.octets;
    }

-- the same bytes are only one pair
pub one_pair : (bytes : List ℕ) (a b c d : ℕ) → IsPair bytes a b → IsPair bytes c d → (a ≡ c) × (b ≡ d)
one_pair bytes a b c d p q =
    let inside = no_two_prefixes bytes [] (p.first_bytes ++ p.second_bytes) bytes [] (q.first_bytes ++ q.second_bytes) 48 48 p.sequence q.sequence refl in
    let first = one_number p.first_bytes p.second_bytes q.first_bytes q.second_bytes a c p.first_is q.first_is inside.2 in
    let second = one_number p.second_bytes [] q.second_bytes [] b d p.second_is q.second_is (ap (λ (t : List ℕ). t ++ []) first.1) in
    (first.0, second.0)

-- ---- signatures and keys

-- a pair of numbers of at most so many octets is an Ecdsa-Sig-Value, and no other pair is
pub ecdsa_made : (signature : List ℕ) (m n octets : ℕ) → IsPairOfIntegers signature m n → m ≤ octets → n ≤ octets → IsEcdsaValue (256 ^ octets) signature
ecdsa_made signature m n octets holds first second = record {
  r = holds.first;
  s = holds.second;
  pair = holds.pair;
  r_below = below_power holds.first m octets holds.first_octets first;
  s_below = below_power holds.second n octets holds.second_octets second;
}

pub ecdsa_sizes : (signature : List ℕ) (m n octets : ℕ) → IsPairOfIntegers signature m n → IsEcdsaValue (256 ^ octets) signature → (m ≤ octets) × (n ≤ octets)
ecdsa_sizes signature m n octets holds is =
    let same = one_pair signature holds.first holds.second is.r is.s holds.pair is.pair in
    let first : holds.first < 256 ^ octets = rw same.0 is.r_below in
    let second : holds.second < 256 ^ octets = rw same.1 is.s_below in
    (within_power holds.first m octets holds.first_octets first, within_power holds.second n octets holds.second_octets second)

-- a pair is an RSAPublicKey whose modulus has as many octets as the first number
pub rsa_made : (key : List ℕ) (m n : ℕ) → IsPairOfIntegers key m n → IsRsaKey key m
rsa_made key m n holds = record { modulus = holds.first; exponent = holds.second; pair = holds.pair; modulus_size = holds.first_octets }

pub rsa_size : (key : List ℕ) (m n size : ℕ) → IsPairOfIntegers key m n → IsRsaKey key size → m ≡ size
rsa_size key m n size holds is =
    let same = one_pair key holds.first holds.second is.modulus is.exponent holds.pair is.pair in
    let octets = subst (λ (number : ℕ). HasOctets number size) (sym same.0) is.modulus_size in
    let most : m ≤ size = one_count holds.first m size holds.first_octets octets in
    let least : size ≤ m = one_count holds.first size m octets holds.first_octets in
    omega arith

-- the bytes are an RSAPublicKey if a pair was found, and only then
pub rsa_found : (key : List ℕ) (found : Option (ℕ × ℕ)) → MatchOption found ((first second : ℕ) → ¬ IsPair key first second) (λ counts. IsPairOfIntegers key counts.0 counts.1)
    → IsTrue (is_some found) ↔ ((size : ℕ) × IsRsaKey key size)
rsa_found key (Some counts) holds = (λ passes. (counts.0, rsa_made key counts.0 counts.1 holds), λ is. refl)
rsa_found key None never = (λ passes. absurd (false≢true passes), λ is. absurd (never is.1.modulus is.1.exponent is.1.pair))
