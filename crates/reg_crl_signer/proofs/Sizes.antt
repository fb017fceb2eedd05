-- Lemmas about how many octets a number has, and about the INTEGERs of numbers above 0.
use Rattle.std.proofs.Common.{◌≡◌, ℕ, suc, ◌-◌, ◌*◌, ◌^◌, ◌<◌, ◌≤◌, List, [], ◌∷◌, length, get_or, refl, sym, ap, subst, arith, inl, inr}
use Rattle.std.proofs.Math.Nat.{pow-succ', pow-le-pow_right, one-le-pow, mul-le-mul_right}
use Rattle.std.proofs.lemmas.Bool.{cases_lt}
use Rattle.reg_core.specs.Integer.{IsBytes, IsInteger, IsShortest, value}
use Rattle.reg_core.proofs.PublicLaws.{octets_are_below, octets_are_places}
use Rattle.reg_crl_signer.specs.Forms.{HasOctets}

-- if the first octet is above 0, the number has as many octets as there are
pub octets_lead : (first : ℕ) (rest : List ℕ) → 0 < first → IsBytes (first ∷ rest) → HasOctets (value (first ∷ rest)) (suc (length rest))
octets_lead first rest some each =
    let unit = 256 ^ length rest in
    let digits = octets_are_places first rest in
    let more : 1 * unit ≤ first * unit = mul-le-mul_right unit some in
    let places = pow-succ' 256 (length rest) in
    record { below = octets_are_below (first ∷ rest) each; no_fewer = omega arith }

-- a number has only one count of octets
pub one_count : (number a b : ℕ) → HasOctets number a → HasOctets number b → a ≤ b
one_count number a b has_a has_b = elim (cases_lt b a) [
  | inl less ↦
      let places = pow-succ' 256 b in
      let powers : 256 ^ suc b ≤ 256 ^ a = pow-le-pow_right {n = 256} (omega arith) {i = suc b} {j = a} less in
      let upper = has_b.below in
      let lower = has_a.no_fewer in
      absurd (omega arith)
  | inr least ↦ least
]

-- a number has at most so many octets if it is below that power of 256, and only then
pub below_power : (number count octets : ℕ) → HasOctets number count → count ≤ octets → number < 256 ^ octets
below_power number count octets has few =
    let powers : 256 ^ count ≤ 256 ^ octets = pow-le-pow_right {n = 256} (omega arith) {i = count} {j = octets} few in
    let upper = has.below in
    omega arith

pub within_power : (number count octets : ℕ) → HasOctets number count → number < 256 ^ octets → count ≤ octets
within_power number count octets has below = elim (cases_lt octets count) [
  | inl less ↦
      let places = pow-succ' 256 octets in
      let powers : 256 ^ suc octets ≤ 256 ^ count = pow-le-pow_right {n = 256} (omega arith) {i = suc octets} {j = count} less in
      let lower = has.no_fewer in
      absurd (omega arith)
  | inr least ↦ least
]

-- ---- the contents of an INTEGER of a number above 0

-- a number above 0, its INTEGER and how many octets it has
pub record Positive (contents : List ℕ) (count : ℕ) : Type 0 where
  pub number : ℕ
  pub some : 0 < number
  pub spells : IsInteger contents number
  pub octets : HasOctets number count

-- octets that begin with a zero for the sign
pub zero_leads : (contents : List ℕ) → IsBytes contents → 2 ≤ length contents → get_or contents 0 0 ≡ 0 → 128 ≤ get_or contents 1 0
    → Positive contents (length contents - 1)
zero_leads [] each two first second = absurd (omega arith)
zero_leads (a ∷ []) each two first second = absurd (omega arith)
zero_leads (a ∷ b ∷ rest) each two first second =
    let inner = octets_lead b rest (omega arith) (λ i. each (suc i)) in
    let digits = octets_are_places a (b ∷ rest) in
    let zeros : a * 256 ^ suc (length rest) ≡ 0 * 256 ^ suc (length rest) = ap (λ (x : ℕ). x * 256 ^ suc (length rest)) first in
    let same : value (a ∷ b ∷ rest) ≡ value (b ∷ rest) = omega arith in
    let some : 0 < 256 ^ suc (length rest) = one-le-pow (suc (length rest)) 256 (omega arith) in
    let lower = inner.no_fewer in
    let count : length (a ∷ b ∷ rest) - 1 ≡ suc (length rest) = omega arith in
    record {
      number = value (b ∷ rest);
      some = omega arith;
      spells = record { each_byte = each; shortest = (λ zero_first. second, λ ones_first. absurd (omega arith)); not_negative = omega arith; spelled = same };
      octets = subst (HasOctets (value (b ∷ rest))) (sym count) inner;
    }

-- octets that begin with the number's own first
pub digit_leads : (contents : List ℕ) → IsBytes contents → 0 < get_or contents 0 0 → get_or contents 0 0 < 128
    → Positive contents (length contents)
digit_leads [] each some low = absurd (omega arith)
digit_leads (a ∷ rest) each some low =
    let inner = octets_lead a rest some each in
    let least : 0 < 256 ^ suc (length rest) = one-le-pow (suc (length rest)) 256 (omega arith) in
    let lower = inner.no_fewer in
    record {
      number = value (a ∷ rest);
      some = omega arith;
      spells = record { each_byte = each; shortest = shortest a rest some low; not_negative = low; spelled = refl };
      octets = inner;
    }
  where
    shortest : (a : ℕ) (rest : List ℕ) → 0 < a → a < 128 → IsShortest (a ∷ rest)
    shortest a [] some low = tt
    shortest a (b ∷ rest) some low = (λ zero_first. absurd (omega arith), λ ones_first. absurd (omega arith))
