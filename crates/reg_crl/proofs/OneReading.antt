-- A CRL has one reading, and no CRL is a proper prefix of another.
use Rattle.std.proofs.Common.{◌≡◌, ℕ, Bool, true, false, cond, eqb, List, [], ◌∷◌, ◌++◌, append-nil, length, Option, Some, None, refl, sym, ap, subst, ◌∙◌, arith}
use Rattle.std.proofs.lemmas.Bool.{eqb-true}
use Rattle.std.proofs.lemmas.List.{nil_from_length}
use Rattle.reg_core.specs.Integer.{integer}
use Rattle.reg_core.proofs.PublicLaws.{one_number}
use Rattle.reg_der.specs.Der.{tlv}
use Rattle.reg_der.specs.TaggedValues.{expect_at, whole_at}
use Rattle.reg_der.specs.ValueReading.{Parts, value_at}
use Rattle.reg_der.proofs.PublicLaws.{bind_then, some_is, value_again, value_takes}
use Rattle.reg_crl.specs.Reading.{AreEntries, CrlsHaveOneReading, IsEntryAt, NoCrlBeginsAnother, certificate_list_at, revoked_entry_at}

-- ---- one reading

no_entry : revoked_entry_at [] ≡ None
unfolding revoked_entry_at expect_at value_at
no_entry = refl

nothing_there : (bytes : List ℕ) (serial : ℕ) (after : List ℕ) → bytes ≡ [] → IsEntryAt bytes serial after → ⊥
nothing_there bytes serial after ended entry =
    let none : revoked_entry_at bytes ≡ None = ap revoked_entry_at ended ∙ no_entry in
    let read = entry.1 in
    let bad : ⊥ = cc in
    bad

record SameEntry (serial other : ℕ) (after behind : List ℕ) : Type 0 where
  serials : serial ≡ other
  rests : after ≡ behind

same_entry : (bytes : List ℕ) (serial other : ℕ) (after behind : List ℕ) → IsEntryAt bytes serial after → IsEntryAt bytes other behind
    → SameEntry serial other after behind
same_entry bytes serial other after behind one two =
    let same = some_is (integer serial, after) (integer other, behind) (sym one.1 ∙ two.1) in
    record {
      serials = one_number serial other (omega arith) (omega arith) (ap (λ (x : List ℕ × List ℕ). x.0) same);
      rests = ap (λ (x : List ℕ × List ℕ). x.1) same;
    }

one_list : (serials others bytes : List ℕ) → AreEntries bytes serials [] → AreEntries bytes others [] → serials ≡ others
one_list [] [] bytes one two = refl
one_list [] (other ∷ others) bytes one two = absurd (nothing_there bytes other two.0 one two.1)
one_list (serial ∷ serials) [] bytes one two = absurd (nothing_there bytes serial one.0 two one.1)
one_list (serial ∷ serials) (other ∷ others) bytes one two =
    let same = same_entry bytes serial other one.0 two.0 one.1 two.1 in
    let first = same.serials in
    let rest = one_list serials others two.0 (subst (λ (after : List ℕ). AreEntries after serials []) same.rests one.2) two.2 in
    cc

pub one_reading : CrlsHaveOneReading
one_reading bytes number other_number serials other_serials one two =
    let same = some_is (number, one.0) (other_number, two.0) (sym one.1 ∙ two.1) in
    let revoked : one.0 ≡ two.0 = ap (λ (x : ℕ × List ℕ). x.1) same in (
      ap (λ (x : ℕ × List ℕ). x.0) same,
      one_list serials other_serials two.0 (subst (λ (entries : List ℕ). AreEntries entries serials []) revoked one.2) two.2,
    )

-- ---- the end of a CRL

chosen : {A : Type 0} (b : Bool) (x : Option A) (y : A) → cond b x None ≡ Some y → (b ≡ true) × (x ≡ Some y)
chosen true x y e = (refl, e)
chosen false x y e = absurd cc

-- a value was read, and this follows it
abbrev Leaves : List ℕ → List ℕ → Type 0
Leaves bytes rest = (parts : Parts) × (value_at bytes ≡ Some (parts, rest))

expect_leaves : (tag : ℕ) (bytes : List ℕ) (x : List ℕ × List ℕ) → expect_at tag bytes ≡ Some x → Leaves bytes x.1
unfolding expect_at
expect_leaves tag bytes x e =
    bind_then (value_at bytes) _ x e (λ v read then.
    let same = some_is (v.0.contents, v.1) x (chosen (eqb v.0.tag tag) (Some (v.0.contents, v.1)) x then).1 in
    (v.0, subst (λ (y : List ℕ × List ℕ). value_at bytes ≡ Some (v.0, y.1)) same read))

whole_leaves : (tag : ℕ) (bytes contents : List ℕ) → whole_at tag bytes ≡ Some contents → Leaves bytes []
unfolding whole_at
whole_leaves tag bytes contents e =
    bind_then (expect_at tag bytes) _ contents e (λ x read then.
    let nothing : x.1 ≡ [] = nil_from_length x.1 (eqb-true (length x.1) 0 (chosen (eqb (length x.1) 0) (Some x.0) contents then).0) in
    subst (λ (rest : List ℕ). Leaves bytes rest) nothing (expect_leaves tag bytes x read))

list_leaves : (bytes : List ℕ) (x : ℕ × List ℕ) → certificate_list_at bytes ≡ Some x → Leaves bytes []
unfolding certificate_list_at
list_leaves bytes x e = bind_then (whole_at 48 bytes) _ x e (λ list read then. whole_leaves 48 bytes list read)

pub no_crl_begins_another : NoCrlBeginsAnother
no_crl_begins_another bytes more one other each read both =
    let first = list_leaves bytes one read in
    let second = list_leaves (bytes ++ more) other both in
    let value = value_takes bytes (first.0, []) each first.1 in
    let spelled : bytes ≡ tlv first.0.tag first.0.contents = value.taken.parts ∙ append-nil (tlv first.0.tag first.0.contents) in
    let again : value_at (bytes ++ more) ≡ Some (first.0, more) =
    ap (λ (octets : List ℕ). value_at (octets ++ more)) spelled ∙ value_again first.0.tag first.0.contents more value.fits.low_tag value.fits.short in
    ap (λ (x : Parts × List ℕ). x.1) (some_is (first.0, more) (second.0, []) (sym again ∙ second.1))
