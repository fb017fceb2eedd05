-- Values with an expected tag: reading gives only contents whose encoding is the bytes, and gives each of them.
use Rattle.std.proofs.Common.{◌≡◌, ℕ, ◌%◌, ◌<◌, ◌≤◌, Bool, true, false, cond, eqb, List, [], ◌∷◌, ◌++◌, length, Option, Some, None, refl, sym, ap, subst, ◌∙◌, arith}
use Rattle.std.specs.Prelude.{IfSome}
use Rattle.std.proofs.lemmas.Bool.{eqb-true, eq-eqb, ne_eqb}
use Rattle.std.proofs.lemmas.List.{append-nil, length-append, nil_from_length}
use Rattle.reg_core.specs.Integer.{IsBytes}
use Rattle.reg_core.specs.Sequence.{◌>>=◌}
use Rattle.reg_der.specs.Der.{tlv}
use Rattle.reg_der.specs.ValueReading.{value_at, Takes}
use Rattle.reg_der.proofs.PublicLaws.{value_size, value_takes, value_again, bind_then, some_is}
use Rattle.reg_ocsp.specs.Request.{optional}
use Rattle.reg_der.specs.TaggedValues.{expect_at, whole_at, optional_at, last_at}

-- ---- steps

-- a test that let pass
pub chosen : {A : Type 0} (b : Bool) (x : Option A) (y : A) → cond b x None ≡ Some y → (b ≡ true) × (x ≡ Some y)
chosen true x y e = (refl, e)
chosen false x y e = absurd cc

-- ---- one value

-- a value of the tag was taken from the front
pub record TakesTag (bytes : List ℕ) (tag : ℕ) (contents rest : List ℕ) : Type 0 where
  pub taken : Takes bytes (tlv tag contents) rest
  pub inner : IsBytes contents

pub expect_takes : (tag : ℕ) (bytes : List ℕ) (x : List ℕ × List ℕ) → IsBytes bytes → expect_at tag bytes ≡ Some x → TakesTag bytes tag x.0 x.1
unfolding expect_at
expect_takes tag bytes x each e =
    bind_then (value_at bytes) _ x e (λ v read then.
    let t = value_takes bytes v each read in
    let g = chosen (eqb v.0.tag tag) (Some (v.0.contents, v.1)) x then in
    let made : TakesTag bytes v.0.tag v.0.contents v.1 = record { taken = t.taken; inner = t.fits.byte_contents } in
    let same : TakesTag bytes tag v.0.contents v.1 = subst (λ (n : ℕ). TakesTag bytes n v.0.contents v.1) (eqb-true v.0.tag tag g.0) made in
    subst (λ (y : List ℕ × List ℕ). TakesTag bytes tag y.0 y.1) (some_is (v.0.contents, v.1) x g.1) same)

pub expect_again : (tag : ℕ) (contents rest : List ℕ) → tag % 32 < 31 → length contents ≤ 65536 → expect_at tag (tlv tag contents ++ rest) ≡ Some (contents, rest)
unfolding expect_at
expect_again tag contents rest low small = rw (value_again tag contents rest low (omega arith), eq-eqb tag tag refl) refl

-- ---- one value and no more

-- the bytes are a value of the tag
pub record IsWhole (bytes : List ℕ) (tag : ℕ) (contents : List ℕ) : Type 0 where
  pub spelled : bytes ≡ tlv tag contents
  pub inner : IsBytes contents

pub whole_takes : (tag : ℕ) (bytes contents : List ℕ) → IsBytes bytes → whole_at tag bytes ≡ Some contents → IsWhole bytes tag contents
unfolding whole_at
whole_takes tag bytes contents each e =
    bind_then (expect_at tag bytes) _ contents e (λ v read then.
    let t = expect_takes tag bytes v each read in
    let g = chosen (eqb (length v.1) 0) (Some v.0) contents then in
    let nothing : v.1 ≡ [] = nil_from_length v.1 (eqb-true (length v.1) 0 g.0) in
    let spelled : bytes ≡ tlv tag v.0 = t.taken.parts ∙ ap (λ (r : List ℕ). tlv tag v.0 ++ r) nothing ∙ append-nil (tlv tag v.0) in
    subst (λ (y : List ℕ). IsWhole bytes tag y) (some_is v.0 contents g.1) (record { spelled = spelled; inner = t.inner }))

pub whole_again : (tag : ℕ) (contents : List ℕ) → tag % 32 < 31 → length contents ≤ 65536 → whole_at tag (tlv tag contents) ≡ Some contents
unfolding whole_at
whole_again tag contents low small =
    let again : expect_at tag (tlv tag contents) ≡ Some (contents, []) = ap (expect_at tag) (sym (append-nil (tlv tag contents))) ∙ expect_again tag contents [] low small in
    rw again refl

-- ---- a value that may be left out

pub record TakesOptional (bytes : List ℕ) (tag : ℕ) (written : Option (List ℕ)) (rest : List ℕ) : Type 0 where
  pub taken : Takes bytes (optional tag written) rest
  pub inner : IfSome written IsBytes

abbrev as_written : List ℕ × List ℕ → Option (Option (List ℕ) × List ℕ)
as_written x = Some (Some x.0, x.1)

left_out : (tag : ℕ) (bytes : List ℕ) → IsBytes bytes → TakesOptional bytes tag None bytes
left_out tag bytes each = record { taken = record { parts = refl; each = each }; inner = tt }

optional_first : (tag first : ℕ) (rest : List ℕ) (b : Bool) (x : Option (List ℕ) × List ℕ) → IsBytes (first ∷ rest)
    → cond b (expect_at tag (first ∷ rest) >>= as_written) (Some (None, first ∷ rest)) ≡ Some x → TakesOptional (first ∷ rest) tag x.0 x.1
optional_first tag first rest true x each e =
    bind_then (expect_at tag (first ∷ rest)) _ x e (λ v read then.
    let t = expect_takes tag (first ∷ rest) v each read in
    subst (λ (y : Option (List ℕ) × List ℕ). TakesOptional (first ∷ rest) tag y.0 y.1) (some_is (Some v.0, v.1) x then) (record { taken = t.taken; inner = t.inner }))
optional_first tag first rest false x each e =
    subst (λ (y : Option (List ℕ) × List ℕ). TakesOptional (first ∷ rest) tag y.0 y.1) (some_is (None, first ∷ rest) x e) (left_out tag (first ∷ rest) each)

pub optional_takes : (tag : ℕ) (bytes : List ℕ) (x : Option (List ℕ) × List ℕ) → IsBytes bytes → optional_at tag bytes ≡ Some x → TakesOptional bytes tag x.0 x.1
unfolding optional_at
optional_takes tag [] x each e =
    subst (λ (y : Option (List ℕ) × List ℕ). TakesOptional [] tag y.0 y.1) (some_is (None, []) x e) (left_out tag [] each)
optional_takes tag (first ∷ rest) x each e = optional_first tag first rest (eqb first tag) x each e

-- the bytes do not begin with the tag
abbrev pub BeginsElse : ℕ → List ℕ → Type 0
BeginsElse tag [] = Unit {0}
BeginsElse tag (first ∷ rest) = first ≡ tag → ⊥

pub begins_value : (tag other : ℕ) (contents rest : List ℕ) → (other ≡ tag → ⊥) → BeginsElse tag (tlv other contents ++ rest)
unfolding tlv
begins_value tag other contents rest differs = differs

pub begins_last : (tag other : ℕ) (contents : List ℕ) → (other ≡ tag → ⊥) → BeginsElse tag (tlv other contents)
unfolding tlv
begins_last tag other contents differs = differs

pub begins_optional : (tag other : ℕ) (written : Option (List ℕ)) (rest : List ℕ) → (other ≡ tag → ⊥) → BeginsElse tag rest → BeginsElse tag (optional other written ++ rest)
begins_optional tag other None rest differs begins = begins
begins_optional tag other (Some contents) rest differs begins = begins_value tag other contents rest differs

optional_written : (tag : ℕ) (contents rest : List ℕ) → tag % 32 < 31 → length contents ≤ 65536 → optional_at tag (tlv tag contents ++ rest) ≡ Some (Some contents, rest)
unfolding optional_at tlv
optional_written tag contents rest low small =
    rw (eq-eqb tag tag refl, expect_again tag contents rest low small) refl

optional_left : (tag : ℕ) (rest : List ℕ) → BeginsElse tag rest → optional_at tag rest ≡ Some (None, rest)
unfolding optional_at
optional_left tag [] begins = refl
optional_left tag (first ∷ rest) begins = rw (ne_eqb first tag begins) refl

-- the contents of what is written, if it is, are few
abbrev pub IsSmall : Option (List ℕ) → Type 0
IsSmall written = IfSome written (λ contents. length contents ≤ 65536)

pub optional_again : (tag : ℕ) (written : Option (List ℕ)) (rest : List ℕ) → tag % 32 < 31 → IsSmall written → BeginsElse tag rest → optional_at tag (optional tag written ++ rest) ≡ Some (written, rest)
optional_again tag None rest low small begins = optional_left tag rest begins
optional_again tag (Some contents) rest low small begins = optional_written tag contents rest low small

-- of few bytes few are left behind a value

pub expect_next : (tag : ℕ) (contents rest : List ℕ) → tag % 32 < 31 → length (tlv tag contents ++ rest) ≤ 65536 → (expect_at tag (tlv tag contents ++ rest) ≡ Some (contents, rest)) × (length rest ≤ 65536)
expect_next tag contents rest low small =
    let size = length-append (tlv tag contents) rest in
    let least = (value_size tag contents).least in
    (expect_again tag contents rest low (omega (arith, size, least)), omega (arith, size))

pub optional_next : (tag : ℕ) (written : Option (List ℕ)) (rest : List ℕ) → tag % 32 < 31 → length (optional tag written ++ rest) ≤ 65536 → BeginsElse tag rest
    → (optional_at tag (optional tag written ++ rest) ≡ Some (written, rest)) × (length rest ≤ 65536)
optional_next tag None rest low small begins = (optional_left tag rest begins, small)
optional_next tag (Some contents) rest low small begins =
    let size = length-append (tlv tag contents) rest in
    let least = (value_size tag contents).least in
    (optional_written tag contents rest low (omega (arith, size, least)), omega (arith, size))

-- ---- the same at the end

pub record IsLast (bytes : List ℕ) (tag : ℕ) (written : Option (List ℕ)) : Type 0 where
  pub spelled : bytes ≡ optional tag written
  pub inner : IfSome written IsBytes

pub last_takes : (tag : ℕ) (bytes : List ℕ) (written : Option (List ℕ)) → IsBytes bytes → last_at tag bytes ≡ Some written → IsLast bytes tag written
unfolding last_at
last_takes tag [] written each e = subst (λ (y : Option (List ℕ)). IsLast [] tag y) (some_is None written e) (record { spelled = refl; inner = tt })
last_takes tag (first ∷ rest) written each e =
    bind_then (whole_at tag (first ∷ rest)) _ written e (λ contents read then.
    let t = whole_takes tag (first ∷ rest) contents each read in
    subst (λ (y : Option (List ℕ)). IsLast (first ∷ rest) tag y) (some_is (Some contents) written then) (record { spelled = t.spelled; inner = t.inner }))

last_written : (tag : ℕ) (contents : List ℕ) → whole_at tag (tlv tag contents) ≡ Some contents → last_at tag (tlv tag contents) ≡ Some (Some contents)
unfolding last_at tlv
last_written tag contents again = rw again refl

pub last_again : (tag : ℕ) (written : Option (List ℕ)) → tag % 32 < 31 → IsSmall written → last_at tag (optional tag written) ≡ Some written
unfolding last_at
last_again tag None low small = refl
last_again tag (Some contents) low small = last_written tag contents (whole_again tag contents low small)
