-- The key identifiers after a Name, one after another.
use Rattle.std.proofs.Common.{◌≡◌, ℕ, zero, suc, ◌+◌, ◌<◌, ◌≤◌, ◌^◌, Bool, true, false, cond, eqb, ltb, leb, List, [], ◌∷◌, ◌++◌, length, take, drop, get_or, Option, Some, None, refl, sym, ap, subst, ◌∙◌, arith, inl, inr}
use Rattle.std.specs.Prelude.{◌&&◌, ◌↔◌, IsSome, unwrap_or}
use Rattle.std.specs.Int.{bytes_high_first}
use Rattle.std.proofs.Math.Nat.{mod-eq_of_lt, pow-le-pow_right}
use Rattle.std.proofs.lemmas.Bool.{cases_Bool, cases_lt, lt-ltb, le-ltb, le-leb, lt-leb, eqb-true, false≢true}
use Rattle.std.proofs.lemmas.List.{take_at, drop_at, length-append, length-take, append-nil, nil_from_length, get_or_past, get_or_default}
use Rattle.reg_core.specs.Integer.{IsBytes, value}
use Rattle.reg_core.specs.Issuer as core
use Rattle.reg_core.specs.Label.{IsLabel}
use Rattle.reg_core.specs.Sequence.{◌>>=◌}
use Rattle.reg_core.proofs.PublicLaws.{octets_are_below, octets_are_lowest, is_bytes-take, is_bytes-append}
use Rattle.reg_der.specs.Der.{tlv, IsTlv}
use Rattle.reg_der.specs.ValueReading.{Parts, value_at}
use Rattle.reg_der.specs.Authority.{IsIssuerName, IsStoredName, IsIssuer, name_in, after_name, name_of, key_identifiers, key_identifier_at, identifier_value, identifier_at, identifiers_by, identifiers_at, identifier_for, without_latest, earlier_identifiers, with_identifier, HasIdentifier, IdentifiersFollow, IsPlain, NamesArePlain}
use Rattle.reg_der.specs.declared.identifiers.KeyIdentifier.{KeyIdentifier}
use Rattle.reg_der.proofs.ValueLemmas.{bind_then, value_takes, value_again, value_reads, length-tlv_at_least, is_bytes-tlv}

-- ---- the number in eight octets

-- before the last of eight octets it is below 2^56
pub value-fits_eight : (octets : List ℕ) (i : ℕ) → IsBytes octets → length octets ≤ 8 → i < length octets → value (take i octets) < 72057594037927936
value-fits_eight octets i h few lt =
    let below = octets_are_below (take i octets) (is_bytes-take i octets h) in
    let places : 256 ^ length (take i octets) ≤ 256 ^ 7 = pow-le-pow_right {n = 256} (omega arith) {i = length (take i octets)} {j = 7} (omega (arith, length-take i octets)) in
    omega arith

value-eight : (number : ℕ) → number < 2 ^ 64 → value (bytes_high_first 8 number) ≡ number
value-eight number fits = (octets_are_lowest 8 number).spelled ∙ mod-eq_of_lt (omega arith)

-- ---- one key identifier

abbrev pub is_identifier : Parts → Bool
is_identifier parts = (eqb parts.tag 128 && ltb 8 (length parts.contents)) && ltb (length parts.contents) 73

abbrev pub identifier_in : Parts → KeyIdentifier
identifier_in parts = record { first = value (take 8 parts.contents); octets = drop 8 parts.contents }

abbrev identifier_or_none : Parts × List ℕ → Option (KeyIdentifier × List ℕ)
identifier_or_none x = cond (is_identifier x.0) (Some (identifier_in x.0, x.1)) None

abbrev some_read : KeyIdentifier × List ℕ → Option (KeyIdentifier × List ℕ)
some_read x = Some x

-- a test that let through
passed : {A : Type 0} (b : Bool) (x y : A) → cond b (Some x) None ≡ Some y → x ≡ y
passed true x y e = cc
passed false x y e = absurd cc

pub identifier_takes : (bytes : List ℕ) (x : KeyIdentifier × List ℕ) → IsBytes bytes → identifier_at bytes ≡ Some x → (length x.1 < length bytes) × IsBytes x.1
unfolding identifier_at
identifier_takes bytes x each e =
    bind_then (value_at bytes) identifier_or_none x e (λ read is then.
    let t = value_takes bytes read each is in
    let size = length-tlv_at_least read.0.tag read.0.contents in
    subst (λ (y : KeyIdentifier × List ℕ). (length y.1 < length bytes) × IsBytes y.1) (passed {A = KeyIdentifier × List ℕ} (is_identifier read.0) (identifier_in read.0, read.1) x then)
    (omega (arith, ap length t.taken.parts, length-append (tlv read.0.tag read.0.contents) read.1, size), t.taken.each))

again_by : (head octets rest : List ℕ) (first : ℕ) → length head ≡ 8 → value head ≡ first → IsLabel octets → identifier_at (tlv 128 (head ++ octets) ++ rest) ≡ Some (record { first = first; octets = octets }, rest)
unfolding identifier_at
again_by head octets rest first eight spelled label =
    let some = label.not_empty in
    let few = label.at_most_64 in
    let size = length-append head octets in
    let read = value_again 128 (head ++ octets) rest (omega arith) (omega arith) in
    rw (
      read,
      lt-ltb 8 (length (head ++ octets)) (omega arith),
      lt-ltb (length (head ++ octets)) 73 (omega arith),
      take_at head octets 8 eight,
      drop_at head octets 8 eight,
      spelled,
    ) refl

pub identifier_again : (first : ℕ) (octets rest : List ℕ) → first < 2 ^ 64 → IsLabel octets → identifier_at (identifier_value first octets ++ rest) ≡ Some (record { first = first; octets = octets }, rest)
unfolding identifier_value
identifier_again first octets rest fits label = again_by (bytes_high_first 8 first) octets rest first (octets_are_lowest 8 first).counted (value-eight first fits) label

-- ---- all of them

abbrev with_first : KeyIdentifier → List KeyIdentifier → Option (List KeyIdentifier)
with_first x xs = Some (x ∷ xs)

abbrev then_more : ℕ → KeyIdentifier × List ℕ → Option (List KeyIdentifier)
then_more fuel x = identifiers_by fuel x.1 >>= with_first x.0

pub bind_same : {A B : Type 0} (read : Option A) (f g : A → Option B) → ((x : A) → read ≡ Some x → f x ≡ g x) → (read >>= f) ≡ (read >>= g)
bind_same (Some x) f g same = same x refl
bind_same None f g same = refl

none_there : (fuel : ℕ) → identifiers_by fuel [] ≡ Some []
none_there zero = refl
none_there (suc fuel) = refl

-- fuel for each byte is enough
room : (a b : ℕ) (bytes : List ℕ) → IsBytes bytes → length bytes ≤ a → length bytes ≤ b → identifiers_by a bytes ≡ identifiers_by b bytes
room a b [] each la lb = none_there a ∙ sym (none_there b)
room zero b (first ∷ rest) each la lb = absurd (omega arith)
room (suc a) zero (first ∷ rest) each la lb = absurd (omega arith)
room (suc a) (suc b) (first ∷ rest) each la lb =
    bind_same (identifier_at (first ∷ rest)) (then_more a) (then_more b) (λ x read.
    let less = identifier_takes (first ∷ rest) x each read in
    let shorter = less.0 in
    ap (λ (o : Option (List KeyIdentifier)). o >>= with_first x.0) (room a b x.1 less.1 (omega arith) (omega arith)))

pub identifiers_step : (bytes : List ℕ) (x : KeyIdentifier) (rest : List ℕ) → IsBytes bytes → 1 ≤ length bytes → identifier_at bytes ≡ Some (x, rest) → identifiers_at bytes ≡ (identifiers_at rest >>= with_first x)
identifiers_step [] x rest each some read = absurd (omega arith)
identifiers_step (first ∷ after) x rest each some read =
    let less = identifier_takes (first ∷ after) (x, rest) each read in
    let shorter = less.0 in
    rw read (ap (λ (o : Option (List KeyIdentifier)). o >>= with_first x) (room (length after) (length rest) rest less.1 (omega arith) (omega arith)))

pub identifiers_fail : (bytes : List ℕ) → 1 ≤ length bytes → identifier_at bytes ≡ None → identifiers_at bytes ≡ None
identifiers_fail [] some read = absurd (omega arith)
identifiers_fail (first ∷ rest) some read = rw read refl

-- ---- whether bytes are key identifiers: what is left of them are, exactly where all are

pub record AreLeft (rest bytes : List ℕ) : Type 0 where
  pub same : IsSome (identifiers_at rest) ↔ IsSome (identifiers_at bytes)
  pub each : IsBytes rest

pub left_first : (bytes : List ℕ) → IsBytes bytes → AreLeft bytes bytes
left_first bytes each = record { same = (λ a. a, λ a. a); each = each }

more_some : (x : KeyIdentifier) (read : Option (List KeyIdentifier)) → IsSome read ↔ IsSome (read >>= with_first x)
more_some x (Some xs) = (λ a. refl, λ a. refl)
more_some x None = (λ a. a, λ a. a)

pub left_next : (bytes rest after : List ℕ) (x : KeyIdentifier) → AreLeft rest bytes → 1 ≤ length rest → identifier_at rest ≡ Some (x, after) → AreLeft after bytes
left_next bytes rest after x left some read =
    let step = identifiers_step rest x after left.each some read in
    let more = more_some x (identifiers_at after) in
    record {
      same = (λ a. left.same.0 (subst (λ (o : Option (List KeyIdentifier)). IsSome o) (sym step) (more.0 a)), λ b. more.1 (subst (λ (o : Option (List KeyIdentifier)). IsSome o) step (left.same.1 b)));
      each = (identifier_takes rest (x, after) left.each read).1;
    }

pub left_none : (bytes rest : List ℕ) → AreLeft rest bytes → length rest ≡ 0 → IsSome (identifiers_at bytes)
left_none bytes rest left none =
    left.same.0 (subst (λ (l : List ℕ). IsSome (identifiers_at l)) (sym (nil_from_length rest none)) refl)

pub left_wrong : (bytes rest : List ℕ) → AreLeft rest bytes → 1 ≤ length rest → identifier_at rest ≡ None → IsSome (identifiers_at bytes) → ⊥
left_wrong bytes rest left some read are =
    false≢true (subst (λ (o : Option (List KeyIdentifier)). IsSome o) (identifiers_fail rest some read) (left.same.1 are))

-- ---- the first that a CRL has

abbrev pub all_of : List ℕ → List KeyIdentifier
all_of bytes = unwrap_or (identifiers_at bytes) []

pub record Seeks (number : ℕ) (rest bytes : List ℕ) : Type 0 where
  pub same : identifier_for (all_of rest) number ≡ identifier_for (all_of bytes) number
  pub some : IsSome (identifiers_at rest)
  pub each : IsBytes rest

pub seeks_first : (number : ℕ) (bytes : List ℕ) → IsBytes bytes → IsSome (identifiers_at bytes) → Seeks number bytes bytes
seeks_first number bytes each some = record { same = refl; some = some; each = each }

some_rest : (x : KeyIdentifier) (read : Option (List KeyIdentifier)) → IsSome (read >>= with_first x) → unwrap_or (read >>= with_first x) [] ≡ x ∷ unwrap_or read []
some_rest x (Some xs) is = refl
some_rest x None is = absurd (false≢true is)

-- of those that are left the first is this one
left_are : (number : ℕ) (rest after bytes : List ℕ) (x : KeyIdentifier) → Seeks number rest bytes → 1 ≤ length rest → identifier_at rest ≡ Some (x, after) → (all_of rest ≡ x ∷ all_of after) × IsSome (identifiers_at after)
left_are number rest after bytes x seeks some read =
    let step = identifiers_step rest x after seeks.each some read in
    let is : IsSome (identifiers_at after >>= with_first x) = subst (λ (o : Option (List KeyIdentifier)). IsSome o) step seeks.some in
    (ap (λ (o : Option (List KeyIdentifier)). unwrap_or o []) step ∙ some_rest x (identifiers_at after) is, (more_some x (identifiers_at after)).1 is)

pub seeks_next : (number : ℕ) (rest after bytes : List ℕ) (x : KeyIdentifier) → Seeks number rest bytes → 1 ≤ length rest → identifier_at rest ≡ Some (x, after) → number < x.first → Seeks number after bytes
seeks_next number rest after bytes x seeks some read later =
    let are = left_are number rest after bytes x seeks some read in
    let passes : identifier_for (x ∷ all_of after) number ≡ identifier_for (all_of after) number = rw (lt-leb x.first number later) refl in
    record {
      same = sym (ap (λ (l : List KeyIdentifier). identifier_for l number) are.0 ∙ passes) ∙ seeks.same;
      some = are.1;
      each = (identifier_takes rest (x, after) seeks.each read).1;
    }

pub seeks_found : (number : ℕ) (rest after bytes : List ℕ) (x : KeyIdentifier) → Seeks number rest bytes → 1 ≤ length rest → identifier_at rest ≡ Some (x, after) → x.first ≤ number → Some x.octets ≡ identifier_for (all_of bytes) number
seeks_found number rest after bytes x seeks some read reached =
    let are = left_are number rest after bytes x seeks some read in
    let here : identifier_for (x ∷ all_of after) number ≡ Some x.octets = rw (le-leb x.first number reached) refl in
    sym (ap (λ (l : List KeyIdentifier). identifier_for l number) are.0 ∙ here) ∙ seeks.same

pub seeks_none : (number : ℕ) (rest bytes : List ℕ) → Seeks number rest bytes → identifier_at rest ≡ None → None ≡ identifier_for (all_of bytes) number
seeks_none number [] bytes seeks read = seeks.same
seeks_none number (first ∷ rest) bytes seeks read =
    absurd (false≢true (subst (λ (o : Option (List KeyIdentifier)). IsSome o) (identifiers_fail (first ∷ rest) (omega arith) read) seeks.some))

-- ---- what is kept of a Name

front_is : (name rest : List ℕ) (is : IsIssuerName name) → value_at (name ++ rest) ≡ Some (record { tag = 48; contents = is.contents }, rest)
front_is name rest is = value_reads (name ++ rest) name rest is.contents 48 is.sequence refl

pub name_in-is : (name rest : List ℕ) → IsIssuerName name → name_in (name ++ rest) ≡ name
unfolding name_in
name_in-is name rest is = rw (front_is name rest is) (sym is.sequence.spelled)

pub behind-is : (name rest : List ℕ) → IsIssuerName name → after_name (name ++ rest) ≡ rest
unfolding after_name
behind-is name rest is = rw (front_is name rest is) refl

name_bytes : (name : List ℕ) → IsIssuerName name → IsBytes name
name_bytes name is =
    subst IsBytes (sym is.sequence.spelled) (is_bytes-tlv 48 is.contents (omega arith) is.sequence.short is.sequence.byte_contents)

behind_bytes : (kept : List ℕ) → IsBytes kept → IsBytes (after_name kept)
unfolding after_name
behind_bytes kept each = by (value_at kept) refl
  where
    by : (read : Option (Parts × List ℕ)) → value_at kept ≡ read → IsBytes (unwrap_or (Rattle.std.specs.Prelude.option_map (λ (x : Parts × List ℕ). x.1) read) [])
    by (Some x) is = (value_takes kept x each is).taken.each
    by None is = λ i. omega arith

-- a Name alone, as it was before there were key identifiers
pub name_kept : (name : List ℕ) → IsIssuerName name → (IsStoredName name) × (name_in name ≡ name) × (after_name name ≡ [])
name_kept name is =
    let whole : name ++ [] ≡ name = append-nil name in
    let front : name_in name ≡ name = ap name_in (sym whole) ∙ name_in-is name [] is in
    let behind : after_name name ≡ [] = ap after_name (sym whole) ∙ behind-is name [] is in (
      record {
        each = name_bytes name is;
        name = subst IsIssuerName (sym front) is;
        identifiers = subst (λ (l : List ℕ). IsSome (identifiers_at l)) (sym behind) refl;
      },
      front,
      behind,
    )

pub names_are_plain : NamesArePlain
names_are_plain issuer is =
    let kept = name_kept issuer.name is in
    record {
      within = kept.0;
      name = kept.1;
      none = λ number. ap (λ (l : List ℕ). identifier_for (all_of l) number) kept.2;
    }

-- ---- one key identifier more

label_bytes : (octets : List ℕ) → IsLabel octets → IsBytes octets
label_bytes octets label i =
    elim (cases_lt i (length octets)) [
      | inl lt ↦ label.bytes i 0 lt
      | inr le ↦ rw (get_or_past octets i 0 le) (omega arith)
    ]

value_bytes : (first : ℕ) (octets : List ℕ) → IsLabel octets → IsBytes (identifier_value first octets)
unfolding identifier_value
value_bytes first octets label =
    let head = bytes_high_first 8 first in
    let lowest = octets_are_lowest 8 first in
    let few = label.at_most_64 in
    is_bytes-tlv 128 (head ++ octets) (omega arith) (omega (arith, length-append head octets, lowest.counted)) (is_bytes-append head octets lowest.each_byte (label_bytes octets label))

value_some : (first : ℕ) (octets rest : List ℕ) → 1 ≤ length (identifier_value first octets ++ rest)
unfolding identifier_value
value_some first octets rest =
    let size = length-tlv_at_least 128 (bytes_high_first 8 first ++ octets) in
    omega (arith, length-append (tlv 128 (bytes_high_first 8 first ++ octets)) rest)

-- key identifiers that are left behind a new one: below its number they tell what all told
record AreOthers (first : ℕ) (old others : List ℕ) : Type 0 where
  pub some : IsSome (identifiers_at others)
  pub each : IsBytes others
  pub same : (number : ℕ) → number < first → identifier_for (all_of others) number ≡ identifier_for (all_of old) number

others_are : (first : ℕ) (old : List ℕ) → IsBytes old → IsSome (identifiers_at old) → AreOthers first old (earlier_identifiers first old)
unfolding earlier_identifiers
others_are first old each some = by (identifier_at old) refl
  where
    by : (read : Option (KeyIdentifier × List ℕ)) → identifier_at old ≡ read → AreOthers first old (without_latest first read old)
    by None is = record { some = some; each = each; same = λ number before. refl }
    by (Some x) is = elim (cases_Bool (eqb x.0.first first)) [
      | inl here ↦ rw here (let starts : x.0.first ≡ first = eqb-true x.0.first first here in
          let full : 1 ≤ length old = (let shorter = (identifier_takes old x each is).0 in omega arith) in
          let are = left_are 0 old x.1 old x.0 (seeks_first 0 old each some) full is in
          record {
            some = are.1;
            each = (identifier_takes old x each is).1;
            same = λ number before.
                let passes : identifier_for (x.0 ∷ all_of x.1) number ≡ identifier_for (all_of x.1) number = rw (lt-leb x.0.first number (omega arith)) refl in
                sym (ap (λ (l : List KeyIdentifier). identifier_for l number) are.0 ∙ passes);
          })
      | inr apart ↦ rw apart (record { some = some; each = each; same = λ number before. refl })
    ]

pub identifiers_follow : IdentifiersFollow
identifiers_follow issuer first octets is fits label =
    let kept = issuer.name in
    let name = name_in kept in
    let was = after_name kept in
    let others = others_are first was (behind_bytes kept is.name.each) is.name.identifiers in
    let old = earlier_identifiers first was in
    let more = identifier_value first octets ++ old in
    let x : KeyIdentifier = record { first = first; octets = octets } in
    let name_is : name_in (name ++ more) ≡ name = name_in-is name more is.name.name in
    let behind : after_name (name ++ more) ≡ more = behind-is name more is.name.name in
    let old_bytes = others.each in
    let more_bytes = is_bytes-append (identifier_value first octets) old (value_bytes first octets label) old_bytes in
    let read = identifier_again first octets old fits label in
    let step : identifiers_at more ≡ (identifiers_at old >>= with_first x) = identifiers_step more x old more_bytes (value_some first octets old) read in
    let some : IsSome (identifiers_at old >>= with_first x) = (more_some x (identifiers_at old)).0 others.some in
    let all : all_of (after_name (name ++ more)) ≡ x ∷ all_of old = ap all_of behind ∙ ap (λ (o : Option (List KeyIdentifier)). unwrap_or o []) step ∙ some_rest x (identifiers_at old) some in
    record {
      within = record {
        name = record {
          each = is_bytes-append name more (name_bytes name is.name.name) more_bytes;
          name = subst IsIssuerName (sym name_is) is.name.name;
          identifiers = subst (λ (l : List ℕ). IsSome (identifiers_at l)) (sym behind) (subst (λ (o : Option (List KeyIdentifier)). IsSome o) (sym step) some);
        };
        key = is.key;
      };
      name = name_is;
      key = refl;
      later = λ number reached. ap (λ (l : List KeyIdentifier). identifier_for l number) all ∙ (let here : identifier_for (x ∷ all_of old) number ≡ Some octets = rw (le-leb first number reached) refl in here);
      earlier = λ number before. ap (λ (l : List KeyIdentifier). identifier_for l number) all ∙ (let passes : identifier_for (x ∷ all_of old) number ≡ identifier_for (all_of old) number = rw (lt-leb first number before) refl in passes) ∙ others.same number before;
    }
