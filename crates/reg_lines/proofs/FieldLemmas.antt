-- Lemmas on the fields of a line.
use Rattle.std.proofs.Common.{◌≡◌, ◌≢◌, ◌==◌, ℕ, suc, ◌+◌, ◌-◌, ◌<◌, ◌≤◌, Bool, true, false, not, List, [], ◌∷◌, length, take, drop, Option, Some, None, refl, sym, ap, ◌∙◌, arith, cond, nat_lt, position, Bor, option_map, is_some, IsTrue}
use Rattle.std.specs.List.{position_or_len}
use Rattle.std.proofs.lemmas.List.{take_rest}
use Rattle.std.proofs.lemmas.Bool.{ltb-true, ltb-false}
use Rattle.reg_lines.specs.Fields.{fields_of, in_prefix, fields_after}

abbrev is_space : ℕ → Bool
is_space byte = byte == 32

-- a line has a field
front_some : (byte : ℕ) (fields : List (List ℕ)) → in_prefix byte fields ≢ []
front_some byte [] e = cc e
front_some byte (field ∷ fields) e = cc e

some_by : (byte : ℕ) (rest : List ℕ) (b : Bool) → cond b ([] ∷ fields_of rest) (in_prefix byte (fields_of rest)) ≢ []
some_by byte rest true e = cc e
some_by byte rest false e = front_some byte (fields_of rest) e

pub fields_some : (text : List ℕ) → fields_of text ≢ []
unfolding fields_of
fields_some [] e = cc e
fields_some (byte ∷ rest) e = some_by byte rest (byte == 32) e

-- up to the first space there is a field, and behind it are the others
pub fields_cut : (text : List ℕ) → position_or_len is_space text < length text
    → fields_of text ≡ take (position_or_len is_space text) text ∷ fields_of (drop (position_or_len is_space text + 1) text)
unfolding fields_of
fields_cut [] below = absurd (omega arith)
fields_cut (byte ∷ rest) below = by (byte == 32) refl (fields_cut rest)
  where
    by : (b : Bool) → (byte == 32) ≡ b
        → (position_or_len is_space rest < length rest
        → fields_of rest ≡ take (position_or_len is_space rest) rest ∷ fields_of (drop (position_or_len is_space rest + 1) rest))
        → cond (byte == 32) ([] ∷ fields_of rest) (in_prefix byte (fields_of rest))
        ≡ take (position_or_len is_space (byte ∷ rest)) (byte ∷ rest) ∷ fields_of (drop (position_or_len is_space (byte ∷ rest) + 1) (byte ∷ rest))
    by true e more = rw e refl
    by false e more =
        let inside : position_or_len is_space rest < length rest = omega (arith, rw e at below) in
        rw (e, more inside) (step (position_or_len is_space rest))
      where
        step : (n : ℕ) → in_prefix byte (take n rest ∷ fields_of (drop (n + 1) rest)) ≡ take (1 + n) (byte ∷ rest) ∷ fields_of (drop (1 + n + 1) (byte ∷ rest))
        step n =
            let second : 1 + n + 1 ≡ suc (n + 1) = omega arith in
            let first : 1 + n ≡ suc n = omega arith in
            rw (second, first) refl

-- with no space there is one field alone
pub fields_last : (text : List ℕ) → length text ≤ position_or_len is_space text → fields_of text ≡ text ∷ []
unfolding fields_of
fields_last [] all = refl
fields_last (byte ∷ rest) all = by (byte == 32) refl (fields_last rest)
  where
    by : (b : Bool) → (byte == 32) ≡ b → (length rest ≤ position_or_len is_space rest → fields_of rest ≡ rest ∷ [])
        → cond (byte == 32) ([] ∷ fields_of rest) (in_prefix byte (fields_of rest)) ≡ (byte ∷ rest) ∷ []
    by true e more = absurd (omega (arith, rw e at all))
    by false e more =
        let inside : length rest ≤ position_or_len is_space rest = omega (arith, rw e at all) in
        rw (e, more inside) refl

-- the same by the place that a search gives
cut_by : (text : List ℕ) (n : ℕ) (b : Bool) → nat_lt (position_or_len is_space text) (length text) ≡ b
    → Some n ≡ cond b (Some (position_or_len is_space text)) None
    → fields_of text ≡ take n text ∷ fields_of (drop (n + 1) text)
cut_by text n true e found =
    let same : n ≡ position_or_len is_space text = cc in
    rw same (fields_cut text (ltb-true _ _ e))
cut_by text n false e found = cc

pub fields_cut_at : (text : List ℕ) (n : ℕ) → Some n ≡ position is_space text → fields_of text ≡ take n text ∷ fields_of (drop (n + 1) text)
fields_cut_at text n found = cut_by text n _ refl found

uncut_by : (text : List ℕ) (b : Bool) → nat_lt (position_or_len is_space text) (length text) ≡ b
    → None ≡ cond b (Some (position_or_len is_space text)) None → fields_of text ≡ text ∷ []
uncut_by text true e found = cc
uncut_by text false e found = fields_last text (omega (arith, ltb-false _ _ e))

pub fields_uncut : (text : List ℕ) → None ≡ position is_space text → fields_of text ≡ text ∷ []
fields_uncut text found = uncut_by text _ refl found

-- what is left, as a test of it
pub left_tested : (rest : Option (Bor (List ℕ))) (left : List (List ℕ)) (r : Bool)
    → fields_after (option_map (λ x. x.now) rest) ≡ left → is_some rest ≡ not r → (IsTrue r → left ≡ []) × (left ≡ [] → IsTrue r)
left_tested None left true shown tested = (λ _. sym shown, λ _. refl)
left_tested None left false shown tested = cc
left_tested (Some text) left true shown tested = cc
left_tested (Some text) left false shown tested = (λ e. cc e, λ e. absurd (fields_some text.now (shown ∙ e)))

-- the field up to the first space, and those behind it
pub left_cut : (rest : Option (Bor (List ℕ))) (left : List (List ℕ)) (text : Bor (List ℕ)) (n : ℕ)
    → fields_after (option_map (λ x. x.now) rest) ≡ left → rest ≡ Some text → Some n ≡ position is_space text.now
    → left ≡ take n text.now ∷ fields_of (take (length text.now - (n + 1)) (drop (n + 1) text.now))
left_cut rest left text n shown is found =
    sym shown ∙ ap (λ o. fields_after (option_map (λ x. x.now) o)) is ∙ fields_cut_at text.now n found
    ∙ ap (λ l. take n text.now ∷ fields_of l) (sym (take_rest text.now (n + 1)))

-- the last field
pub left_uncut : (rest : Option (Bor (List ℕ))) (left : List (List ℕ)) (text : Bor (List ℕ))
    → fields_after (option_map (λ x. x.now) rest) ≡ left → rest ≡ Some text → None ≡ position is_space text.now → left ≡ text.now ∷ []
left_uncut rest left text shown is found =
    sym shown ∙ ap (λ o. fields_after (option_map (λ x. x.now) o)) is ∙ fields_uncut text.now found
