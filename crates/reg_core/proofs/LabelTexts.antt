-- `Label::of` gives what `label_of` defines.
use Rattle.std.proofs.Common.{◌≡◌, ◌↔◌, ℕ, Bool, true, false, ◌&&◌, cond, nat_le, nat_lt, List, length, Option, Some, None, IsSome, IfSome, refl, sym, ap, ◌∙◌, subst}
use Rattle.std.specs.List.{list_all}
use Rattle.std.proofs.lemmas.Bool.{and_parts, le-leb, leb-true, lt-ltb, ltb-true}
use Rattle.std.proofs.lemmas.List.Sums.{AllPass-from_list_all, list_all-from_AllPass}
use Rattle.reg_core.specs.Label.{IsLabel, label_of}

abbrev is_label : List ℕ → Bool
is_label text = nat_le 1 (length text) && nat_le (length text) 64 && list_all (λ b. nat_lt b 256) text

label_tested : (text : List ℕ) → IsLabel text → is_label text ≡ true
label_tested text is =
    rw (
      le-leb 1 (length text) is.not_empty,
      le-leb (length text) 64 is.at_most_64,
      list_all-from_AllPass (λ b. nat_lt b 256) text (λ k d below. lt-ltb _ 256 (is.bytes k d below)),
    ) refl

tested_label : (text : List ℕ) → is_label text ≡ true → IsLabel text
tested_label text e =
    let parts = and_parts (nat_le 1 (length text) && nat_le (length text) 64) (list_all (λ b. nat_lt b 256) text) e in
    let lengths = and_parts (nat_le 1 (length text)) (nat_le (length text) 64) parts.0 in
    record {
      not_empty = leb-true 1 (length text) lengths.0;
      at_most_64 = leb-true (length text) 64 lengths.1;
      bytes = λ k d below. ltb-true _ 256 (AllPass-from_list_all (λ b. nat_lt b 256) text parts.1 k d below);
    }

pub label_of-is : (text : List ℕ) → IsLabel text → label_of text ≡ Some text
unfolding label_of
label_of-is text is = rw (label_tested text is) refl

pub label_of-some : (text name : List ℕ) → label_of text ≡ Some name → (text ≡ name) × IsLabel name
unfolding label_of
label_of-some text name e = by (is_label text) refl e
  where
    by : (b : Bool) → is_label text ≡ b → cond b (Some text) None ≡ Some name → (text ≡ name) × IsLabel name
    by true is e =
        let same : text ≡ name = cc in
        (same, subst IsLabel same (tested_label text is))
    by false is e = cc e

-- what `Label::of` answers is the label that it is
pub reads_label : (r : Option (List ℕ)) (text : List ℕ) → IsSome r ↔ IsLabel text → IfSome r (λ name. name ≡ text) → r ≡ label_of text
reads_label (Some name) text some is = ap (λ l. Some l) is ∙ sym (label_of-is text (some.0 refl))
reads_label None text some is = sym (by (label_of text) refl)
  where
    by : (o : Option (List ℕ)) → label_of text ≡ o → o ≡ None
    by None e = refl
    by (Some name) e =
        let found = label_of-some text name e in
        cc (some.1 (subst IsLabel (sym found.0) found.1))
