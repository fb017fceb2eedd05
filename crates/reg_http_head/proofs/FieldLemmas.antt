-- The values of fields, one field after the other.
use Rattle.std.proofs.Common.{◌≡◌, ℕ, ◌+◌, ◌<◌, ◌≤◌, List, [], ◌∷◌, ◌++◌, map, filter, take, length, get_or, cond, Bool, ap, ◌∙◌, arith, length-append}
use Rattle.std.specs.Char.{to_ascii_lowercase}
use Rattle.std.proofs.lemmas.Slice.Eq.{bytes_eq-Decides}
use Rattle.httparse.specs.declared.spans.Span.{Span}
use Rattle.std.proofs.lemmas.List.{map-append, take_more}
use Rattle.std.proofs.lemmas.List.Elements.{filter-append}
use Rattle.httparse.specs.Spans.{header_bytes}
use Rattle.httparse.specs.declared.spans.HeaderSpan.{HeaderSpan}
use Rattle.reg_http_head.specs.Head.{values_of, is_named}

pub values_of-append : (name : List ℕ) (xs ys : List (List ℕ × List ℕ)) → values_of name (xs ++ ys) ≡ values_of name xs ++ values_of name ys
values_of-append name xs ys =
    ap (map (λ (field : List ℕ × List ℕ). field.1)) (filter-append (is_named name) xs ys)
    ∙ map-append (λ (field : List ℕ × List ℕ). field.1) (filter (is_named name) xs) (filter (is_named name) ys)

-- one field more
pub values_of-more : (head name : List ℕ) (fields : List HeaderSpan) (i : ℕ) (d : HeaderSpan) → i < length fields
    → values_of name (map (header_bytes head) (take (i + 1) fields))
    ≡ values_of name (map (header_bytes head) (take i fields)) ++ values_of name (header_bytes head (get_or fields i d) ∷ [])
values_of-more head name fields i d low =
    ap (λ (xs : List HeaderSpan). values_of name (map (header_bytes head) xs)) (take_more fields i d low)
    ∙ ap (values_of name) (map-append (header_bytes head) (take i fields) (get_or fields i d ∷ []))
    ∙ values_of-append name (map (header_bytes head) (take i fields)) (header_bytes head (get_or fields i d) ∷ [])

-- a field that has the name
pub values_of-named : (name : List ℕ) (field : List ℕ × List ℕ) → map to_ascii_lowercase field.0 ≡ map to_ascii_lowercase name
    → values_of name (field ∷ []) ≡ field.1 ∷ []
values_of-named name field same =
    let test = (bytes_eq-Decides (map to_ascii_lowercase field.0) (map to_ascii_lowercase name)).1 same in
    ap (λ (b : Bool). map (λ (f : List ℕ × List ℕ). f.1) (cond b (field ∷ []) [])) test

-- with one more there are several
pub several_from : (name : List ℕ) (field : List ℕ × List ℕ) (before : List (List ℕ)) → map to_ascii_lowercase field.0 ≡ map to_ascii_lowercase name
    → 1 ≤ length before → 2 ≤ length (before ++ values_of name (field ∷ []))
several_from name field before same some =
    let one = ap length (values_of-named name field same) in
    omega (arith, length-append before (values_of name (field ∷ [])), one, some)

-- an element that no list of fields has
abbrev pub no_span : Span
no_span = record { start = 0; end = 0 }

abbrev pub no_field : HeaderSpan
no_field = record { name = no_span; value = no_span }
