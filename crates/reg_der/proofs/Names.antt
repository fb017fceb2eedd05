-- Bytes are a Name if the value at their front is one, and is all of them.
use Rattle.std.proofs.Common.{◌≡◌, ℕ, ◌≤◌, List, [], ◌++◌, length, sym, ap, subst, ◌∙◌}
use Rattle.std.proofs.lemmas.List.{append-nil, nil_from_length}
use Rattle.reg_der.specs.Der.{IsTlv}
use Rattle.reg_der.specs.Authority.{IsIssuerName}
use Rattle.reg_der.proofs.ValueLemmas.{no_two_prefixes}

-- a SEQUENCE with contents, and nothing after it
pub name_made : (name raw contents rest : List ℕ) (tag : ℕ) → IsTlv raw tag contents → name ≡ raw ++ rest → tag ≡ 48 → 1 ≤ length contents → length rest ≡ 0 → length name ≤ 1024 → IsIssuerName name
name_made name raw contents rest tag is parts sequence some nothing short =
    let whole : raw ≡ name = sym (parts ∙ ap (λ (t : List ℕ). raw ++ t) (nil_from_length rest nothing) ∙ append-nil raw) in
    let as_sequence : IsTlv raw 48 contents = subst (λ (t : ℕ). IsTlv raw t contents) sequence is in
    record { contents = contents; sequence = subst (λ (t : List ℕ). IsTlv t 48 contents) whole as_sequence; some = some; short = short }

pub record IsWhole (contents rest : List ℕ) (tag : ℕ) : Type 0 where
  pub sequence : tag ≡ 48
  pub some : 1 ≤ length contents
  pub nothing : length rest ≡ 0

-- the front of a name is all of it
pub name_parts : (name raw contents rest : List ℕ) (tag : ℕ) → IsTlv raw tag contents → name ≡ raw ++ rest → IsIssuerName name → IsWhole contents rest tag
name_parts name raw contents rest tag is parts as_name =
    let same = no_two_prefixes raw rest contents name [] as_name.contents tag 48 is as_name.sequence (sym parts ∙ sym (append-nil name)) in
    let some = as_name.some in
    record { sequence = same.1; some = rw same.2 some; nothing = ap length same.3 }
