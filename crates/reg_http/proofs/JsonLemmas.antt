-- The JSON value of a body.
use Rattle.std.proofs.Common.{◌≡◌, ℕ, List, None, Bool, false, cond, ap, IsUtf8}
use Rattle.std.specs.Str.{is_utf8}
use Rattle.std.proofs.lemmas.Bool.{false_from_ne_true}
use Rattle.std.proofs.lemmas.Str.{is_utf8-from_IsUtf8, IsUtf8-from_is_utf8}
use Rattle.serde_json.specs.Read.{read}
use Rattle.reg_http.specs.RoutedRequests.{json_of}

-- a body that is no UTF-8 has none
pub json_none : (body : List ℕ) → ¬ (IsUtf8 body) → json_of body ≡ None
unfolding json_of
json_none body not_text =
    let off : is_utf8 body ≡ false = false_from_ne_true (is_utf8 body) (λ on. not_text (IsUtf8-from_is_utf8 body on)) in
    ap (λ (test : Bool). cond test (read body) None) off

-- the value of a text
pub json_is : (body : List ℕ) → IsUtf8 body → json_of body ≡ read body
unfolding json_of
json_is body text = ap (λ (test : Bool). cond test (read body) None) (is_utf8-from_IsUtf8 body text)
