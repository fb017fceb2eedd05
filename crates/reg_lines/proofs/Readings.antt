-- Lemmas on what is read from one field.
use Rattle.std.proofs.Common.{◌≡◌, ◌↔◌, ℕ, ◌%◌, ◌<◌, Bool, true, false, cond, nat_lt, List, length, Option, Some, None, Ok, Err, IsTrue, refl, sym, ap, ◌∙◌, arith}
use Rattle.std.specs.Prelude.{Result}
use Rattle.std.specs.Result.{result_ok}
use Rattle.std.specs.List.{AllPass}
use Rattle.std.proofs.lemmas.Bool.{false≢true, lt-ltb, ltb-true}
use Rattle.hex.specs.Hex.{decode_of, is_hex_digit}
use Rattle.hex.specs.declared.error.FromHexError.{FromHexError}
use Rattle.hex.proofs.HexLemmas.{decode_of-digits, decode_of-odd, decode_of-ok}
use Rattle.reg_lines.specs.Meaning.{decoded_bytes, IsHexOf}
use Rattle.reg_lines.specs.LineReading.{hex_of}

-- ---- hexadecimal digits

pub hex_of-is : (digits bytes : List ℕ) → IsHexOf digits bytes → hex_of digits ≡ Some bytes
unfolding hex_of
hex_of-is digits bytes is = rw (lt-ltb 0 (length digits) is.0, is.1) refl

ok_some : (r : Result (List ℕ) FromHexError) (bytes : List ℕ) → result_ok r ≡ Some bytes → r ≡ Ok bytes
ok_some (Ok other) bytes e = let same : other ≡ bytes = cc in ap (λ l. Ok l) same
ok_some (Err why) bytes e = cc e

pub hex_of-some : (digits bytes : List ℕ) → hex_of digits ≡ Some bytes → IsHexOf digits bytes
unfolding hex_of
hex_of-some digits bytes e = by (nat_lt 0 (length digits)) refl e
  where
    by : (b : Bool) → nat_lt 0 (length digits) ≡ b → cond b (result_ok (decode_of digits)) None ≡ Some bytes → IsHexOf digits bytes
    by true is e = (ltb-true 0 (length digits) is, ok_some (decode_of digits) bytes e)
    by false is e = cc e

-- the bytes of digits that are all right
pub hex_of-digits : (digits : List ℕ) → 0 < length digits → length digits % 2 ≡ 0 → AllPass is_hex_digit digits → hex_of digits ≡ Some (decoded_bytes digits)
hex_of-digits digits some even all =
    let found = decode_of-digits digits even all in
    hex_of-is digits (decoded_bytes digits) (some, rw found.1 refl)

no_hex : (digits : List ℕ) → ((bytes : List ℕ) → ¬ IsHexOf digits bytes) → hex_of digits ≡ None
no_hex digits never = by (hex_of digits) refl
  where
    by : (o : Option (List ℕ)) → hex_of digits ≡ o → o ≡ None
    by None e = refl
    by (Some bytes) e = absurd (never bytes (hex_of-some digits bytes e))

pub hex_of-empty : (digits : List ℕ) → length digits ≡ 0 → hex_of digits ≡ None
hex_of-empty digits none = no_hex digits (λ bytes is. let some : 0 < length digits = is.0 in omega arith)

pub hex_of-odd : (digits : List ℕ) → length digits % 2 ≡ 1 → hex_of digits ≡ None
hex_of-odd digits odd = no_hex digits (λ bytes is. cc (sym (decode_of-odd digits odd) ∙ is.1))

pub hex_of-other : (digits : List ℕ) → ¬ AllPass is_hex_digit digits → hex_of digits ≡ None
hex_of-other digits other = no_hex digits (λ bytes is. other (decode_of-ok digits bytes is.1).1)

-- the bytes by what a test of the digits says
pub hex_of-tested : (digits : List ℕ) (r : Bool) → 0 < length digits → length digits % 2 ≡ 0 → IsTrue r ↔ AllPass is_hex_digit digits
    → hex_of digits ≡ cond r (Some (decoded_bytes digits)) None
hex_of-tested digits true some even tested = hex_of-digits digits some even (tested.0 refl)
hex_of-tested digits false some even tested = hex_of-other digits (λ all. false≢true (tested.1 all))

-- the bytes that digits were decoded to
pub bytes_of-decoded : (digits bytes : List ℕ) → decode_of digits ≡ Ok bytes → decoded_bytes digits ≡ bytes
bytes_of-decoded digits bytes e = rw e refl
