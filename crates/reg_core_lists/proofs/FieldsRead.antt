-- Fields and lines that were written are read.
use Rattle.std.proofs.Common.{◌≡◌, ℕ, ◌+◌, ◌<◌, ◌≤◌, ◌^◌, true, ◌==◌, List, [], ◌∷◌, ◌++◌, length, drop, Option, Some, append_assoc, lit<, lit≤, refl, arith}
use Rattle.std.specs.Prelude.{decimal, flat_map, nat_le, nat_lt}
use Rattle.std.specs.List.{AllByRecursion, list_all, position_or_len}
use Rattle.std.specs.Str.Parse.{AllDigits}
use Rattle.std.proofs.Math.Seq.{drop-append-add, drop-append_seam, take-append_seam, take-length, drop-length}
use Rattle.std.proofs.lemmas.Bool.{le-leb, lt-ltb}
use Rattle.std.proofs.lemmas.Bool.Decides.{nat_tests}
use Rattle.std.proofs.lemmas.List.{append-nil, length-append}
use Rattle.std.proofs.lemmas.List.Folds.{list_all-append}
use Rattle.std.proofs.lemmas.List.Sums.{list_all-from_AllPass}
use Rattle.std.proofs.lemmas.Slice.Eq.{bytes_eq-Decides}
use Rattle.hex.specs.Hex.{IsBytes, encode_lower, is_hex_digit}
use Rattle.hex.proofs.HexLemmas.{decode_of-encode_lower, decode_of-ok}
use Rattle.reg_core.specs.Calendar.{IsMoment, date_time, moment_of, moment_text}
use Rattle.reg_core.specs.Label.{IsLabel, is_name}
use Rattle.reg_core.specs.Number.{number_of}
use Rattle.reg_core.specs.Serial.{IsSerial, serial_of, serial_text}
use Rattle.reg_core.specs.declared.grounds.Ground.{Ground}
use Rattle.reg_core.specs.declared.grounds.Ground.TheVariants.{Asked, Unauthorized, KeyCompromise, ControlLost, Affiliation, Superseded, Cessation, Misuse, NameNotPermitted, Nonconforming, Inaccurate}
use Rattle.reg_core.proofs.PublicLaws.{label_of-is, moment_of-text, numbers_are_read, serials_are_read, written_numbers_are_read, written_serials_are_read}
use Rattle.reg_core_lists.specs.FeedLines.{feed_line, field_text}
use Rattle.reg_core_lists.specs.FeedReading.{after_prefix, allowed_name_of, field_read, ground_of, line_read, octet_of, row_read, value_read}
use Rattle.reg_core_lists.specs.Fields.{ground_name, plain_text}
use Rattle.reg_core_lists.specs.declared.fields.Cell.{Cell}
use Rattle.reg_core_lists.specs.declared.fields.Cell.TheVariants.{Number, Serial, At, Text}

-- ---- the first byte of a value

module _ (low wanted : ℕ) (below : wanted < low) where
  pub first_at : (xs ys : List ℕ) → list_all (nat_le low) xs ≡ true → position_or_len (λ b. b == wanted) (xs ++ wanted ∷ ys) ≡ length xs
  first_at [] ys is = grind (arith, nat_tests)
  first_at (x ∷ xs) ys is = grind (arith, nat_tests, first_at xs ys)

  pub nowhere : (xs : List ℕ) → list_all (nat_le low) xs ≡ true → position_or_len (λ b. b == wanted) xs ≡ length xs
  nowhere [] is = refl
  nowhere (x ∷ xs) is = grind (arith, nat_tests, nowhere xs)

-- ---- beginnings, lines and fields

pub after_written : (prefix rest : List ℕ) → after_prefix prefix (prefix ++ rest) ≡ Some rest
after_written prefix rest = rw (take-append_seam prefix rest, (bytes_eq-Decides prefix prefix).1 refl, drop-append_seam prefix rest) refl

-- a field's bytes are from `-` (45) on, and a line's from a space (32) on
abbrev pub IsField : List ℕ → Type 0
IsField text = list_all (nat_le 45) text ≡ true

abbrev pub IsLine : List ℕ → Type 0
IsLine text = list_all (nat_le 32) text ≡ true

-- what can follow a field in its line
abbrev pub EndsField : List ℕ → Type 0
EndsField [] = Unit {0}
EndsField (byte ∷ rest) = byte ≡ 32

pub field_found : (text more : List ℕ) → IsField text → EndsField more → field_read (32 ∷ text ++ more) ≡ Some (text, more)
unfolding field_read
field_found text [] is ends =
    rw (append-nil text, nowhere 45 32 (lit< tt) text is, take-length text, drop-length text) refl
field_found text (byte ∷ rest) is ends =
    rw (ends, first_at 45 32 (lit< tt) text rest is, take-append_seam text (32 ∷ rest), drop-append_seam text (32 ∷ rest)) refl

-- a line is a word and its fields
pub line_found : (word fields more : List ℕ) → IsLine fields → line_read word ((word ++ fields ++ 10 ∷ []) ++ more) ≡ Some (fields, more)
unfolding line_read
line_found word fields more is =
    let regrouped : (word ++ fields ++ 10 ∷ []) ++ more ≡ word ++ (fields ++ 10 ∷ more) = simp append_assoc in
    let inside : nat_lt (length fields) (length (fields ++ 10 ∷ more)) ≡ true =
    lt-ltb (length fields) (length (fields ++ 10 ∷ more)) (omega (arith, length-append fields (10 ∷ more))) in
    let behind : drop (length fields + 1) (fields ++ 10 ∷ more) ≡ more = drop-append-add fields (10 ∷ more) 1 in
    rw (
      regrouped,
      after_written word (fields ++ 10 ∷ more),
      first_at 32 10 (lit< tt) fields more is,
      inside,
      take-append_seam fields (10 ∷ more),
      behind,
    ) refl

pub field_in_line : (text : List ℕ) → IsField text → IsLine text
field_in_line [] is = refl
field_in_line (byte ∷ rest) is = grind (arith, nat_tests, field_in_line rest)

pub joined : (low : ℕ) (a b : List ℕ) → list_all (nat_le low) a ≡ true → list_all (nat_le low) b ≡ true → list_all (nat_le low) (a ++ b) ≡ true
joined low a b x y = rw (list_all-append (nat_le low) a b, x, y) refl

abbrev pub HasFields : List Cell → Type 0
HasFields cells = AllByRecursion (λ cell. IsField (plain_text cell)) cells

pub fields_in_line : (cells : List Cell) → HasFields cells → IsLine (flat_map field_text cells)
fields_in_line [] all = refl
fields_in_line (cell ∷ cells) all =
    joined 32 (plain_text cell) (flat_map field_text cells) (field_in_line (plain_text cell) all.0) (fields_in_line cells all.1)

pub ends_field : (cells : List Cell) → EndsField (flat_map field_text cells)
ends_field [] = tt
ends_field (cell ∷ cells) = refl

pub written_line : (word : List ℕ) (cells : List Cell) (more : List ℕ) → HasFields cells
    → line_read word (feed_line word cells ++ more) ≡ Some (flat_map field_text cells, more)
unfolding feed_line
written_line word cells more all = line_found word (flat_map field_text cells) more (fields_in_line cells all)

-- the text of a cell can be a field, and has this value
pub record Says (cell : Cell) {A : Type 0} (value : List ℕ → Option A) (it : A) : Type 0 where
  pub bytes : IsField (plain_text cell)
  pub reads : value (plain_text cell) ≡ Some it

-- the first value of a line that was written
pub written_value : {A : Type 0} {cell : Cell} {value : List ℕ → Option A} {it : A} → Says cell value it → (cells : List Cell)
    → value_read value (flat_map field_text (cell ∷ cells)) ≡ Some (it, flat_map field_text cells)
unfolding value_read
written_value {cell = cell} is cells =
    rw (field_found (plain_text cell) (flat_map field_text cells) is.bytes (ends_field cells), is.reads) refl

-- the row of a line that was written
pub written_row : {A : Type 0} (word : List ℕ) (row : List ℕ → Option A) (it : A) (cells : List Cell) (more : List ℕ) → HasFields cells
    → row (flat_map field_text cells) ≡ Some it → row_read word row (feed_line word cells ++ more) ≡ Some (it, more)
unfolding row_read
written_row word row it cells more all is = rw (written_line word cells more all, is) refl

-- ---- the values of fields

digits_from : (base : ℕ) (text : List ℕ) → base ≤ 36 → AllDigits base text → list_all (nat_le 48) text ≡ true
digits_from base [] small all = refl
digits_from base (byte ∷ rest) small all = grind (arith, nat_tests, digits_from base rest small all.1, all.0)

pub weaker : (text : List ℕ) → list_all (nat_le 48) text ≡ true → IsField text
weaker [] is = refl
weaker (byte ∷ rest) is = grind (arith, nat_tests, weaker rest)

pub digits_number : (n : ℕ) → n < 10 ^ 18 → list_all (nat_le 48) (decimal n) ≡ true
digits_number n small = digits_from 10 (decimal n) (lit≤ tt) (written_numbers_are_read n small).digits

pub number_read : (n : ℕ) → n < 10 ^ 18 → number_of (decimal n) ≡ Some n
number_read n small = (numbers_are_read (decimal n) n).1 (written_numbers_are_read n small)

pub number_field : (n : ℕ) → n < 10 ^ 18 → Says (Number n) number_of n
unfolding plain_text
number_field n small = record { bytes = weaker (decimal n) (digits_number n small); reads = number_read n small }

pub octet_field : (n : ℕ) → n < 256 → Says (Number n) octet_of n
octet_field n small =
    let as_number = number_field n (omega arith) in
    record { bytes = as_number.bytes; reads = rw (as_number.reads, lt-ltb n 256 small) refl }

pub serial_field : (n : ℕ) → IsSerial n → Says (Serial n) serial_of n
unfolding plain_text
serial_field n is =
    let text = written_serials_are_read n is in
    record {
      bytes = weaker (serial_text n) (digits_from 16 (serial_text n) (lit≤ tt) text.digits);
      reads = (serials_are_read (serial_text n) n).1 text;
    }

from_zero : (n : ℕ) → nat_le 45 (48 + n) ≡ true
from_zero n = le-leb 45 (48 + n) (omega arith)

pub moment_bytes : (m : ℕ) → IsField (moment_text m)
unfolding moment_text date_time
moment_bytes m = simp from_zero

pub moment_length : (m : ℕ) → length (moment_text m) ≡ 20
unfolding moment_text date_time
moment_length m = refl

pub moment_field : (m : ℕ) → IsMoment m → Says (At m) moment_of m
unfolding plain_text
moment_field m is = record { bytes = moment_bytes m; reads = moment_of-text m is }

name_bytes : (text : List ℕ) → is_name text ≡ true → IsField text
name_bytes [] is = refl
name_bytes (byte ∷ rest) is = grind (arith, nat_tests, name_bytes rest)

pub name_field : (text : List ℕ) → IsLabel text → is_name text ≡ true → Says (Text text) allowed_name_of text
unfolding plain_text
name_field text label is = record { bytes = name_bytes text is; reads = rw (label_of-is text label, is) refl }

pub ground_field : (it : Ground) → Says (Text (ground_name it)) ground_of it
unfolding plain_text
ground_field Asked = record { bytes = refl; reads = refl }
ground_field Unauthorized = record { bytes = refl; reads = refl }
ground_field KeyCompromise = record { bytes = refl; reads = refl }
ground_field ControlLost = record { bytes = refl; reads = refl }
ground_field Affiliation = record { bytes = refl; reads = refl }
ground_field Superseded = record { bytes = refl; reads = refl }
ground_field Cessation = record { bytes = refl; reads = refl }
ground_field Misuse = record { bytes = refl; reads = refl }
ground_field NameNotPermitted = record { bytes = refl; reads = refl }
ground_field Nonconforming = record { bytes = refl; reads = refl }
ground_field Inaccurate = record { bytes = refl; reads = refl }

pub hex_bytes : (bytes : List ℕ) → IsBytes bytes → list_all (nat_le 48) (encode_lower bytes) ≡ true
hex_bytes bytes are =
    go (encode_lower bytes) (list_all-from_AllPass is_hex_digit (encode_lower bytes) (decode_of-ok (encode_lower bytes) bytes
    (decode_of-encode_lower bytes are)).1)
  where
    go : (text : List ℕ) → list_all is_hex_digit text ≡ true → list_all (nat_le 48) text ≡ true
    go [] is = refl
    go (byte ∷ rest) is = grind (arith, nat_tests, go rest)
