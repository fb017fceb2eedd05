-- The grammar of `Meaning.antt` as a function on the fields of a line.
use Rattle.std.specs.Prelude.{ℕ, Bool, List, [], ◌∷◌, length, codes, bytes_eq, nat_lt, if◌then◌else◌, cond, Option, Some, None, option_map, option_and_then}
use Rattle.std.specs.Result.{result_ok}
use Rattle.hex.specs.Hex.{decode_of}
use Rattle.reg_core.specs.Calendar.{moment_of}
use Rattle.reg_core.specs.Label.{label_of}
use Rattle.reg_core.specs.Number.{number_of}
use Rattle.reg_core.specs.Sequence.{◌>>=◌}
use Rattle.reg_core.specs.Serial.{serial_of}
use Rattle.reg_core.specs.declared.command.Command.{Command}
use Rattle.reg_core.specs.declared.command.Command.TheVariants.{Subscriber, Order, Register, Request, Decline, Revoke, Crl as IssueCrl}
use Rattle.reg_core.specs.declared.command.Query.TheVariants.{Status, Counts, Listing, Overdue, NextCrl}
use Rattle.reg_lines.specs.Meaning.{Meaning, means_command, means_query, is_ocsp_line}

-- exactly one field
abbrev pub one : List (List ℕ) → Option (List ℕ)
one [] = None
one (a ∷ []) = Some a
one (a ∷ b ∷ rest) = None

-- exactly two fields
abbrev pub two : List (List ℕ) → Option (List ℕ × List ℕ)
two [] = None
two (a ∷ []) = None
two (a ∷ b ∷ []) = Some (a, b)
two (a ∷ b ∷ c ∷ rest) = None

-- exactly four fields
abbrev pub four : List (List ℕ) → Option (List ℕ × List ℕ × List ℕ × List ℕ)
four [] = None
four (a ∷ []) = None
four (a ∷ b ∷ []) = None
four (a ∷ b ∷ c ∷ []) = None
four (a ∷ b ∷ c ∷ d ∷ []) = Some (a, b, c, d)
four (a ∷ b ∷ c ∷ d ∷ e ∷ rest) = None

-- the first four fields, one by one, unless there is a fifth
abbrev pub four_at
    : Option (List ℕ) → Option (List ℕ) → Option (List ℕ) → Option (List ℕ) → Bool
    → Option (List ℕ × List ℕ × List ℕ × List ℕ)
four_at first second third fourth fifth = if fifth then None else (do
  a ← first
  b ← second
  c ← third
  d ← fourth
  Some (a, b, c, d))

-- a value, if no field is left
abbrev pub alone : {A : Type 0} → A → List (List ℕ) → Option A
alone value [] = Some value
alone value (a ∷ rest) = None

-- the number in the only field
unfoldable pub number_alone : List (List ℕ) → Option ℕ
number_alone fields = option_and_then number_of (one fields)

-- the serial number in the only field
unfoldable pub serial_alone : List (List ℕ) → Option ℕ
serial_alone fields = option_and_then serial_of (one fields)

-- the command of the fields after its word: `subscriber NAME`
unfoldable pub subscriber_of : List (List ℕ) → Option Command
subscriber_of fields = do
  field ← one fields
  name ← label_of field
  Some (Subscriber name)

-- `order SUBSCRIBER DAYS`
unfoldable pub order_of : List (List ℕ) → Option Command
order_of fields = do
  both ← two fields
  subscriber ← number_of both.0
  days ← number_of both.1
  Some (Order subscriber days)

-- the four fields of `register ORDER SERIAL NOTBEFORE NOTAFTER`
unfoldable pub register_by : List ℕ × List ℕ × List ℕ × List ℕ → Option Command
register_by all = do
  order ← number_of all.0
  serial ← serial_of all.1
  not_before ← moment_of all.2
  not_after ← moment_of all.3
  Some (Register order serial not_before not_after)

-- the command of the fields after the word `register`, if there are exactly four
unfoldable pub register_of : List (List ℕ) → Option Command
register_of fields = option_and_then register_by (four fields)

-- `request SERIAL GROUND`
unfoldable pub request_of : List (List ℕ) → Option Command
request_of fields = do
  both ← two fields
  serial ← serial_of both.0
  named ← label_of both.1
  Some (Request serial named)

-- the bytes of a field of hexadecimal digits, at least one
unfoldable pub hex_of : List ℕ → Option (List ℕ)
hex_of digits = cond (nat_lt 0 (length digits)) (result_ok (decode_of digits)) None

-- `ocsp HEX`
unfoldable pub ocsp_of : List (List ℕ) → Option (List ℕ)
ocsp_of fields = option_and_then hex_of (one fields)

-- the query or OCSP request of a word and the fields after the word; any other word has no meaning
unfoldable pub query_by : List ℕ → List (List ℕ) → Option Meaning
query_by word fields =
    if bytes_eq word (codes "status") then option_map means_query (option_map Status (serial_alone fields))
    else if bytes_eq word (codes "counts") then option_map means_query (alone Counts fields)
    else if bytes_eq word (codes "listing")
    then option_map means_query (option_map Listing (serial_alone fields))
    else if bytes_eq word (codes "overdue") then option_map means_query (alone Overdue fields)
    else if bytes_eq word (codes "next-crl") then option_map means_query (alone NextCrl fields)
    else if bytes_eq word (codes "ocsp") then option_map is_ocsp_line (ocsp_of fields)
    else None

-- the meaning of a word and the fields after it: `request`, `decline`, `revoke`, `crl`, or one of those above
unfoldable pub revoking_by : List ℕ → List (List ℕ) → Option Meaning
revoking_by word fields =
    if bytes_eq word (codes "request") then option_map means_command (request_of fields)
    else if bytes_eq word (codes "decline")
    then option_map means_command (option_map Decline (number_alone fields))
    else if bytes_eq word (codes "revoke")
    then option_map means_command (option_map Revoke (number_alone fields))
    else if bytes_eq word (codes "crl") then option_map means_command (alone IssueCrl fields)
    else query_by word fields

-- the meaning of a word and the fields after it: `subscriber`, `order`, `register`, or one of those above
unfoldable pub meaning_by : List ℕ → List (List ℕ) → Option Meaning
meaning_by word fields =
    if bytes_eq word (codes "subscriber") then option_map means_command (subscriber_of fields)
    else if bytes_eq word (codes "order") then option_map means_command (order_of fields)
    else if bytes_eq word (codes "register") then option_map means_command (register_of fields)
    else revoking_by word fields

-- the meaning of the fields of a line: its word, and the fields after it
unfoldable pub meaning_in_fields : List (List ℕ) → Option Meaning
meaning_in_fields [] = None
meaning_in_fields (word ∷ fields) = meaning_by word fields
