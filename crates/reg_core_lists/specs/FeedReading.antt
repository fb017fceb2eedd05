-- The lines of a page of the changes feed and their fields, as functions that read them. They read more texts than the feed has, such as numbers with
-- leading zeros. (10 is the code of LF, 32 of a space.)
use Rattle.std.specs.Prelude.{ℕ, ◌+◌, Bool, true, false, not, ◌==◌, List, [], ◌∷◌, length, take, drop, cond, codes, bytes_eq, nat_le, nat_lt, ◌≡◌, Option, Some, None, option_map}
use Rattle.std.specs.List.{AllByRecursion, position, position_or_len}
use Rattle.std.specs.Option.{option_or}
use Rattle.std.specs.Result.{result_ok}
use Rattle.reg_core.specs.Calendar.{moment_of}
use Rattle.reg_core.specs.Grounds.{ground_or_refusal as ground}
use Rattle.reg_core.specs.Label.{is_name, label_of}
use Rattle.reg_core.specs.Number.{number_of}
use Rattle.reg_core.specs.Sequence.{◌>>=◌}
use Rattle.reg_core.specs.Serial.{serial_of}
use Rattle.reg_core.specs.declared.grounds.Ground.{Ground}
use Rattle.reg_core.specs.declared.rows.SubscriberRow.{SubscriberRow}
use Rattle.reg_core.specs.declared.rows.OrderRow.{OrderRow}
use Rattle.reg_core.specs.declared.rows.CertRow.{CertRow}
use Rattle.reg_core.specs.declared.rows.RequestRow.{RequestRow}
use Rattle.reg_core.specs.declared.rows.RevocationRow.{RevocationRow}
use Rattle.reg_core.specs.declared.rows.CrlRow.{CrlRow}
use Rattle.reg_core_lists.specs.Positions.{positions_of_text}
use Rattle.reg_core_lists.specs.declared.positions.Positions.{Positions}

-- reading one item after the other gives these items, and leaves this text
abbrev pub ReadsFirst : {A : Type 0} → (List ℕ → Option (A × List ℕ)) → List A → List ℕ → List ℕ → Type 0
ReadsFirst read [] text rest = text ≡ rest
ReadsFirst read (item ∷ items) text rest =
    (next : List ℕ) × (read text ≡ Some (item, next)) × ReadsFirst read items next rest

-- and the text that is left has no further item
pub record ReadsItems {A : Type 0} (read : List ℕ → Option (A × List ℕ)) (items : List A) (text rest : List ℕ) : Type 0 where
  pub reads : ReadsFirst read items text rest
  pub ends : read rest ≡ None

-- the text after this beginning, if it has it
abbrev pub after_prefix : List ℕ → List ℕ → Option (List ℕ)
after_prefix prefix text = cond (bytes_eq (take (length prefix) text) prefix) (Some (drop (length prefix) text)) None

-- the fields of the first line, if the line begins with this word, and the text after the line
unfoldable pub line_read : List ℕ → List ℕ → Option (List ℕ × List ℕ)
line_read word text =
    after_prefix word text
    >>= λ rest. position (λ byte. byte == 10) rest
    >>= λ end. Some (take end rest, drop (end + 1) rest)

-- the first of the fields, and the others
unfoldable pub field_read : List ℕ → Option (List ℕ × List ℕ)
field_read text =
    after_prefix (32 ∷ []) text
    >>= λ rest. Some (
      take (position_or_len (λ byte. byte == 32) rest) rest,
      drop (position_or_len (λ byte. byte == 32) rest) rest,
    )

-- the value of the first field, and the other fields
unfoldable pub value_read : {A : Type 0} → (List ℕ → Option A) → List ℕ → Option (A × List ℕ)
value_read value text = do
  field ← field_read text
  it ← value field.0
  Some (it, field.1)

-- a name, a ground, and a number below 256
abbrev pub allowed_name_of : List ℕ → Option (List ℕ)
allowed_name_of text = label_of text >>= λ name. cond (is_name name) (Some name) None

abbrev pub ground_of : List ℕ → Option Ground
ground_of text = result_ok (ground text)

abbrev pub octet_of : List ℕ → Option ℕ
octet_of text = number_of text >>= λ number. cond (nat_lt number 256) (Some number) None

-- ---- rows

-- the row of the first line, if the line begins with this word and its fields have a row, and the text after the line
unfoldable pub row_read : {A : Type 0} → List ℕ → (List ℕ → Option A) → List ℕ → Option (A × List ℕ)
row_read word row text = do
  line ← line_read word text
  it ← row line.0
  Some (it, line.1)

-- none of the words begins a line at the beginning of the text
abbrev pub HasNoneOf : List (List ℕ) → List ℕ → Type 0
HasNoneOf words text = AllByRecursion (λ word. line_read word text ≡ None) words

-- the row of each kind with these fields
unfoldable pub subscriber_row_of : List ℕ → Option SubscriberRow
subscriber_row_of fields = do
  id ← value_read number_of fields
  name ← value_read allowed_name_of id.1
  Some (record { id = id.0; name = name.0 })

unfoldable pub order_row_of : List ℕ → Option OrderRow
order_row_of fields = do
  id ← value_read number_of fields
  subscriber ← value_read number_of id.1
  days ← value_read number_of subscriber.1
  Some (record { id = id.0; subscriber = subscriber.0; days = days.0 })

unfoldable pub certificate_row_of : List ℕ → Option CertRow
certificate_row_of fields = do
  serial ← value_read serial_of fields
  order ← value_read number_of serial.1
  from ← value_read moment_of order.1
  to ← value_read moment_of from.1
  Some (record { serial = serial.0; order = order.0; not_before = from.0; not_after = to.0 })

-- the line does not say whether the request is declined
unfoldable pub request_row_of : List ℕ → Option RequestRow
request_row_of fields = do
  id ← value_read number_of fields
  serial ← value_read serial_of id.1
  named ← value_read ground_of serial.1
  received ← value_read moment_of named.1
  Some (record { id = id.0; serial = serial.0; ground = named.0; received = received.0; declined = false })

unfoldable pub declined_id_of : List ℕ → Option ℕ
declined_id_of fields = do
  id ← value_read number_of fields
  Some id.0

unfoldable pub revocation_row_of : List ℕ → Option RevocationRow
revocation_row_of fields = do
  serial ← value_read serial_of fields
  at ← value_read moment_of serial.1
  reason ← value_read octet_of at.1
  request ← value_read number_of reason.1
  first ← value_read number_of request.1
  Some (record { serial = serial.0; at = at.0; reason = reason.0; request = request.0; first = first.0 })

-- ---- the other lines

-- the number of the version in the first line, if it has one
unfoldable pub version_read : List ℕ → Option ℕ
version_read text = do
  line ← line_read (codes "changes") text
  version ← value_read number_of line.0
  Some version.0

-- it is not 1
abbrev pub is_other : Option ℕ → Bool
is_other None = false
is_other (Some version) = not (version == 1)

abbrev pub is_other_version : List ℕ → Bool
is_other_version text = is_other (version_read text)

-- a CRL without its octets, and how many octets it has
unfoldable pub crl_line_read : List ℕ → Option (CrlRow × ℕ)
crl_line_read text = do
  line ← line_read (codes "crl") text
  number ← value_read number_of line.0
  this_update ← value_read moment_of number.1
  octets ← value_read number_of this_update.1
  Some (record { number = number.0; this_update = this_update.0 }, octets.0)

-- the positions after a word
unfoldable pub positions_in_line : List ℕ → List ℕ → Option Positions
positions_in_line word text = do
  line ← line_read word text
  positions ← field_read line.0
  positions_of_text positions.0

-- the last line: whether there is nothing after the page, and the positions after it
unfoldable pub last_line_read : List ℕ → Option (Bool × Positions)
last_line_read text =
    option_or (option_map (λ positions. (true, positions)) (positions_in_line (codes "end") text))
    (option_map (λ positions. (false, positions)) (positions_in_line (codes "more") text))

-- the first 20 octets, which a moment has, and the others
abbrev pub moment_and_rest : List ℕ → Option (List ℕ × List ℕ)
moment_and_rest text = cond (nat_le 20 (length text)) (Some (take 20 text, drop 20 text)) None

-- a step of the schedule: a moment and its days
unfoldable pub step_read : List ℕ → Option ((ℕ × ℕ) × List ℕ)
step_read text = do
  field ← field_read text
  parts ← moment_and_rest field.0
  from ← moment_of parts.0
  digits ← after_prefix (codes "=") parts.1
  days ← number_of digits
  Some ((from, days), field.1)

-- the fields of the lines before the rows; the steps of the schedule are one text
pub record HeadFields : Type 0 where
  pub name : List ℕ
  pub key : List ℕ
  pub crl_life : ℕ
  pub ocsp_life : ℕ
  pub cap : ℕ
  pub steps : List ℕ
  pub last : ℕ

-- the digits of the issuer's name and key, and the text after its line
unfoldable pub issuer_read : List ℕ → Option (List ℕ × List ℕ × List ℕ)
issuer_read text = do
  line ← line_read (codes "issuer") text
  name ← field_read line.0
  key ← field_read name.1
  Some (name.0, key.0, line.1)

-- the seconds of a CRL and of an OCSP answer, the cap, and the text after the line
unfoldable pub policy_read : List ℕ → Option (ℕ × ℕ × ℕ × List ℕ)
policy_read text = do
  line ← line_read (codes "policy") text
  crl_life ← value_read number_of line.0
  ocsp_life ← value_read number_of crl_life.1
  cap ← value_read number_of ocsp_life.1
  Some (crl_life.0, ocsp_life.0, cap.0, line.1)

-- the fields of the lines before the rows, of the version that this reader knows
unfoldable pub head_read : List ℕ → Option HeadFields
head_read text = do
  rest ← after_prefix (codes "changes 1\n") text
  issuer ← issuer_read rest
  policy ← policy_read issuer.2
  steps ← line_read (codes "schedule") policy.3
  line ← line_read (codes "last") steps.1
  last ← value_read moment_of line.0
  Some (record {
    name = issuer.0;
    key = issuer.1;
    crl_life = policy.0;
    ocsp_life = policy.1;
    cap = policy.2;
    steps = steps.0;
    last = last.0;
  })
