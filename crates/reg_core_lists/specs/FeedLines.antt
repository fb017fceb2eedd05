-- The lines of a page of the changes feed (32 is the code of a space, 10 of LF, 61 of `=`).
use Rattle.std.specs.Prelude.{ℕ, List, [], ◌∷◌, ◌++◌, length, flat_map, codes, decimal}
use Rattle.hex.specs.Hex.{encode_lower}
use Rattle.reg_core.specs.Calendar.{moment_text}
use Rattle.reg_core.specs.Policy.{Terms}
use Rattle.reg_core.specs.declared.rows.SubscriberRow.{SubscriberRow}
use Rattle.reg_core.specs.declared.rows.OrderRow.{OrderRow}
use Rattle.reg_core.specs.declared.rows.CertRow.{CertRow}
use Rattle.reg_core.specs.declared.rows.RequestRow.{RequestRow}
use Rattle.reg_core.specs.declared.rows.RevocationRow.{RevocationRow}
use Rattle.reg_core.specs.declared.rows.CrlRow.{CrlRow}
use Rattle.reg_core_lists.specs.Fields.{ground_name, plain_text}
use Rattle.reg_core_lists.specs.declared.fields.Cell.{Cell}
use Rattle.reg_core_lists.specs.declared.fields.Cell.TheVariants.{Number, Serial, At, Text}

abbrev pub field_text : Cell → List ℕ
field_text cell = 32 ∷ plain_text cell

-- a word and fields, with a space before each field
unfoldable pub feed_line : List ℕ → List Cell → List ℕ
feed_line word fields = word ++ flat_map field_text fields ++ 10 ∷ []

abbrev pub subscriber_line : SubscriberRow → List ℕ
subscriber_line row = feed_line (codes "subscriber") (Number row.id ∷ Text row.name ∷ [])

abbrev pub order_line : OrderRow → List ℕ
order_line row = feed_line (codes "order") (Number row.id ∷ Number row.subscriber ∷ Number row.days ∷ [])

abbrev pub certificate_line : CertRow → List ℕ
certificate_line row =
    feed_line (codes "certificate")
    (Serial row.serial ∷ Number row.order ∷ At row.not_before ∷ At row.not_after ∷ [])

-- a request, whether it is declined or not
abbrev pub request_line : RequestRow → List ℕ
request_line row =
    feed_line (codes "request")
    (Number row.id ∷ Serial row.serial ∷ Text (ground_name row.ground) ∷ At row.received ∷ [])

abbrev pub declined_line : ℕ → List ℕ
declined_line id = feed_line (codes "declined") (Number id ∷ [])

abbrev pub revocation_line : RevocationRow → List ℕ
revocation_line row =
    feed_line (codes "revocation")
    (Serial row.serial ∷ At row.at ∷ Number row.reason ∷ Number row.request ∷ Number row.first ∷ [])

abbrev pub crl_line : CrlRow → ℕ → List ℕ
crl_line row octets = feed_line (codes "crl") (Number row.number ∷ At row.this_update ∷ Number octets ∷ [])

-- a CRL: its line has the number of its octets, which follow
unfoldable pub crl_feed_text : CrlRow → List ℕ → List ℕ
crl_feed_text row der = crl_line row (length der) ++ der ++ 10 ∷ []

-- ---- the lines before the rows

-- the issuer as it is stored: its Name with its key identifiers, and its key
unfoldable pub issuer_line : List ℕ → List ℕ → List ℕ
issuer_line name key = codes "issuer " ++ encode_lower name ++ 32 ∷ encode_lower key ++ 10 ∷ []

abbrev pub step_text : ℕ × ℕ → List ℕ
step_text step = 32 ∷ moment_text step.0 ++ 61 ∷ decimal step.1

-- the steps of the schedule, each a moment and its days
unfoldable pub schedule_line : List (ℕ × ℕ) → List ℕ
schedule_line steps = codes "schedule" ++ flat_map step_text steps ++ 10 ∷ []

-- the seconds of a CRL and of an OCSP answer, and the cap
abbrev pub policy_line : Terms → List ℕ
policy_line policy =
    feed_line (codes "policy") (Number policy.crl_life ∷ Number policy.ocsp_life ∷ Number policy.cap ∷ [])

-- the format, the issuer, the policy, its schedule, and the last accepted moment
unfoldable pub page_head : List ℕ → List ℕ → Terms → ℕ → List ℕ
page_head name key policy last =
    codes "changes 1\n" ++ issuer_line name key ++ policy_line policy ++ schedule_line policy.schedule
    ++ feed_line (codes "last") (At last ∷ [])
