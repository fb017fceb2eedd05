-- How each record is stored in a row. A row is its rowid and then the columns. An INTEGER PRIMARY KEY is the rowid, and its
-- column is NULL. For a table whose key is a serial number, only the columns are given here: `counted_rows` puts the rowids before them.
use Rattle.std.specs.Prelude.{ℕ, ◌+◌, ℤ, pos, cond, List, [], ◌∷◌}
use Rattle.sqlite_value.specs.declared.value.Value.{Value}
use Rattle.sqlite_value.specs.declared.value.Value.TheVariants.{Null, Int, Text, Blob}
use Rattle.sqlite_value.specs.Order.{Row}
use Rattle.reg_core.specs.Issuer.{Issuer}
use Rattle.reg_core.specs.Policy.{Terms}
use Rattle.reg_core.specs.Records.{Crl}
use Rattle.reg_core.specs.Serial.{serial_bytes}
use Rattle.reg_core.specs.declared.grounds.Ground.{Ground}
use Rattle.reg_core.specs.declared.grounds.Ground.TheVariants.{Asked, Unauthorized, KeyCompromise, ControlLost, Affiliation, Superseded, Cessation, Misuse, NameNotPermitted, Nonconforming, Inaccurate}
use Rattle.reg_core.specs.declared.rows.SubscriberRow.{SubscriberRow}
use Rattle.reg_core.specs.declared.rows.OrderRow.{OrderRow}
use Rattle.reg_core.specs.declared.rows.CertRow.{CertRow}
use Rattle.reg_core.specs.declared.rows.RequestRow.{RequestRow}
use Rattle.reg_core.specs.declared.rows.RevocationRow.{RevocationRow}

-- a number as an SQL INTEGER
abbrev pub number : ℕ → Value
number n = Int (pos n)

-- a serial number: its 20 bytes, in big-endian order
abbrev pub serial_value : ℕ → Value
serial_value serial = Blob (serial_bytes serial)

-- rows of these columns, with rowids from `from` on, which rise by one
abbrev pub behind_rowids : ℕ → List Row → List Row
behind_rowids from [] = []
behind_rowids from (columns ∷ rest) = (number from ∷ columns) ∷ behind_rowids (from + 1) rest

-- a table whose rows have rowids 1, 2, 3 and so on
abbrev pub counted_rows : List Row → List Row
counted_rows = behind_rowids 1

-- a ground is stored as its index in the list of grounds
abbrev pub ground_index : Ground → ℕ
ground_index Asked = 1
ground_index Unauthorized = 2
ground_index KeyCompromise = 3
ground_index ControlLost = 4
ground_index Affiliation = 5
ground_index Superseded = 6
ground_index Cessation = 7
ground_index Misuse = 8
ground_index NameNotPermitted = 9
ground_index Nonconforming = 10
ground_index Inaccurate = 11

-- the version of the tables
abbrev pub version : ℕ
version = 3

-- office: one, version, name, pubkey, days, crl_life, ocsp_life, cap, last_at; only an audit reads days
abbrev pub stored_office : ℤ → Issuer → Terms → ℕ → Row
stored_office days issuer policy last =
    number 1 ∷ Null ∷ number version ∷ Blob issuer.name ∷ Blob issuer.key ∷ Int days ∷ number policy.crl_life
    ∷ number policy.ocsp_life ∷ number policy.cap ∷ number last ∷ []

-- subscriber: id, name
abbrev pub stored_subscriber : SubscriberRow → Row
stored_subscriber row = number row.id ∷ Null ∷ Text row.name ∷ []

-- orders: id, subscriber, days
abbrev pub stored_order : OrderRow → Row
stored_order row = number row.id ∷ Null ∷ number row.subscriber ∷ number row.days ∷ []

-- cert: serial, order_id, not_before, not_after
abbrev pub stored_certificate : CertRow → Row
stored_certificate row =
    serial_value row.serial ∷ number row.order ∷ number row.not_before ∷ number row.not_after ∷ []

-- request: id, serial, ground, received, declined
abbrev pub stored_request : RequestRow → Row
stored_request row =
    number row.id ∷ Null ∷ serial_value row.serial ∷ number (ground_index row.ground) ∷ number row.received
    ∷ number (cond row.declined 1 0) ∷ []

-- revocation: serial, at, reason, request, first_crl
abbrev pub stored_revocation : RevocationRow → Row
stored_revocation row =
    serial_value row.serial ∷ number row.at ∷ number row.reason ∷ number row.request ∷ number row.first ∷ []

-- crl: number, this_update, der
abbrev pub stored_crl : Crl → Row
stored_crl crl = number crl.number ∷ Null ∷ number crl.this_update ∷ Blob crl.bytes ∷ []

-- longest: from_at, days, a row for each step of the schedule
abbrev pub stored_step : ℕ × ℕ → Row
stored_step step = number step.0 ∷ Null ∷ number step.1 ∷ []
