-- The lines of the log: for an exchange, whatever bytes it has, and for a fault of a connection.
use Rattle.std.specs.Prelude.{ℕ, Bool, cond, not, ◌||◌, ◌&&◌, List, [], ◌∷◌, ◌++◌, ◌+◌, ◌/◌, ◌%◌, ◌==◌, nat_le, nat_lt, take, length, codes, decimal, Option, Some, None}
use Rattle.std.specs.List.{flat_map, position}
use Rattle.std.specs.Option.{option_map_or}
use Rattle.reg_core.specs.Calendar.{moment_text}
use Rattle.reg_core.specs.Serial.{serial_text}
use Rattle.reg_desk_metrics.specs.Tallies.{one_more}
use Rattle.reg_desk_metrics.specs.declared.numbers.ConnectionTotals.{ConnectionTotals}
use Rattle.reg_desk_server.specs.declared.handler.ConnectionFault.{ConnectionFault}
use Rattle.reg_desk_server.specs.declared.handler.ConnectionFault.TheVariants.{Broken, TimedOut, Evicted, Memory}
use Rattle.reg_http.specs.declared.answered.LoggedRevocationRequest.{LoggedRevocationRequest}
use Rattle.reg_http.specs.RouteNames.{before}

-- whether a byte is logged as it is: ASCII from the space to the tilde (RFC 20 2), except the quotation mark and the backslash
abbrev pub is_plain : ℕ → Bool
is_plain byte = not (byte == 34) && (not (byte == 92) && (nat_le 32 byte && nat_lt byte 127))

-- the hexadecimal digit, in lower case, of a number below 16
abbrev pub digit : ℕ → ℕ
digit number = cond (nat_lt number 10) (48 + number) (87 + number)

-- how a byte is logged: itself, or `\x` and its two hexadecimal digits
unfoldable pub quoted_byte : ℕ → List ℕ
quoted_byte byte = cond (is_plain byte) (byte ∷ []) (92 ∷ 120 ∷ digit (byte / 16) ∷ digit (byte % 16) ∷ [])

-- whether a byte ends a line: CR or LF
abbrev pub ends_line : ℕ → Bool
ends_line byte = (byte == 13) || (byte == 10)

-- the text before the first byte that ends a line, or all of it
abbrev pub first_line : List ℕ → List ℕ
first_line text = before (position ends_line text) text

-- how a text is logged: in quotation marks, the first 256 bytes of its first line, each as `quoted_byte` has it
abbrev pub quoted_text : List ℕ → List ℕ
quoted_text text = 34 ∷ flat_map quoted_byte (take 256 (first_line text)) ++ (34 ∷ [])

-- the end of the line of an exchange: a space and `signer` if a signature failed, else nothing
abbrev pub unsigned_end : Bool → List ℕ
unsigned_end signature_failed = cond signature_failed (codes " signer") []

-- the part of the line of an exchange that names a request, if there is one: `request`, its number, its serial number and, if it is named, its ground
abbrev pub named_end : Option LoggedRevocationRequest → List ℕ
named_end None = []
named_end (Some named) =
    codes " request" ++ (32 ∷ decimal named.id) ++ (32 ∷ serial_text named.serial)
    ++ option_map_or (λ word. 32 ∷ word) named.ground []

-- the line of an exchange, without its LF: the moment, the client, the request and the answer as `quoted_text`, the length of the answer, the
-- microseconds, the named request for revocation, and whether a signature failed
abbrev pub exchange_line : ℕ → List ℕ → List ℕ → List ℕ → ℕ → Option LoggedRevocationRequest → Bool → List ℕ
exchange_line now client asked answered micros named signature_failed =
    moment_text now ++ (32 ∷ client) ++ (32 ∷ quoted_text asked) ++ (32 ∷ quoted_text answered)
    ++ (32 ∷ decimal (length answered)) ++ (32 ∷ decimal micros)
    ++ named_end named ++ unsigned_end signature_failed

-- the line of a fault of a connection, without its LF
abbrev pub lost_line : ℕ → List ℕ → List ℕ → List ℕ
lost_line now client why = moment_text now ++ (32 ∷ client) ++ codes " lost " ++ why

-- the word for the fault in that line
abbrev pub loss_word : ConnectionFault → List ℕ
loss_word Broken = codes "broken"
loss_word TimedOut = codes "late"
loss_word Evicted = codes "crowded"
loss_word Memory = codes "memory"

-- the counts of connections with one more that was lost by the fault
abbrev pub with_loss : ConnectionTotals → ConnectionFault → ConnectionTotals
with_loss totals Broken = record totals { broken = one_more totals.broken }
with_loss totals TimedOut = record totals { late = one_more totals.late }
with_loss totals Evicted = record totals { evicted = one_more totals.evicted }
with_loss totals Memory = record totals { memory = one_more totals.memory }
