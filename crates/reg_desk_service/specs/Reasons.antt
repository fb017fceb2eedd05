-- The text of a reason, as the reply to `why` and `--why` have it.
use Rattle.std.specs.Prelude.{◌≡◌, ℕ, ◌+◌, ◌-◌, ◌*◌, List, [], ◌∷◌, ◌++◌, codes, decimal, Option, Some, None}
use Rattle.reg_core.specs.Calendar.{moment_text}
use Rattle.reg_core.specs.Serial.{serial_text}
use Rattle.reg_desk_service.specs.declared.reasons.Reason.{Reason}
use Rattle.reg_desk_service.specs.declared.reasons.Reason.TheVariants.{NoOrder, Filled, Latest, OtherSerial, ClockAhead, Unsigned, Wrong}
use Rattle.reg_desk_service.specs.Syntax.{wrong_text}

-- the reply to `why`: the word, and the kept reason or `nothing`
unfoldable pub kept_reason_text : List ℕ → List ℕ
kept_reason_text [] = codes "why nothing\n"
kept_reason_text (first ∷ rest) = codes "why " ++ first ∷ rest

-- the last second of that many days from a moment on, with both ends counted (RFC 5280 4.1.2.5)
abbrev pub last_second : ℕ → ℕ → ℕ
last_second not_before days = not_before + (days * 86400 - 1)

-- the reason if a validity is too long: the latest notAfter
unfoldable pub latest_text : ℕ → List ℕ
latest_text at = codes "notAfter at most " ++ moment_text at

-- the reason if the clock is too far ahead: the moment of the last accepted command
unfoldable pub ahead_text : ℕ → List ℕ
ahead_text last = codes "the clock is more than 30 days past the last command, " ++ moment_text last

-- a text with a number, such as that of an order or a CRL
abbrev pub text_with_number : List ℕ → ℕ → List ℕ → List ℕ
text_with_number prefix order end = prefix ++ decimal order ++ end

-- the reason if a request is for another serial number than the line's: the request's serial number
abbrev pub other_text : ℕ → ℕ → List ℕ
other_text request serial = codes "request " ++ decimal request ++ codes " is for " ++ serial_text serial

-- the text of a reason
abbrev pub reason_text : Reason → List ℕ
reason_text (NoOrder order) = text_with_number (codes "no order ") order []
reason_text (Filled order) = text_with_number (codes "order ") order (codes " already has a certificate")
reason_text (Latest at) = latest_text at
reason_text (OtherSerial request serial) = other_text request serial
reason_text (ClockAhead last) = ahead_text last
reason_text (Wrong wrong) = wrong_text wrong
reason_text (Unsigned number) =
    text_with_number (codes "CRL ") number (codes " has a placeholder digest: the next one is due at once")

-- the line is a prefix, the text of a reason, and an LF; without a reason there is no line
abbrev pub IsReasonLine : List ℕ → Option Reason → List ℕ → Type 0
IsReasonLine prefix (Some reason) line = line ≡ prefix ++ reason_text reason ++ 10 ∷ []
IsReasonLine prefix None line = ⊥
