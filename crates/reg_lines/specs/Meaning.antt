-- The grammar of script lines: a moment, a space and an untimed line. The fields of an untimed line spell its meaning.
use Rattle.std.specs.Prelude.{◌≡◌, ℕ, ◌<◌, List, [], ◌∷◌, ◌++◌, length, codes, Ok, unwrap_or}
use Rattle.std.specs.Result.{result_ok}
use Rattle.hex.specs.Hex.{decode_of}
use Rattle.reg_core.specs.Calendar.{IsMoment, moment_text}
use Rattle.reg_core.specs.Label.{IsLabel}
use Rattle.reg_core.specs.Number.{IsNumberText}
use Rattle.reg_core.specs.Serial.{IsSerialText}
use Rattle.reg_core.specs.declared.command.Command.{Command}
use Rattle.reg_core.specs.declared.command.Command.TheVariants.{Subscriber, Order, Register, Request, Decline, Revoke, Crl as IssueCrl}
use Rattle.reg_core.specs.declared.command.Query.{Query}
use Rattle.reg_core.specs.declared.command.Query.TheVariants.{Status, Counts, Listing, Overdue, NextCrl}
use Rattle.reg_lines.specs.Fields.{fields_of}
use Rattle.reg_lines.specs.declared.line.ParsedLine.{ParsedLine}
use Rattle.reg_lines.specs.declared.line.ParsedLine.TheVariants as line

-- the meaning of an untimed line: a command, a query, or the bytes of an OCSP request (RFC 6960 4.1)
pub data Meaning : Type 0 where
  means_command : Command → Meaning
  means_query : Query → Meaning
  is_ocsp_line : List ℕ → Meaning

-- four fields spell a registration: the order, the serial number, notBefore and notAfter
abbrev pub SpellsRegister : ℕ → ℕ → ℕ → ℕ → List (List ℕ) → Type 0
SpellsRegister order serial not_before not_after fields =
    (a b : List ℕ) × (fields ≡ a ∷ b ∷ moment_text not_before ∷ moment_text not_after ∷ [])
    × IsNumberText a order × IsSerialText b serial × IsMoment not_before × IsMoment not_after

-- the fields spell a command: its word, and then its own fields
abbrev pub SpellsCommand : Command → List (List ℕ) → Type 0
SpellsCommand (Subscriber name) fields = (fields ≡ codes "subscriber" ∷ name ∷ []) × IsLabel name
SpellsCommand (Order subscriber days) fields =
    (a b : List ℕ) × (fields ≡ codes "order" ∷ a ∷ b ∷ []) × IsNumberText a subscriber × IsNumberText b days
SpellsCommand (Register order serial not_before not_after) fields =
    (rest : List (List ℕ)) × (fields ≡ codes "register" ∷ rest)
    × SpellsRegister order serial not_before not_after rest
SpellsCommand (Request serial named) fields =
    (a : List ℕ) × (fields ≡ codes "request" ∷ a ∷ named ∷ []) × IsSerialText a serial × IsLabel named
SpellsCommand (Decline request) fields =
    (a : List ℕ) × (fields ≡ codes "decline" ∷ a ∷ []) × IsNumberText a request
SpellsCommand (Revoke request) fields =
    (a : List ℕ) × (fields ≡ codes "revoke" ∷ a ∷ []) × IsNumberText a request
SpellsCommand IssueCrl fields = fields ≡ codes "crl" ∷ []

-- the fields spell a query
abbrev pub SpellsQuery : Query → List (List ℕ) → Type 0
SpellsQuery (Status serial) fields = (a : List ℕ) × (fields ≡ codes "status" ∷ a ∷ []) × IsSerialText a serial
SpellsQuery Counts fields = fields ≡ codes "counts" ∷ []
SpellsQuery (Listing serial) fields =
    (a : List ℕ) × (fields ≡ codes "listing" ∷ a ∷ []) × IsSerialText a serial
SpellsQuery Overdue fields = fields ≡ codes "overdue" ∷ []
SpellsQuery NextCrl fields = fields ≡ codes "next-crl" ∷ []

-- digits spell these bytes in hexadecimal, two digits a byte in either case; there is at least one byte
abbrev pub IsHexOf : List ℕ → List ℕ → Type 0
IsHexOf digits bytes = (0 < length digits) × (decode_of digits ≡ Ok bytes)

-- the fields spell an OCSP request
abbrev pub SpellsOcsp : List ℕ → List (List ℕ) → Type 0
SpellsOcsp bytes fields = (digits : List ℕ) × (fields ≡ codes "ocsp" ∷ digits ∷ []) × IsHexOf digits bytes

-- the untimed line spells the meaning, in fields that are separated by one space each
abbrev pub LineMeans : List ℕ → Meaning → Type 0
LineMeans line (means_command command) = SpellsCommand command (fields_of line)
LineMeans line (means_query query) = SpellsQuery query (fields_of line)
LineMeans line (is_ocsp_line bytes) = SpellsOcsp bytes (fields_of line)

-- the untimed line spells no meaning
abbrev pub IsUnreadable : List ℕ → Type 0
IsUnreadable line = (meaning : Meaning) → ¬ LineMeans line meaning

-- no untimed line has two meanings
abbrev pub OneMeaning : Type 0
OneMeaning = (text : List ℕ) (a b : Meaning) → LineMeans text a → LineMeans text b → a ≡ b

-- the bytes that hexadecimal digits spell; empty if they spell none
abbrev pub decoded_bytes : List ℕ → List ℕ
decoded_bytes digits = unwrap_or (result_ok (decode_of digits)) []

-- the meaning of a line that was read
abbrev pub meaning_of : ParsedLine → Meaning
meaning_of (line.Command command) = means_command command
meaning_of (line.Query query) = means_query query
meaning_of (line.Ocsp digits) = is_ocsp_line (decoded_bytes digits.now)

-- the line of a script has this moment: the line is the moment's text, a space (the byte 32), and an untimed line
abbrev pub HasMoment : List ℕ → ℕ → List ℕ → Type 0
HasMoment line now command = (line ≡ moment_text now ++ 32 ∷ command) × IsMoment now

-- the line does not begin with a moment
abbrev pub HasNoMoment : List ℕ → Type 0
HasNoMoment line = (now : ℕ) (command : List ℕ) → ¬ HasMoment line now command

-- no line begins with two moments
abbrev pub OneBeginning : Type 0
OneBeginning =
    (line : List ℕ) (now other : ℕ) (command rest : List ℕ) → HasMoment line now command
    → HasMoment line other rest
    → (now ≡ other) × (command ≡ rest)
