-- What is wrong with a line that can't be read, field by field.
use Rattle.std.specs.Prelude.{Bool, ◌||◌, List, [], ◌∷◌, ◌++◌, ℕ, bytes_eq, codes, if◌then◌else◌, is_some, Option, Some, None, option_and_then, option_map}
use Rattle.reg_core.specs.Calendar.{moment_of}
use Rattle.reg_core.specs.Number.{number_of}
use Rattle.reg_core.specs.Serial.{serial_of}
use Rattle.reg_core.specs.Label.{label_of}
use Rattle.reg_desk_service.specs.declared.syntax.CommandField.{CommandField}
use Rattle.reg_desk_service.specs.declared.syntax.CommandField.TheVariants.{Name, Subscriber, Days, Order, Serial, NotBefore, NotAfter, Ground, Request}
use Rattle.reg_desk_service.specs.declared.syntax.WrongField.{WrongField}
use Rattle.reg_desk_service.specs.declared.syntax.WrongField.TheVariants.{Malformed, Missing, TooMany}

-- the fields of a command or query that takes some, by its word (not of `ocsp`); the optional serial number of `revoke` and `decline` is among them
abbrev pub fields_wanted : List ℕ → Option (List CommandField)
fields_wanted word =
    if bytes_eq word (codes "subscriber") then Some (Name ∷ [])
    else if bytes_eq word (codes "order") then Some (Subscriber ∷ Days ∷ [])
    else if bytes_eq word (codes "register") then Some (Order ∷ Serial ∷ NotBefore ∷ NotAfter ∷ [])
    else if bytes_eq word (codes "request") then Some (Serial ∷ Ground ∷ [])
    else if bytes_eq word (codes "decline") || bytes_eq word (codes "revoke")
    then Some (Request ∷ Serial ∷ [])
    else if bytes_eq word (codes "status") || bytes_eq word (codes "listing") then Some (Serial ∷ [])
    else None

-- whether the text of a field is well-formed
abbrev pub is_well_formed : CommandField → List ℕ → Bool
is_well_formed Name text = is_some (label_of text)
is_well_formed Ground text = is_some (label_of text)
is_well_formed Subscriber text = is_some (number_of text)
is_well_formed Days text = is_some (number_of text)
is_well_formed Order text = is_some (number_of text)
is_well_formed Request text = is_some (number_of text)
is_well_formed Serial text = is_some (serial_of text)
is_well_formed NotBefore text = is_some (moment_of text)
is_well_formed NotAfter text = is_some (moment_of text)

-- the first field that is missing or malformed, or that there is one too many; none if the fields are as wanted
abbrev pub first_wrong : List CommandField → List (List ℕ) → Option WrongField
first_wrong [] [] = None
first_wrong [] (text ∷ rest) = Some TooMany
first_wrong (field ∷ wanted) [] = Some (Missing field)
first_wrong (field ∷ wanted) (text ∷ rest) =
    if is_well_formed field text then first_wrong wanted rest else Some (Malformed field)

-- the same for the fields of a line, of which the first is its word; none for a word to which `fields_wanted` gives none, such as `crl`
abbrev pub wrong_in : List (List ℕ) → Option WrongField
wrong_in [] = None
wrong_in (word ∷ fields) = option_and_then (λ wanted. first_wrong wanted fields) (fields_wanted word)

-- the name of a field in `help`
abbrev pub name_text : CommandField → List ℕ
name_text Name = codes "NAME"
name_text Subscriber = codes "SUBSCRIBER"
name_text Days = codes "DAYS"
name_text Order = codes "ORDER"
name_text Serial = codes "SERIAL"
name_text NotBefore = codes "NOTBEFORE"
name_text NotAfter = codes "NOTAFTER"
name_text Ground = codes "GROUND"
name_text Request = codes "REQUEST"

abbrev pub form_text : CommandField → List ℕ
form_text Name = codes " is not 1 to 64 bytes"
form_text Ground = codes " is not 1 to 64 bytes"
form_text Subscriber = codes " is not 1 to 18 digits"
form_text Days = codes " is not 1 to 18 digits"
form_text Order = codes " is not 1 to 18 digits"
form_text Request = codes " is not 1 to 18 digits"
form_text Serial = codes " is not 1 to 40 hexadecimal digits, from 1 to 2^159 - 1"
form_text NotBefore = codes " is not a moment such as 2026-01-01T00:00:00Z"
form_text NotAfter = codes " is not a moment such as 2026-01-01T00:00:00Z"

abbrev pub wrong_text : WrongField → List ℕ
wrong_text (Malformed field) = name_text field ++ form_text field
wrong_text (Missing field) = name_text field ++ codes " is missing"
wrong_text TooMany = codes "more fields than this line takes"
