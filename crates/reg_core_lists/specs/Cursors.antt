-- Lists by their names, and the keys after which they continue.
use Rattle.std.specs.Prelude.{ℕ, List, [], ◌∷◌, Option, Some, None, option_map, find, bytes_eq, codes, cond}
use Rattle.reg_core.specs.Number.{number_of}
use Rattle.reg_core.specs.Serial.{serial_of}
use Rattle.reg_core_lists.specs.Fields.{serial_or_empty}
use Rattle.reg_core_lists.specs.declared.cursor.Cursor.{Cursor}
use Rattle.reg_core_lists.specs.declared.cursor.Cursor.TheVariants.{Revoked, Certificates, Ending, OpenRequests, Overdue, Requests, Subscribers, Orders, Crls}
use Rattle.reg_core_lists.specs.declared.fields.Cell.{Cell}
use Rattle.reg_core_lists.specs.declared.fields.Cell.TheVariants.{Number}

-- each list that takes no moment, by its name, from its first row on
abbrev pub list_names : List (List ℕ × Cursor)
list_names =
    (codes "revoked", Revoked None)
    ∷ (codes "certificates", Certificates None)
    ∷ (codes "open-requests", OpenRequests 0)
    ∷ (codes "overdue", Overdue 0)
    ∷ (codes "requests", Requests 0)
    ∷ (codes "subscribers", Subscribers 0)
    ∷ (codes "orders", Orders 0)
    ∷ (codes "crls", Crls 0)
    ∷ []

-- the list with this name, from its first row on: `ending` with a moment, one of the others without
abbrev pub cursor_named : List ℕ → Option ℕ → Option Cursor
cursor_named word (Some before) = cond (bytes_eq word (codes "ending")) (Some (Ending before None)) None
cursor_named word None = option_map (λ row. row.1) (find (λ row. bytes_eq word row.0) list_names)

-- the same list, after the row whose key a text writes, if the text writes one
abbrev pub cursor_past : List ℕ → Cursor → Option Cursor
cursor_past key (Revoked after) = option_map (λ serial. Revoked (Some serial)) (serial_of key)
cursor_past key (Certificates after) = option_map (λ serial. Certificates (Some serial)) (serial_of key)
cursor_past key (Ending before after) = option_map (λ serial. Ending before (Some serial)) (serial_of key)
cursor_past key (OpenRequests after) = option_map (λ id. OpenRequests id) (number_of key)
cursor_past key (Overdue after) = option_map (λ id. Overdue id) (number_of key)
cursor_past key (Requests after) = option_map (λ id. Requests id) (number_of key)
cursor_past key (Subscribers after) = option_map (λ id. Subscribers id) (number_of key)
cursor_past key (Orders after) = option_map (λ id. Orders id) (number_of key)
cursor_past key (Crls after) = option_map (λ number. Crls number) (number_of key)

-- the name of a list
abbrev pub list_name : Cursor → List ℕ
list_name (Revoked after) = codes "revoked"
list_name (Certificates after) = codes "certificates"
list_name (Ending before after) = codes "ending"
list_name (OpenRequests after) = codes "open-requests"
list_name (Overdue after) = codes "overdue"
list_name (Requests after) = codes "requests"
list_name (Subscribers after) = codes "subscribers"
list_name (Orders after) = codes "orders"
list_name (Crls after) = codes "crls"

-- the key after which a list continues, as a cell
abbrev pub key_cell : Cursor → Cell
key_cell (Revoked after) = serial_or_empty after
key_cell (Certificates after) = serial_or_empty after
key_cell (Ending before after) = serial_or_empty after
key_cell (OpenRequests after) = Number after
key_cell (Overdue after) = Number after
key_cell (Requests after) = Number after
key_cell (Subscribers after) = Number after
key_cell (Orders after) = Number after
key_cell (Crls after) = Number after
