-- Lists as CSV (RFC 4180, but records end with LF) and as JSON (RFC 8259). No field has a byte that needs quoting or escaping in
-- either.
use Rattle.std.specs.Prelude.{ℕ, List, [], ◌∷◌, ◌++◌, Option, Some, None, codes, flat_map}
use Rattle.reg_core_lists.specs.Cursors.{key_cell, list_name}
use Rattle.reg_core_lists.specs.Fields.{json_text, plain_text, row_fields}
use Rattle.reg_core_lists.specs.declared.cursor.Cursor.{Cursor}
use Rattle.reg_core_lists.specs.declared.cursor.Cursor.TheVariants.{Revoked, Certificates, Ending, OpenRequests, Overdue, Requests, Subscribers, Orders, Crls}
use Rattle.reg_core_lists.specs.declared.fields.Cell.{Cell}
use Rattle.reg_core_lists.specs.declared.rows.Row.{Row}
use Rattle.reg_core_lists.specs.declared.texts.Format.{Format}
use Rattle.reg_core_lists.specs.declared.texts.Format.TheVariants.{Csv, Json}

-- the header of a list as CSV: the names of its fields, with commas between them, and LF
abbrev pub header_text : Cursor → List ℕ
header_text (Revoked after) =
    codes "serial,subscriber,name,order,notBefore,notAfter,status,revokedAt,reason,firstCrl,lastCrl,request,ground,received,due,lateness\n"
header_text (Certificates after) =
    codes "serial,subscriber,name,order,notBefore,notAfter,status,revokedAt,reason,firstCrl,lastCrl\n"
header_text (Ending before after) =
    codes "serial,subscriber,name,order,notBefore,notAfter,status,revokedAt,reason,firstCrl,lastCrl\n"
header_text (OpenRequests after) =
    codes "request,serial,ground,received,due,subscriber,name,order,notBefore,notAfter\n"
header_text (Overdue after) =
    codes "request,serial,ground,received,due,subscriber,name,order,notBefore,notAfter\n"
header_text (Requests after) =
    codes "request,serial,ground,received,due,subscriber,name,order,notBefore,notAfter,state,decided,lateness\n"
header_text (Subscribers after) = codes "subscriber,name\n"
header_text (Orders after) = codes "order,subscriber,name,days,serial\n"
header_text (Crls after) = codes "crl,thisUpdate\n"

-- a comma, and then the value of a field (44 is the code of `,`)
abbrev pub record_rest : List ℕ × Cell → List ℕ
record_rest field = 44 ∷ plain_text field.1

-- a record: the values of its fields, with commas between them
unfoldable pub record_text : List (List ℕ × Cell) → List ℕ
record_text [] = []
record_text (first ∷ rest) = plain_text first.1 ++ flat_map record_rest rest

-- a member of an object: the field's name as a string, a colon, and its value (34 is the code of `"`)
unfoldable pub member_text : List ℕ × Cell → List ℕ
member_text field = 34 ∷ field.0 ++ codes "\":" ++ json_text field.1

-- a comma, and then a member
abbrev pub member_rest : List ℕ × Cell → List ℕ
member_rest field = 44 ∷ member_text field

-- the members, with commas between them
abbrev pub members_text : List (List ℕ × Cell) → List ℕ
members_text [] = []
members_text (first ∷ rest) = member_text first ++ flat_map member_rest rest

-- an object of fields (123 and 125 are the codes of `{` and `}`)
unfoldable pub object_text : List (List ℕ × Cell) → List ℕ
object_text fields = 123 ∷ members_text fields ++ 125 ∷ []

-- a row as a line: a record in CSV, an object in JSON (10 is the code of LF)
unfoldable pub row_text : Format → Row → List ℕ
row_text Csv row = record_text (row_fields row) ++ 10 ∷ []
row_text Json row = object_text (row_fields row) ++ 10 ∷ []

-- the text before the rows of a list: the header in CSV, nothing in JSON
abbrev pub opening_text : Format → Cursor → List ℕ
opening_text Csv from = header_text from
opening_text Json from = []

-- a whole list: the header if it has one, and then a line for each row
abbrev pub list_text : Format → Cursor → List Row → List ℕ
list_text form from rows = opening_text form from ++ flat_map (row_text form) rows

-- a comma, and then a row of a page as an object
abbrev pub row_rest : Row → List ℕ
row_rest row = 44 ∷ object_text (row_fields row)

-- the rows of a page, with commas between them
abbrev pub rows_json : List Row → List ℕ
rows_json [] = []
rows_json (first ∷ rest) = object_text (row_fields first) ++ flat_map row_rest rest

-- the key after which the next page begins, as a string; `null` if there is no next page
unfoldable pub next_text : Option Cursor → List ℕ
next_text None = codes "null"
next_text (Some next) = 34 ∷ plain_text (key_cell next) ++ 34 ∷ []

-- a page as an object: the name of its list, the key after which the next page begins, and its rows
unfoldable pub page_body : Cursor → Option Cursor → List Row → List ℕ
page_body from next rows =
    codes "{\"list\":\"" ++ list_name from ++ codes "\",\"next\":" ++ next_text next ++ codes ",\"rows\":["
    ++ rows_json rows ++ codes "]}"
