-- The rows of an import as untimed lines.
use Rattle.std.specs.Prelude.{◌≡◌, ◌⊎◌, ℕ, Bool, ◌&&◌, List, [], ◌∷◌, ◌++◌, codes, cond, is_some, map, Option, Some, None, Result, Ok, Err}
use Rattle.std.specs.List.{concat}
use Rattle.reg_core.specs.declared.refusal.Fault.{Fault}
use Rattle.reg_core.specs.declared.refusal.Fault.TheVariants.{Memory, Read}
use Rattle.reg_lines.specs.Import.{AreCsvRows, IsTextUnread, Row, TookAll, TookSome, data_rows, is_header}
use Rattle.reg_lines.specs.LineReading.{four, register_by}

-- the fields of a row, each after a space (the byte 32), if they spell a registration; else nothing
abbrev pub fields_listed : Option (List ℕ × List ℕ × List ℕ × List ℕ) → List ℕ
fields_listed None = []
fields_listed (Some all) =
    cond (is_some (register_by all)) ((32 ∷ all.0) ++ (32 ∷ all.1) ++ (32 ∷ all.2) ++ (32 ∷ all.3)) []

-- the line of a row, with its LF: `register` and the four fields; for a row that spells no registration, `register` alone
abbrev pub row_line : Option (List ℕ × List ℕ × List ℕ × List ℕ) → List ℕ
row_line fields = codes "register" ++ fields_listed fields ++ 10 ∷ []

-- the lines of rows
abbrev pub all_row_lines : List Row → List ℕ
all_row_lines rows = concat (map (λ row. row_line (four row)) rows)

-- these bytes are the lines of all rows of a text, in order, without a header
abbrev pub ListsRows : List ℕ → List ℕ → Type 0
ListsRows text lines = (rows : List Row) × AreCsvRows text rows × (lines ≡ all_row_lines (data_rows rows))

-- the line that a row adds, as the first row or as another
abbrev pub line_added : Bool → Row → List ℕ
line_added first row = cond (first && is_header row) [] (row_line (four row))

-- how `lines_of_rows` ends: the input was read to its end, and these are the lines of its rows; or a fault of the input, or out of memory
abbrev pub ListingEnds : Type 0 → Option (List ℕ) → Option (List ℕ) → Result (List ℕ) Fault → Type 0
ListingEnds failed input input' (Ok lines) =
    (text : List ℕ) × TookAll input input' text × ListsRows text lines
ListingEnds failed input input' (Err Read) = IsTextUnread failed input input'
ListingEnds failed input input' (Err Memory) =
    TookSome input input' ⊎ ((text : List ℕ) × TookAll input input' text)
ListingEnds failed input input' (Err other) = ⊥
