-- Rows that are told as lines, one after the other.
use Rattle.std.proofs.Common.{◌≡◌, ℕ, ◌+◌, ◌==◌, ◌&&◌, Bool, true, false, cond, List, [], ◌∷◌, ◌++◌, length, Option, Some, Result, Ok, Err, MatchResult, Vec, Global, inl, inr, subst, refl, sym, ap, ◌∙◌, append-nil, append_assoc}
use Rattle.std.proofs.lemmas.Bool.{and_parts, eqb-true}
use Rattle.csv.specs.Reading.{ReadRecord, default_config, source_of, strip_bom}
use Rattle.csv.specs.declared.parser.State.{State}
use Rattle.csv.specs.declared.parser.State.TheVariants as st
use Rattle.csv.specs.declared.reader.Reader.{Reader}
use Rattle.std.specs.Result.{result_map_both}
use Rattle.reg_core.specs.declared.refusal.Fault.{Fault}
use Rattle.reg_core.specs.declared.refusal.Fault.TheVariants.{Memory, Read}
use Rattle.reg_lines.specs.Import.{Row, TextRead, TookAll, data_rows, is_header}
use Rattle.reg_lines.specs.LineReading.{four}
use Rattle.reg_lines.specs.RowLines.{ListsRows, ListingEnds, row_line, all_row_lines, line_added}
use Rattle.reg_lines.proofs.RowLemmas.{Place, data_push, header_first, place_first, place_next, rows_all}

-- the rows that were told so far, and where the reader is
pub record WritingLines (text lines : List ℕ) (source : Option (List ℕ)) (state : State) (index : ℕ) : Type 0 where
  pub rows : List Row
  pub place : Place text rows source state index
  pub lines_are : lines ≡ all_row_lines (data_rows rows)

pub writing_start : (text lines : List ℕ) (source : Option (List ℕ)) (state : State)
    → source ≡ Some (strip_bom text) → state ≡ st.StartRecord → lines ≡ [] → WritingLines text lines source state 0
writing_start text lines source state known is none = record { rows = []; place = place_first text source state known is; lines_are = none }

rows_push : (rows : List Row) (row : Row) → all_row_lines (rows ++ row ∷ []) ≡ all_row_lines rows ++ row_line (four row)
rows_push [] row = append-nil (row_line (four row))
rows_push (first ∷ rest) row =
    ap (λ l. row_line (four first) ++ l) (rows_push rest row) ∙ sym (append_assoc (row_line (four first)) (all_row_lines rest) (row_line (four row)))

lines_push : (rows : List Row) (row : Row) (index : ℕ) → length rows ≡ index
    → all_row_lines (data_rows rows) ++ line_added (index == 0) row ≡ all_row_lines (data_rows (rows ++ row ∷ []))
lines_push rows row index counted = by ((index == 0) && is_header row) refl
  where
    by : (b : Bool) → ((index == 0) && is_header row) ≡ b
        → all_row_lines (data_rows rows) ++ cond ((index == 0) && is_header row) [] (row_line (four row)) ≡ all_row_lines (data_rows (rows ++ row ∷ []))
    by true header =
        let both = and_parts (index == 0) (is_header row) header in
        let none : length rows ≡ 0 = counted ∙ eqb-true index 0 both.0 in
        rw (header, header_first rows row none both.1) (append-nil (all_row_lines (data_rows rows)))
    by false data' =
        rw (data', data_push rows row (ap (λ (n : ℕ). (n == 0) && is_header row) counted ∙ data')) (sym (rows_push (data_rows rows) row))

module _ {R : Type 0} (text : List ℕ) (rem : R → Option (List ℕ)) (a b : Reader R) (row : Row) (lines : List ℕ) (index : ℕ) where
  -- one row more
  pub writing_more : (more : List ℕ) → WritingLines text lines (source_of rem a) a.state index → a.config ≡ default_config → ReadRecord rem a b true row
      → more ≡ lines ++ line_added (index == 0) row → WritingLines text more (source_of rem b) b.state (index + 1)
  writing_more more t config read is = record {
    rows = t.rows ++ row ∷ [];
    place = place_next text rem a b row t.rows index t.place config read;
    lines_are = is ∙ ap (λ l. l ++ line_added (index == 0) row) t.lines_are ∙ lines_push t.rows row index t.place.counted;
  }

  -- no row is left
  pub writing_all : WritingLines text lines (source_of rem a) a.state index → a.config ≡ default_config → ReadRecord rem a b false row → ListsRows text lines
  writing_all t config read = (t.rows, rows_all text rem a b row t.rows index t.place config read, t.lines_are)

-- how the telling of an input ends whose text was read, or was not
pub lists_text : (failed : Type 0) (input input' : Option (List ℕ)) (text : List ℕ) (result : Result (Vec ℕ Global) Fault) → TookAll input input' text
    → MatchResult result (λ lines. ListsRows text lines.items) (λ fault. fault ≡ Memory)
    → ListingEnds failed input input' (result_map_both (λ lines. lines.items) (λ fault. fault) result)
lists_text failed input input' text (Ok lines) took lines_are = (text, took, lines_are)
lists_text failed input input' text (Err fault) took none = subst (λ f. ListingEnds failed input input' (Err f)) (sym none) (inr (text, took))

pub lists_unread : (failed : Type 0) (input input' : Option (List ℕ)) (fault : Fault) → TextRead failed input input' (Err fault) → ListingEnds failed input input' (Err fault)
lists_unread failed input input' Read ends = ends
lists_unread failed input input' Memory ends = inl ends
lists_unread failed input input' other ends = absurd ends
