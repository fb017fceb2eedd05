-- Lemmas on an import, row after row.
use Rattle.std.proofs.Common.{◌≡◌, ℕ, ◌+◌, ◌==◌, ◌&&◌, Bool, Bor, true, false, List, [], ◌∷◌, ◌++◌, length, take, Option, None, Some, Ok, Err, is_some, option_map, refl, sym, ap, ◌∙◌, subst, arith, inl, inr, length-append, append-nil}
use Rattle.std.specs.Prelude.{IsTrue, Result}
use Rattle.std.specs.List.{AllByRecursion, concat}
use Rattle.std.specs.Io.KnownBytes.{Appends}
use Rattle.std.proofs.KnownBytes.{Appends-nil, Appends-trans}
use Rattle.std.proofs.lemmas.Bool.{and_parts, eqb-true}
use Rattle.csv.specs.Reading.{Reached, ReadRecord, default_config, source_of, strip_bom}
use Rattle.csv.specs.Records.{field_at}
use Rattle.csv.specs.declared.parser.State.{State}
use Rattle.csv.specs.declared.parser.State.TheVariants as st
use Rattle.csv.specs.declared.reader.Reader.{Reader}
use Rattle.csv.proofs.ReadFacts.{rows-end, rows-more}
use Rattle.reg_io.specs.RunsOfAnswers.{Answered}
use Rattle.reg_io.specs.declared.put.WriteFault.{WriteFault}
use Rattle.reg_io.proofs.PublicLaws.{answered_push}
use Rattle.reg_lines.proofs.Pieces.{all_push, concat_push}
use Rattle.reg_core.specs.declared.refusal.Fault.{Fault}
use Rattle.reg_core.specs.declared.refusal.Fault.TheVariants.{Memory, Read, Write}
use Rattle.reg_lines.specs.Accepted.{IsAccepted}
use Rattle.reg_lines.specs.ByCalls.{Call}
use Rattle.reg_lines.specs.Import.{AreCsvRows, EndsBy, Row, RowReplies, RowsEnd, TextRead, TookRow, data_rows, is_header}
use Rattle.reg_lines.specs.LineReading.{four, four_at}
use Rattle.reg_lines.specs.Strict.{StrictRan, whole_lines}
use Rattle.reg_lines.specs.declared.answered.Continuation.TheVariants as passed

-- ---- the fields of a row

pub four_by : (fields : List (List ℕ)) → four fields ≡ four_at (field_at fields 0) (field_at fields 1) (field_at fields 2) (field_at fields 3) (is_some (field_at fields 4))
unfolding field_at
four_by [] = refl
four_by (a ∷ []) = refl
four_by (a ∷ b ∷ []) = refl
four_by (a ∷ b ∷ c ∷ []) = refl
four_by (a ∷ b ∷ c ∷ d ∷ []) = refl
four_by (a ∷ b ∷ c ∷ d ∷ e ∷ rest) = refl

-- ---- the rows but for the header

pub header_first : (rows : List Row) (row : Row) → length rows ≡ 0 → is_header row ≡ true → data_rows (rows ++ row ∷ []) ≡ data_rows rows
header_first [] row none header = rw header refl
header_first (first ∷ rest) row none header = absurd (omega arith)

pub data_push : (rows : List Row) (row : Row) → ((length rows == 0) && is_header row) ≡ false → data_rows (rows ++ row ∷ []) ≡ data_rows rows ++ row ∷ []
data_push [] row data' = rw data' refl
data_push (first ∷ rest) row data' = by (is_header first) refl
  where
    by : (b : Bool) → is_header first ≡ b → data_rows ((first ∷ rest) ++ row ∷ []) ≡ data_rows (first ∷ rest) ++ row ∷ []
    by true e = rw e refl
    by false e = rw e refl

-- ---- where a reader is

-- it is behind these rows of a text
pub record Place (text : List ℕ) (rows : List Row) (source : Option (List ℕ)) (state : State) (index : ℕ) : Type 0 where
  pub left : List ℕ
  pub known : source ≡ Some left
  pub reached : Reached default_config st.StartRecord (strip_bom text) rows state left
  pub counted : length rows ≡ index

pub place_first : (text : List ℕ) (source : Option (List ℕ)) (state : State) → source ≡ Some (strip_bom text) → state ≡ st.StartRecord
    → Place text [] source state 0
unfolding Reached
place_first text source state known is = record { left = strip_bom text; known = known; reached = (sym is, refl); counted = refl }

module _ {R : Type 0} (text : List ℕ) (rem : R → Option (List ℕ)) (a b : Reader R) (row : Row) (rows : List Row) (index : ℕ)
    (place : Place text rows (source_of rem a) a.state index) (config : a.config ≡ default_config) where
  -- one row more was read
  pub place_next : ReadRecord rem a b true row → Place text (rows ++ row ∷ []) (source_of rem b) b.state (index + 1)
  place_next read =
      let next = rows-more rem a b row default_config st.StartRecord (strip_bom text) place.left rows config place.known place.reached read in record {
        left = next.0;
        known = next.1;
        reached = next.2;
        counted = length-append rows (row ∷ []) ∙ ap (λ (n : ℕ). n + 1) place.counted;
      }

  -- no row is left
  pub rows_all : ReadRecord rem a b false row → AreCsvRows text rows
  rows_all read = (a.state, place.left, place.reached, rows-end rem a b row default_config place.left config place.known read)

-- ---- a run so far

-- the rows that ran so far, and where the reader is
pub record Going {S : Type 0} (answers : S → ℕ → Call → S → Type 0) (is_strict : Bool) (now : ℕ) (s t : S) (out out' : Option (List ℕ)) (text : List ℕ) (source : Option (List ℕ)) (state : State) (index : ℕ) : Type 0 where
  pub rows : List Row
  pub replies : List (List ℕ)
  pub place : Place text rows source state index
  pub answered : Answered (RowReplies answers now) s (data_rows rows) replies t
  pub wrote : Appends out out' (concat replies)
  pub passed : IsTrue is_strict → AllByRecursion IsAccepted replies

pub going_start : {S : Type 0} (answers : S → ℕ → Call → S → Type 0) (is_strict : Bool) (now : ℕ) (s : S) (out : Option (List ℕ)) (text : List ℕ) (source : Option (List ℕ)) (state : State)
    → source ≡ Some (strip_bom text) → state ≡ st.StartRecord → Going answers is_strict now s s out out text source state 0
going_start answers is_strict now s out text source state known is = record {
  rows = [];
  replies = [];
  place = place_first text source state known is;
  answered = refl;
  wrote = Appends-nil out;
  passed = λ strict. tt;
}

some_mapped : (o : Option (Bor (List ℕ))) → is_some o ≡ is_some (option_map (λ a. a.now) o)
some_mapped None = refl
some_mapped (Some a) = refl

pub row_four : (fields : List (List ℕ)) (o0 o1 o2 o3 o4 : Option (Bor (List ℕ))) (r : Option (List ℕ × List ℕ × List ℕ × List ℕ))
    → option_map (λ a. a.now) o0 ≡ field_at fields 0 → option_map (λ a. a.now) o1 ≡ field_at fields 1 → option_map (λ a. a.now) o2 ≡ field_at fields 2
    → option_map (λ a. a.now) o3 ≡ field_at fields 3 → option_map (λ a. a.now) o4 ≡ field_at fields 4
    → r ≡ four_at (option_map (λ a. a.now) o0) (option_map (λ a. a.now) o1) (option_map (λ a. a.now) o2) (option_map (λ a. a.now) o3) (is_some o4)
    → r ≡ four fields
row_four fields o0 o1 o2 o3 o4 r e0 e1 e2 e3 e4 is =
    let fifth : is_some o4 ≡ is_some (field_at fields 4) = some_mapped o4 ∙ ap is_some e4 in
    is ∙ ap (λ o. four_at o (option_map (λ a. a.now) o1) (option_map (λ a. a.now) o2) (option_map (λ a. a.now) o3) (is_some o4)) e0
    ∙ ap (λ o. four_at (field_at fields 0) o (option_map (λ a. a.now) o2) (option_map (λ a. a.now) o3) (is_some o4)) e1
    ∙ ap (λ o. four_at (field_at fields 0) (field_at fields 1) o (option_map (λ a. a.now) o3) (is_some o4)) e2
    ∙ ap (λ o. four_at (field_at fields 0) (field_at fields 1) (field_at fields 2) o (is_some o4)) e3
    ∙ ap (λ b. four_at (field_at fields 0) (field_at fields 1) (field_at fields 2) (field_at fields 3) b) fifth
    ∙ sym (four_by fields)

-- no memory is left for a row
pub first_ran : {S : Type 0} (answers : S → ℕ → Call → S → Type 0) (is_strict : Bool) (now : ℕ) (s t : S) (output_failed : Type 0) (out out' : Option (List ℕ)) (text : List ℕ) (source : Option (List ℕ)) (state : State) (index : ℕ)
    → Going answers is_strict now s t out out' text source state index → RowsEnd answers is_strict now s t output_failed out out' text (Err Memory)
first_ran answers is_strict now s t output_failed out out' text source state index g = (
  (record { rows = g.rows; replies = g.replies; are = (state, g.place.left, g.place.reached); wrote = g.wrote }, g.answered),
  g.passed,
)

module _ {S R : Type 0} (answers : S → ℕ → Call → S → Type 0) (is_strict : Bool) (now : ℕ) (s m t : S) (output_failed : Type 0) (out middle out' : Option (List ℕ)) (text : List ℕ) (rem : R → Option (List ℕ)) (a b : Reader R) (row : Row) (index : ℕ) where
  pub going_more : Going answers is_strict now s m out middle text (source_of rem a) a.state index → a.config ≡ default_config → ReadRecord rem a b true row
      → TookRow answers is_strict now m t (index == 0) row middle out' (Ok passed.On)
      → Going answers is_strict now s t out out' text (source_of rem b) b.state (index + 1)
  going_more g config read (inl (header, same, done, kept)) =
      let both = and_parts (index == 0) (is_header row) header in
      let none : length g.rows ≡ 0 = g.place.counted ∙ eqb-true index 0 both.0 in
      let rows : data_rows (g.rows ++ row ∷ []) ≡ data_rows g.rows = header_first g.rows row none both.1 in record {
        rows = g.rows ++ row ∷ [];
        replies = g.replies;
        place = place_next text rem a b row g.rows index g.place config read;
        answered = rw (rows, same) g.answered;
        wrote = subst (Appends out out') (append-nil (concat g.replies)) (Appends-trans out middle out' (concat g.replies) [] g.wrote kept);
        passed = g.passed;
      }
  going_more g config read (inr (data', ran)) =
      let rows : data_rows (g.rows ++ row ∷ []) ≡ data_rows g.rows ++ row ∷ [] = data_push g.rows row (ap (λ (n : ℕ). (n == 0) && is_header row) g.place.counted ∙ data') in record {
        rows = g.rows ++ row ∷ [];
        replies = g.replies ++ ran.reply ∷ [];
        place = place_next text rem a b row g.rows index g.place config read;
        answered = rw rows (answered_push (RowReplies answers now) s m t (data_rows g.rows) g.replies row ran.reply g.answered ran.replied);
        wrote = subst (Appends out out') (sym (concat_push g.replies ran.reply)) (Appends-trans out middle out' (concat g.replies) ran.reply g.wrote ran.said.0);
        passed = λ strict. all_push IsAccepted g.replies ran.reply (g.passed strict) (ran.said.1 strict);
      }

  -- a row is refused, and a strict run ends
  pub one_refused : (refused : _) → Going answers is_strict now s m out middle text (source_of rem a) a.state index → a.config ≡ default_config → ReadRecord rem a b true row
      → TookRow answers is_strict now m t (index == 0) row middle out' (Ok (passed.Refused refused)) → RowsEnd answers is_strict now s t output_failed out out' text (Ok (passed.Refused refused))
  one_refused refused g config read (inl (header, same, done, kept)) = cc done
  one_refused refused g config read (inr (data', ran)) =
      let more = place_next text rem a b row g.rows index g.place config read in
      let goes = ran.said.1 in
      let rows : data_rows (g.rows ++ row ∷ []) ≡ data_rows g.rows ++ row ∷ [] = data_push g.rows row (ap (λ (n : ℕ). (n == 0) && is_header row) g.place.counted ∙ data') in (
        (
          record {
            rows = g.rows ++ row ∷ [];
            replies = g.replies ++ ran.reply ∷ [];
            are = (b.state, more.left, more.reached);
            wrote = subst (Appends out out') (sym (concat_push g.replies ran.reply)) (Appends-trans out middle out' (concat g.replies) ran.reply g.wrote ran.said.0);
          },
          rw rows (answered_push (RowReplies answers now) s m t (data_rows g.rows) g.replies row ran.reply g.answered ran.replied),
        ),
        goes.0,
        record { accepted = g.replies; refused = ran.reply; parts = refl; each = g.passed goes.0; last = goes.1 },
        goes.2,
      )

  pub one_cut : (fault : WriteFault) → Going answers is_strict now s m out middle text (source_of rem a) a.state index → a.config ≡ default_config → ReadRecord rem a b true row
      → TookRow answers is_strict now m t (index == 0) row middle out' (Err fault) → output_failed → RowsEnd answers is_strict now s t output_failed out out' text (Err Write)
  one_cut fault g config read (inl (header, same, done, kept)) failed = cc done
  one_cut fault g config read (inr (data', ran)) failed =
      let more = place_next text rem a b row g.rows index g.place config read in (
        (
          record {
            rows = g.rows;
            replies = g.replies;
            row = row;
            reply = ran.reply;
            part = ran.said.count;
            first = (b.state, more.left, more.reached);
            no_header = data_push g.rows row (ap (λ (n : ℕ). (n == 0) && is_header row) g.place.counted ∙ data');
            partly = ran.said.short;
            wrote = Appends-trans out middle out' (concat g.replies) (take ran.said.count ran.reply) g.wrote ran.said.written;
          },
          m,
          g.answered,
          ran.replied,
        ),
        g.passed,
        failed,
      )

  pub all_ran : Going answers is_strict now s m out middle text (source_of rem a) a.state index → a.config ≡ default_config → ReadRecord rem a b false row
      → RowsEnd answers is_strict now s m output_failed out middle text (Ok passed.On)
  all_ran g config read = (
    (
      record {
        rows = g.rows;
        replies = g.replies;
        are = rows_all text rem a b row g.rows index g.place config read;
        wrote = g.wrote;
      },
      g.answered,
    ),
    g.passed,
  )

-- ---- the whole import

-- nothing ran, since the text could not be read
pub ends_unread : {S R W A : Type 0} (remaining : R → Option (List ℕ)) (input_failed : Type 0) (s : S) (reader reader' : R) (writer : W) (Ran : List ℕ → Result A Fault → Type 0)
    (fault : Fault) → TextRead input_failed (remaining reader) (remaining reader') (Err fault) → EndsBy remaining input_failed s s reader reader' writer writer Ran (Err fault)
ends_unread remaining input_failed s reader reader' writer Ran Read ends = inr (inl (refl, ends), refl, refl)
ends_unread remaining input_failed s reader reader' writer Ran Memory ends = inr (inr (refl, ends), refl, refl)
ends_unread remaining input_failed s reader reader' writer Ran other ends = absurd ends

-- a run of these rows came to a fault
pub strict_failed : {S : Type 0} (answers : S → ℕ → Call → S → Type 0) (now : ℕ) (s t : S) (output_failed : Type 0) (out out' : Option (List ℕ)) (text front : List ℕ) (fault : Fault)
    → front ≡ whole_lines text → RowsEnd answers true now s t output_failed out out' front (Err fault) → StrictRan answers now s t output_failed out out' text (Err fault)
strict_failed answers now s t output_failed out out' text front fault is ran = subst (λ l. RowsEnd answers true now s t output_failed out out' l (Err fault)) is ran
