-- Runs of lines, and imports, over an office that keeps records.
use Rattle.std.proofs.Common.{ℕ, Bool, true, false, List, ◌++◌, map, inl, inr}
use Rattle.std.specs.Prelude.{Result, Ok, Err}
use Rattle.std.specs.declared.option.Option.{Option}
use Rattle.reg_core.specs.declared.refusal.Fault.{Fault}
use Rattle.reg_core.specs.declared.refusal.Fault.TheVariants.{Memory, Read, Write}
use Rattle.reg_io.specs.RunsOfAnswers.{Answered}
use Rattle.reg_lines.specs.Answer.{ComesTo, OfficeAnswers, LineComesTo, LineReplies}
use Rattle.reg_lines.specs.ByCalls.{Call, ran, asked, responded}
use Rattle.reg_lines.specs.Import.{EndsBy, ImportEnds, ImportRan, Row, RowReplies, RowsEnd, data_rows}
use Rattle.reg_lines.specs.Meaning.{Meaning, means_command, means_query, is_ocsp_line}
use Rattle.reg_lines.specs.Script.{ClockFails, LinesEnd, NextEnds, RunEnds, line_of, longest_of, pieces}
use Rattle.reg_lines.specs.Strict.{StrictEnds, StrictRan, whole_lines}
use Rattle.reg_lines.specs.declared.answered.Answered.{Answered as LineOutcome}
use Rattle.reg_lines.specs.declared.answered.Ended.{Ended}
use Rattle.reg_lines.specs.declared.answered.Ended.TheVariants as ended
use Rattle.reg_lines.specs.declared.answered.Continuation.{Continuation}
use Rattle.reg_lines.specs.declared.answered.Continuation.TheVariants as passed
use Rattle.reg_lines.specs.declared.lines.AfterLine.{AfterLine}
use Rattle.reg_lines.specs.declared.lines.AfterLine.TheVariants.{Held, End}
use Rattle.reg_office_api.specs.Leads.{Leads}
use Rattle.reg_office_api.proofs.PublicLaws.{stays, follows, chains, runs}

-- ---- lines

module _ {S I R : Type 0} (is_clean : S → Type 0) (stands : I → S → R → Type 0)
    (answers : S → List ℕ → List ℕ → S → Type 0) (kept : I → R → List ℕ → List ℕ → R → Type 0)
    (lifts : (s : S) (line reply : List ℕ) (t : S) → answers s line reply t
    → Leads is_clean stands (λ i before after. kept i before line reply after) s t)
    (longest : ℕ) (s t : S) (input input' out out' : Option (List ℕ)) where
  -- a run
  pub run_moves : (input_failed clock_failed output_failed : Type 0) (is_strict : Bool) (result : Result Ended Fault)
      → RunEnds longest input input' out out' answers s t input_failed clock_failed output_failed is_strict result
      → Leads is_clean stands (λ i before after. RunEnds longest input input' out out' (kept i) before after input_failed clock_failed output_failed is_strict result) s t
  run_moves input_failed clock_failed output_failed is_strict (Ok ended.Whole) (lines, run, all) =
      follows is_clean stands _ _ (λ i before after moved. (lines, moved, all)) s t
      (runs is_clean stands answers kept lifts s t (map line_of (pieces lines.took)) lines.replies run)
  run_moves input_failed clock_failed output_failed is_strict (Ok (ended.Refused refused)) (lines, run, strict, ends, why) =
      follows is_clean stands _ _ (λ i before after moved. (lines, moved, strict, ends, why)) s t
      (runs is_clean stands answers kept lifts s t (map line_of lines.done) lines.replies run)
  run_moves input_failed clock_failed output_failed is_strict (Ok ended.NoLineEnd) (lines, run, strict, each, cut, at_end) =
      follows is_clean stands _ _ (λ i before after moved. (lines, moved, strict, each, cut, at_end)) s t
      (runs is_clean stands answers kept lifts s t (map line_of lines.done) lines.replies run)
  run_moves input_failed clock_failed output_failed is_strict (Err Read) (lines, run, each, fails) =
      follows is_clean stands _ _ (λ i before after moved. (lines, moved, each, fails)) s t
      (runs is_clean stands answers kept lifts s t (map line_of lines.done) lines.replies run)
  run_moves input_failed clock_failed output_failed is_strict (Err Write) (lines, middle, run, last, each, failed) =
      follows is_clean stands _ _ (λ i before after both. (lines, both.0, both.1, both.2, each, failed)) s t
      (chains is_clean stands _ _ s middle t
      (runs is_clean stands answers kept lifts s middle (map line_of lines.done) lines.replies run)
      (lifts middle (line_of lines.piece) lines.reply t last))
  run_moves input_failed clock_failed output_failed is_strict (Err other) ends = absurd ends

  -- a step of it
  pub next_moves : (buffered : List ℕ) (input_failed clock_failed output_failed : Type 0) (is_strict : Bool) (buffer : List ℕ) (result : Result AfterLine Fault)
      → NextEnds answers s t out out' longest input input' buffered input_failed clock_failed output_failed is_strict buffer result
      → Leads is_clean stands (λ i before after. NextEnds (kept i) before after out out' longest input input' buffered input_failed clock_failed output_failed is_strict buffer result) s t
  next_moves buffered input_failed clock_failed output_failed is_strict buffer (Ok (Held left)) (within, did, each) =
      follows is_clean stands _ _ (λ i before after moved. (
        within,
        record {
          took = did.took;
          piece = did.piece;
          reply = did.reply;
          consumed = did.consumed;
          cut = did.cut;
          whole = did.whole;
          short = did.short;
          little = did.little;
          replied = moved;
          wrote = did.wrote;
        },
        each,
      )) s t (lifts s (line_of did.piece) did.reply t did.replied)
  next_moves buffered input_failed clock_failed output_failed is_strict buffer (Ok (End ended.Whole)) (did, lax) =
      elim did.ran [
        | inl (none, same, wrote) ↦
            follows is_clean stands _ _ (λ i before after stayed. (
              record {
                took = did.took;
                consumed = did.consumed;
                at_end = did.at_end;
                free = did.free;
                short = did.short;
                ran = inl (none, stayed, wrote);
              },
              lax,
            )) s t
            (stays is_clean stands s t same)
        | inr (some, reply, replied, wrote) ↦
            follows is_clean stands _ _ (λ i before after moved. (
              record {
                took = did.took;
                consumed = did.consumed;
                at_end = did.at_end;
                free = did.free;
                short = did.short;
                ran = inr (some, reply, moved, wrote);
              },
              lax,
            )) s t
            (lifts s (buffered ++ did.took) reply t replied)
      ]
  next_moves buffered input_failed clock_failed output_failed is_strict buffer (Ok (End (ended.Refused refused))) (left, did, strict, other, why) =
      follows is_clean stands _ _ (λ i before after moved. (
        left,
        record {
          took = did.took;
          piece = did.piece;
          reply = did.reply;
          consumed = did.consumed;
          cut = did.cut;
          whole = did.whole;
          short = did.short;
          little = did.little;
          replied = moved;
          wrote = did.wrote;
        },
        strict,
        other,
        why,
      )) s t (lifts s (line_of did.piece) did.reply t did.replied)
  next_moves buffered input_failed clock_failed output_failed is_strict buffer (Ok (End ended.NoLineEnd)) (did, strict, cut, at_end) =
      follows is_clean stands _ _ (λ i before after stayed. (
        record {
          took = did.took;
          consumed = did.consumed;
          little = did.little;
          office = stayed;
          wrote = did.wrote;
        },
        strict,
        cut,
        at_end,
      )) s t
      (stays is_clean stands s t did.office)
  next_moves buffered input_failed clock_failed output_failed is_strict buffer (Err Read) (did, why) =
      follows is_clean stands _ _ (λ i before after stayed. (
        record {
          took = did.took;
          consumed = did.consumed;
          little = did.little;
          office = stayed;
          wrote = did.wrote;
        },
        why,
      )) s t
      (stays is_clean stands s t did.office)
  next_moves buffered input_failed clock_failed output_failed is_strict buffer (Err Write) (did, fails) =
      follows is_clean stands _ _ (λ i before after moved. (
        record {
          took = did.took;
          piece = did.piece;
          rest = did.rest;
          reply = did.reply;
          consumed = did.consumed;
          cut = did.cut;
          ends = did.ends;
          short = did.short;
          replied = moved;
          wrote = did.wrote;
        },
        fails,
      )) s t (lifts s (line_of did.piece) did.reply t did.replied)
  next_moves buffered input_failed clock_failed output_failed is_strict buffer (Err other) ends = absurd ends

-- a run for which there was memory
pub lines_end : {S E W : Type 0} (answers : S → ℕ → Call → S → Type 0) (time : ℕ → Type 0) (remaining : E → Option (List ℕ)) (contents : W → Option (List ℕ))
    (input_failed output_failed : Type 0) (s t : S) (reader reader' : E) (writer writer' : W) (clock_failed : Type 0) (is_clocked is_strict : Bool)
    (result : Result Ended Fault)
    → RunEnds (longest_of is_clocked) (remaining reader) (remaining reader') (contents writer) (contents writer') (LineReplies answers time is_clocked)
    s t input_failed (ClockFails clock_failed is_clocked) output_failed is_strict result
    → LinesEnd answers remaining contents input_failed output_failed s t reader reader' writer writer' time clock_failed is_clocked is_strict result
lines_end answers time remaining contents input_failed output_failed s t reader reader' writer writer' clock_failed is_clocked is_strict (Err Memory) ends = absurd ends
lines_end answers time remaining contents input_failed output_failed s t reader reader' writer writer' clock_failed is_clocked is_strict result ends = ends

-- ---- by what the office is asked

module _ {S I R : Type 0} (is_clean : S → Type 0) (stands : I → S → R → Type 0)
    (answers : S → ℕ → Call → S → Type 0) (kept : I → R → ℕ → Call → R → Type 0)
    (lifts : (s : S) (now : ℕ) (call : Call) (t : S) → answers s now call t
    → Leads is_clean stands (λ i before after. kept i before now call after) s t) where
  asked_moves : (now : ℕ) (s : S) (meaning : Meaning) (came : LineOutcome) (t : S) → OfficeAnswers answers now s meaning came t
      → Leads is_clean stands (λ i before after. OfficeAnswers (kept i) now before meaning came after) s t
  asked_moves now s (means_command command) came t (outcome, did, is) =
      follows is_clean stands _ _ (λ i before after made. (outcome, made, is)) s t (lifts s now (ran command outcome) t did)
  asked_moves now s (means_query query) came t (outcome, did, is) =
      follows is_clean stands _ _ (λ i before after made. (outcome, made, is)) s t (lifts s now (asked query outcome) t did)
  asked_moves now s (is_ocsp_line request) came t (given, did, given_so) =
      follows is_clean stands _ _ (λ i before after made. (given, made, given_so)) s t (lifts s now (responded request given) t did)

  -- an untimed line at a moment
  pub comes_moves : (now : ℕ) (s : S) (line : List ℕ) (came : LineOutcome) (t : S) → ComesTo answers now s line came t
      → Leads is_clean stands (λ i before after. ComesTo (kept i) now before line came after) s t
  comes_moves now s line came t (inl (meaning, means, did)) =
      follows is_clean stands _ _ (λ i before after made. inl (meaning, means, made)) s t (asked_moves now s meaning came t did)
  comes_moves now s line came t (inr (unread, is, same)) =
      follows is_clean stands _ _ (λ i before after stayed. inr (unread, is, stayed)) s t (stays is_clean stands s t same)

  -- a line of an input, and with its reply
  line_moves : (time : ℕ → Type 0) (is_clocked : Bool) (s : S) (line : List ℕ) (came : LineOutcome) (t : S) → LineComesTo answers time is_clocked s line came t
      → Leads is_clean stands (λ i before after. LineComesTo (kept i) time is_clocked before line came after) s t
  line_moves time true s line came t (now, at, comes) =
      follows is_clean stands _ _ (λ i before after made. (now, at, made)) s t (comes_moves now s line came t comes)
  line_moves time false s line came t (inl (now, command, begins, comes)) =
      follows is_clean stands _ _ (λ i before after made. inl (now, command, begins, made)) s t (comes_moves now s command came t comes)
  line_moves time false s line came t (inr (unread, is, same)) =
      follows is_clean stands _ _ (λ i before after stayed. inr (unread, is, stayed)) s t (stays is_clean stands s t same)

  pub reply_moves : (time : ℕ → Type 0) (is_clocked : Bool) (s : S) (line reply : List ℕ) (t : S) → LineReplies answers time is_clocked s line reply t
      → Leads is_clean stands (λ i before after. LineReplies (kept i) time is_clocked before line reply after) s t
  reply_moves time is_clocked s line reply t (came, comes, is) =
      follows is_clean stands _ _ (λ i before after made. (came, made, is)) s t (line_moves time is_clocked s line came t comes)

  -- a run of lines
  pub input_moves : {E W : Type 0} (time : ℕ → Type 0) (clock_failed : Type 0) (is_clocked is_strict : Bool)
      (remaining : E → Option (List ℕ)) (contents : W → Option (List ℕ)) (input_failed output_failed : Type 0)
      (s t : S) (reader reader' : E) (writer writer' : W) (result : Result Ended Fault)
      → LinesEnd answers remaining contents input_failed output_failed s t reader reader' writer writer' time clock_failed is_clocked is_strict result
      → Leads is_clean stands
      (λ i before after.
      LinesEnd (kept i) remaining contents input_failed output_failed before after reader reader' writer writer' time clock_failed is_clocked is_strict result) s t
  input_moves time clock_failed is_clocked is_strict remaining contents input_failed output_failed s t reader reader' writer writer' (Err Memory) ends =
      follows is_clean stands _ _ (λ i before after stayed. (stayed, ends.1, ends.2)) s t (stays is_clean stands s t ends.0)
  input_moves time clock_failed is_clocked is_strict remaining contents input_failed output_failed s t reader reader' writer writer' result ends =
      run_moves is_clean stands (LineReplies answers time is_clocked) (λ i. LineReplies (kept i) time is_clocked) (reply_moves time is_clocked)
      (longest_of is_clocked) s t (remaining reader) (remaining reader') (contents writer) (contents writer')
      input_failed (ClockFails clock_failed is_clocked) output_failed is_strict result ends

  -- one row of an import
  row_moves : (now : ℕ) (s : S) (row : Row) (reply : List ℕ) (t : S) → RowReplies answers now s row reply t
      → Leads is_clean stands (λ i before after. RowReplies (kept i) now before row reply after) s t
  row_moves now s row reply t (inl (command, outcome, means, answered, replied)) =
      follows is_clean stands _ _ (λ i before after made. inl (command, outcome, means, made, replied)) s t
      (lifts s now (ran command outcome) t answered)
  row_moves now s row reply t (inr (unreadable, replied, same)) =
      follows is_clean stands _ _ (λ i before after stayed. inr (unreadable, replied, stayed)) s t (stays is_clean stands s t same)

  -- all rows of a text, its first rows, or its first rows and one whose reply was cut
  rows_move : (now : ℕ) (s t : S) (rows : List Row) (replies : List (List ℕ)) → Answered (RowReplies answers now) s rows replies t
      → Leads is_clean stands (λ i before after. Answered (RowReplies (kept i) now) before rows replies after) s t
  rows_move now s t rows replies = runs is_clean stands (RowReplies answers now) (λ i. RowReplies (kept i) now) (row_moves now) s t rows replies

  cut_move : (now : ℕ) (s middle t : S) (rows : List Row) (replies : List (List ℕ)) (row : Row) (reply : List ℕ)
      → Answered (RowReplies answers now) s rows replies middle → RowReplies answers now middle row reply t
      → Leads is_clean stands
      (λ i before after. (between : R) × Answered (RowReplies (kept i) now) before rows replies between × RowReplies (kept i) now between row reply after) s t
  cut_move now s middle t rows replies row reply run last =
      chains is_clean stands _ _ s middle t (rows_move now s middle rows replies run) (row_moves now middle row reply t last)

  -- a run of rows that ends at the first refusal, if it is strict
  row_run_moves : (is_strict : Bool) (now : ℕ) (s t : S) (output_failed : Type 0) (out out' : Option (List ℕ)) (text : List ℕ) (result : Result Continuation Fault)
      → RowsEnd answers is_strict now s t output_failed out out' text result
      → Leads is_clean stands (λ i before after. RowsEnd (kept i) is_strict now before after output_failed out out' text result) s t
  row_run_moves is_strict now s t output_failed out out' text (Ok passed.On) ((all, run), each) =
      follows is_clean stands _ _ (λ i before after moved. ((all, moved), each)) s t (rows_move now s t (data_rows all.rows) all.replies run)
  row_run_moves is_strict now s t output_failed out out' text (Ok (passed.Refused refused)) ((first, run), strict, ends, why) =
      follows is_clean stands _ _ (λ i before after moved. ((first, moved), strict, ends, why)) s t
      (rows_move now s t (data_rows first.rows) first.replies run)
  row_run_moves is_strict now s t output_failed out out' text (Err Write) ((cut, middle, run, last), each, failed) =
      follows is_clean stands _ _ (λ i before after moved. ((cut, moved.0, moved.1, moved.2), each, failed)) s t
      (cut_move now s middle t (data_rows cut.rows) cut.replies cut.row cut.reply run last)
  row_run_moves is_strict now s t output_failed out out' text (Err Memory) ((first, run), each) =
      follows is_clean stands _ _ (λ i before after moved. ((first, moved), each)) s t (rows_move now s t (data_rows first.rows) first.replies run)
  row_run_moves is_strict now s t output_failed out out' text (Err other) ended = absurd ended

  -- the run of a text up to its last line end
  strict_run_moves : (now : ℕ) (s t : S) (output_failed : Type 0) (out out' : Option (List ℕ)) (text : List ℕ) (result : Result Ended Fault)
      → StrictRan answers now s t output_failed out out' text result
      → Leads is_clean stands (λ i before after. StrictRan (kept i) now before after output_failed out out' text result) s t
  strict_run_moves now s t output_failed out out' text (Ok (ended.Refused refused)) run =
      row_run_moves true now s t output_failed out out' (whole_lines text) (Ok (passed.Refused refused)) run
  strict_run_moves now s t output_failed out out' text (Ok ended.Whole) (run, all) =
      follows is_clean stands _ _ (λ i before after moved. (moved, all)) s t (row_run_moves true now s t output_failed out out' (whole_lines text) (Ok passed.On) run)
  strict_run_moves now s t output_failed out out' text (Ok ended.NoLineEnd) (run, more) =
      follows is_clean stands _ _ (λ i before after moved. (moved, more)) s t (row_run_moves true now s t output_failed out out' (whole_lines text) (Ok passed.On) run)
  strict_run_moves now s t output_failed out out' text (Err fault) run = row_run_moves true now s t output_failed out out' (whole_lines text) (Err fault) run

  -- an import, by what holds of its rows
  ends_moves : {E W A : Type 0} (remaining : E → Option (List ℕ)) (input_failed : Type 0) (s t : S) (reader reader' : E) (writer writer' : W)
      (Ran : List ℕ → Result A Fault → Type 0) (Kept : I → R → R → List ℕ → Result A Fault → Type 0) (result : Result A Fault)
      → ((text : List ℕ) → Ran text result → Leads is_clean stands (λ i before after. Kept i before after text result) s t)
      → EndsBy remaining input_failed s t reader reader' writer writer' Ran result
      → Leads is_clean stands (λ i before after. EndsBy remaining input_failed before after reader reader' writer writer' (Kept i before after) result) s t
  ends_moves remaining input_failed s t reader reader' writer writer' Ran Kept result moves (inl (text, took, run)) =
      follows is_clean stands _ _ (λ i before after moved. inl (text, took, moved)) s t (moves text run)
  ends_moves remaining input_failed s t reader reader' writer writer' Ran Kept result moves (inr (why, same, unwritten)) =
      follows is_clean stands _ _ (λ i before after stayed. inr (why, stayed, unwritten)) s t (stays is_clean stands s t same)

  pub import_moves : {E W : Type 0} (remaining : E → Option (List ℕ)) (contents : W → Option (List ℕ)) (input_failed output_failed : Type 0) (now : ℕ) (s t : S)
      (reader reader' : E) (writer writer' : W) (result : Result (Unit {0}) Fault) → ImportEnds answers remaining contents input_failed output_failed now s t reader reader' writer writer' result
      → Leads is_clean stands (λ i before after. ImportEnds (kept i) remaining contents input_failed output_failed now before after reader reader' writer writer' result) s t
  import_moves remaining contents input_failed output_failed now s t reader reader' writer writer' result =
      ends_moves remaining input_failed s t reader reader' writer writer' (ImportRan answers now s t output_failed (contents writer) (contents writer'))
      (λ i before after. ImportRan (kept i) now before after output_failed (contents writer) (contents writer')) result (λ text run.
      follows is_clean stands _ _ (λ i before after moved. (run.0, moved, run.2)) s t
      (row_run_moves false now s t output_failed (contents writer) (contents writer') text run.0 run.1))

  -- a strict one
  pub strict_import_moves : {E W : Type 0} (remaining : E → Option (List ℕ)) (contents : W → Option (List ℕ)) (input_failed output_failed : Type 0) (now : ℕ) (s t : S)
      (reader reader' : E) (writer writer' : W) (result : Result Ended Fault) → StrictEnds answers remaining contents input_failed output_failed now s t reader reader' writer writer' result
      → Leads is_clean stands (λ i before after. StrictEnds (kept i) remaining contents input_failed output_failed now before after reader reader' writer writer' result) s t
  strict_import_moves remaining contents input_failed output_failed now s t reader reader' writer writer' result =
      ends_moves remaining input_failed s t reader reader' writer writer' (StrictRan answers now s t output_failed (contents writer) (contents writer'))
      (λ i before after. StrictRan (kept i) now before after output_failed (contents writer) (contents writer')) result
      (λ text run. strict_run_moves now s t output_failed (contents writer) (contents writer') text result run)
