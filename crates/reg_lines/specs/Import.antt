-- An import: the rows of a text, and how a run of it ends.
use denote.Ref.{Bor}
use Rattle.std.specs.Prelude.{◌≡◌, ◌⊎◌, ℕ, ◌+◌, ◌<◌, ◌≤◌, Bool, true, false, ◌&&◌, IsTrue, List, [], ◌∷◌, ◌++◌, length, take, codes, bytes_eq, if◌then◌else◌, None, Some, Result, Ok, Err}
use Rattle.std.specs.declared.option.Option.{Option}
use Rattle.std.specs.Io.KnownBytes.{Appends, Consumes, IsAtEnd}
use Rattle.std.specs.List.{AllByRecursion, concat}
use Rattle.csv.specs.Reading.{AreRecords, Reached, Ready, default_config, reader_config, reader_state, reader_trim, source_of, strip_bom}
use Rattle.csv.specs.declared.parser.State.{State}
use Rattle.csv.specs.declared.parser.State.TheVariants as st
use Rattle.csv.specs.declared.reader.Reader.{Reader}
use Rattle.csv.specs.declared.reader.Trim.TheVariants as trim
use Rattle.reg_core.specs.declared.command.Command.{Command}
use Rattle.reg_core.specs.declared.command.Reply.{Reply}
use Rattle.reg_core.specs.declared.refusal.Fault.{Fault}
use Rattle.reg_core.specs.declared.refusal.Fault.TheVariants.{Refused, Memory, Read, Write}
use Rattle.reg_core.specs.declared.refusal.Refusal.TheVariants.{Syntax}
use Rattle.reg_io.specs.RunsOfAnswers.{Answered}
use Rattle.reg_io.specs.declared.put.WriteFault.{WriteFault}
use Rattle.reg_lines.specs.Accepted.{EndsRefused, IsAccepted, WritesReply, GivesReason, done_of}
use Rattle.reg_lines.specs.ByCalls.{Call, ran}
use Rattle.reg_lines.specs.Meaning.{SpellsCommand}
use Rattle.reg_lines.specs.LineReading.{four}
use Rattle.reg_lines.specs.declared.answered.Continuation.{Continuation}
use Rattle.reg_lines.specs.declared.answered.Continuation.TheVariants.{On}
use Rattle.reg_lines.specs.declared.answered.Continuation.TheVariants as passed
use Rattle.reg_lines.specs.Replies.{outcome_line, with_lf}

-- the most bytes of an import
abbrev pub most_bytes : ℕ
most_bytes = 16777216

-- a row, as the crate `csv` reads it: the bytes of each field
abbrev pub Row : Type 0
Row = List (List ℕ)

-- these are all rows of a text (RFC 4180), as `csv` reads them: it skips a byte order mark at the start and empty lines
abbrev pub AreCsvRows : List ℕ → List Row → Type 0
AreCsvRows text rows = AreRecords default_config st.StartRecord (strip_bom text) rows

-- these are the first rows of a text, as `csv` reads them
abbrev pub AreFirstRows : List ℕ → List Row → Type 0
AreFirstRows text rows =
    (s : State) × (left : List ℕ) × Reached default_config st.StartRecord (strip_bom text) rows s left

-- these four fields are the names of the header
abbrev pub are_names : Option (List ℕ × List ℕ × List ℕ × List ℕ) → Bool
are_names None = false
are_names (Some names) =
    bytes_eq names.0 (codes "order") && bytes_eq names.1 (codes "serial")
    && bytes_eq names.2 (codes "notBefore") && bytes_eq names.3 (codes "notAfter")

-- the row is `order,serial,notBefore,notAfter`
abbrev pub is_header : Row → Bool
is_header row = are_names (four row)

-- the rows without a header, which only the first one can be
abbrev pub data_rows : List Row → List Row
data_rows [] = []
data_rows (row ∷ rows) = if is_header row then rows else row ∷ rows

-- the word `register` and the fields of a row spell the command
abbrev pub RowMeans : Row → Command → Type 0
RowMeans row command = SpellsCommand command (codes "register" ∷ row)

-- One row and its reply at a moment: the office `s` becomes `t`. If a row spells no command, the reply is that of `E22`, and the office gets no call.
abbrev pub RowReplies : {S : Type 0} → (S → ℕ → Call → S → Type 0) → ℕ → S → Row → List ℕ → S → Type 0
RowReplies answers now s row reply t =
    ((command : Command) × (outcome : Result Reply Fault) × RowMeans row command
    × answers s now (ran command outcome) t
    × (reply ≡ with_lf (outcome_line outcome)))
    ⊎ (((command : Command) → ¬ RowMeans row command)
    × (reply ≡ with_lf (outcome_line (Err (Refused Syntax)))) × (t ≡ s))

-- The replies that were written for the rows of a text: the output before and after.
module _ (text : List ℕ) (out out' : Option (List ℕ)) where
  -- only the replies to rows of the text were written: to all of them, or to the first ones
  pub record RepliedRows (Are : List ℕ → List Row → Type 0) : Type 0 where
    pub rows : List Row
    pub replies : List (List ℕ)
    pub are : Are text rows
    pub wrote : Appends out out' (concat replies)

  -- the replies to its first rows were written, and a prefix of the reply to the row after them, which is no header
  pub record CutRow : Type 0 where
    pub rows : List Row
    pub replies : List (List ℕ)
    pub row : Row
    pub reply : List ℕ
    pub part : ℕ
    pub first : AreFirstRows text (rows ++ row ∷ [])
    pub no_header : data_rows (rows ++ row ∷ []) ≡ data_rows rows ++ row ∷ []
    pub partly : part < length reply
    pub wrote : Appends out out' (concat replies ++ take part reply)

-- Rows of a text that ran at a moment, in order: the office, and the output, before and after.
module _ {S : Type 0} (answers : S → ℕ → Call → S → Type 0) (now : ℕ) (s t : S) (out out' : Option (List ℕ))
    (text : List ℕ) where
  -- rows of which `Are` holds with the text (all, or the first ones) ran, without a header, and their replies were written
  abbrev pub RowsRan : (List ℕ → List Row → Type 0) → Type 0
  RowsRan Are =
      (ran : RepliedRows text out out' Are)
      × Answered (RowReplies answers now) s (data_rows ran.rows) ran.replies t

  -- all rows of the text ran
  abbrev pub AllRan : Type 0
  AllRan = RowsRan AreCsvRows

  -- the first rows of the text ran
  abbrev pub FirstRan : Type 0
  FirstRan = RowsRan AreFirstRows

  -- the first rows ran, and one more, of whose reply only a proper prefix was written
  abbrev pub OneCut : Type 0
  OneCut =
      (cut : CutRow text out out') × (middle : S)
      × Answered (RowReplies answers now) s (data_rows cut.rows) cut.replies middle
      × RowReplies answers now middle cut.row cut.reply t

-- the whole text was read
pub record TookAll (input input' : Option (List ℕ)) (text : List ℕ) : Type 0 where
  pub consumed : Consumes input input' text
  pub at_end : IsAtEnd input'
  pub fits : length text ≤ most_bytes

-- bytes were read, at most one more than an import may have
abbrev pub TookSome : Option (List ℕ) → Option (List ℕ) → Type 0
TookSome input input' = (took : List ℕ) × Consumes input input' took × (length took ≤ most_bytes + 1)

-- the text can't be read: there is one byte too many, or the input failed (`failed`) after fewer
abbrev pub IsTextUnread : Type 0 → Option (List ℕ) → Option (List ℕ) → Type 0
IsTextUnread failed input input' =
    (some : TookSome input input') × ((length some.0 ≡ most_bytes + 1) ⊎ failed)

-- Rows that run at a moment, strictly or not: the office, and the output, before and after; `output_failed` states that a write failed.
module _ {S : Type 0} (answers : S → ℕ → Call → S → Type 0) (is_strict : Bool) (now : ℕ) (s t : S)
    (output_failed : Type 0) where
  -- How the run of a text's rows ends: each ran, or there was a fault. In a strict run all replies are accepted; or only the last one is not, and
  -- no row after it ran.
  abbrev pub RowsEnd : Option (List ℕ) → Option (List ℕ) → List ℕ → Result Continuation Fault → Type 0
  RowsEnd out out' text (Ok On) =
      (run : AllRan answers now s t out out' text)
      × (IsTrue is_strict → AllByRecursion IsAccepted run.0.replies)
  RowsEnd out out' text (Ok (passed.Refused refused)) =
      (run : FirstRan answers now s t out out' text) × IsTrue is_strict
      × (ends : EndsRefused run.0.replies) × GivesReason refused ends.refused
  RowsEnd out out' text (Err Write) =
      (run : OneCut answers now s t out out' text)
      × (IsTrue is_strict → AllByRecursion IsAccepted run.0.replies) × output_failed
  RowsEnd out out' text (Err Memory) =
      (run : FirstRan answers now s t out out' text)
      × (IsTrue is_strict → AllByRecursion IsAccepted run.0.replies)
  RowsEnd out out' text (Err other) = ⊥

-- How an import ends: the whole text was read, and `Ran` holds of the text and the result; or the input failed or was too long, or there was no
-- memory for the text, and nothing ran.
abbrev pub EndsBy
    : {S R W A : Type 0} → (R → Option (List ℕ)) → Type 0 → S → S → R → R → W → W
    → (List ℕ → Result A Fault → Type 0)
    → Result A Fault → Type 0
EndsBy remaining input_failed s t reader reader' writer writer' Ran result =
    ((text : List ℕ) × TookAll (remaining reader) (remaining reader') text × Ran text result)
    ⊎ ((((result ≡ Err Read) × IsTextUnread input_failed (remaining reader) (remaining reader'))
    ⊎ ((result ≡ Err Memory) × TookSome (remaining reader) (remaining reader')))
    × (t ≡ s) × (writer' ≡ writer))

-- the run of a text's rows at a moment, which goes on after a refusal
abbrev pub ImportRan
    : {S : Type 0} → (S → ℕ → Call → S → Type 0) → ℕ → S → S → Type 0 → Option (List ℕ) → Option (List ℕ)
    → List ℕ
    → Result (Unit {0}) Fault → Type 0
ImportRan answers now s t output_failed out out' text result =
    (ran : Result Continuation Fault) × RowsEnd answers false now s t output_failed out out' text ran
    × (result ≡ done_of ran)

-- an import at a moment: the office, the reader and the writer before and after
abbrev pub ImportEnds
    : {S R W : Type 0} → (S → ℕ → Call → S → Type 0) → (R → Option (List ℕ)) → (W → Option (List ℕ)) → Type 0
    → Type 0 → ℕ → S → S → R → R → W → W
    → Result (Unit {0}) Fault → Type 0
ImportEnds answers remaining contents input_failed output_failed now s t reader reader' writer writer' =
    EndsBy remaining input_failed s t reader reader' writer writer'
    (ImportRan answers now s t output_failed (contents writer) (contents writer'))

-- ---- the steps of an import

-- how reading the text ends
abbrev pub TextRead : Type 0 → Option (List ℕ) → Option (List ℕ) → Result (List ℕ) Fault → Type 0
TextRead failed input input' (Ok text) = TookAll input input' text
TextRead failed input input' (Err Read) = IsTextUnread failed input input'
TextRead failed input input' (Err Memory) = TookSome input input'
TextRead failed input input' (Err other) = ⊥

-- a CSV reader that has read no row yet, does not take the first one for a header, and does not trim fields
pub record IsAtStart (rows : Reader (Bor (List ℕ))) : Type 0 where
  pub untrimmed : reader_trim rows ≡ trim.None
  pub ready : Ready rows
  pub config : reader_config rows ≡ default_config
  pub state : reader_state rows ≡ st.StartRecord

-- the bytes that the reader reads are those of the text, without a byte order mark at the start
abbrev pub ReadsText : Reader (Bor (List ℕ)) → List ℕ → Type 0
ReadsText rows text = source_of (λ (s : Bor (List ℕ)). Some s.now) rows ≡ Some (strip_bom text)

-- One row that runs at a moment, strictly or not.
module _ {S : Type 0} (answers : S → ℕ → Call → S → Type 0) (is_strict : Bool) (now : ℕ) (s t : S) where
  -- a row ran, and its reply, or a proper prefix of the reply, was written
  pub record RanRow (row : Row) (out out' : Option (List ℕ))
      (result : Result Continuation WriteFault) : Type 0 where
    pub reply : List ℕ
    pub replied : RowReplies answers now s row reply t
    pub said : WritesReply is_strict out out' reply result

  -- a row ran; or it is the first one and a header, and was skipped
  abbrev pub TookRow
      : Bool → Row → Option (List ℕ) → Option (List ℕ) → Result Continuation WriteFault → Type 0
  TookRow first row out out' result =
      (((first && is_header row) ≡ true) × (t ≡ s) × (result ≡ Ok On) × Appends out out' [])
      ⊎ (((first && is_header row) ≡ false) × RanRow row out out' result)
