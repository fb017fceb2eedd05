-- The rows of a file. For each, a task is done with its certificate at a control socket.
use Rattle.std.specs.Prelude.{◌≡◌, ◌⊎◌, ◌↔◌, ℕ, ◌+◌, ◌==◌, Bool, ◌||◌, List, [], ◌∷◌, ◌++◌, take, drop, codes, bytes_eq, decimal, option_map, position, IsFalse, IsTrue, Option, Some, None, Result, Ok, Err}
use Rattle.std.specs.Io.KnownBytes.{Appends, Consumes}
use Rattle.std.specs.List.{AllByRecursion, concat}
use Rattle.reg_core.specs.Calendar.{moment_of, moment_text}
use Rattle.reg_core.specs.Sequence.{◌>>=◌}
use Rattle.reg_core.specs.Serial.{serial_of, serial_text}
use Rattle.reg_core.specs.declared.refusal.Fault.TheVariants as fault
use Rattle.reg_core.specs.Label.{label_of}
use Rattle.reg_desk_cli.specs.declared.failure.Failure.{Failure}
use Rattle.reg_desk_cli.specs.declared.failure.Failure.TheVariants as failure
use Rattle.reg_desk_cli.specs.declared.job.OrderTerms.{OrderTerms}
use Rattle.reg_desk_cli.specs.declared.job.RowTask.{RowTask}
use Rattle.reg_desk_cli.specs.declared.job.RowTask.TheVariants.{Register, Revoke}
use Rattle.reg_lines.specs.Accepted.{IsAccepted}
use Rattle.reg_lines.specs.Script.{line_of}
use Rattle.reg_desk_jobs.specs.Conversations.{AreMostLines, AreWhole, IsInput, IsConversationFault, IsFailureBy}
use Rattle.reg_desk_jobs.specs.LogEntries.{first_word, second_word}
use Rattle.reg_desk_jobs.specs.declared.row_job.RegistrationInput.{RegistrationInput}
use Rattle.reg_desk_jobs.specs.declared.row_job.RevocationInput.{RevocationInput}

-- ---- a row

-- the header of a file for a task
abbrev pub header_of : RowTask → List ℕ
header_of (Register terms) = codes "serial,notBefore,notAfter"
header_of Revoke = codes "serial,ground"

-- whether a text is no row: it is empty, or the header
abbrev pub is_skipped : RowTask → List ℕ → Bool
is_skipped task text = bytes_eq text [] || bytes_eq text (header_of task)

-- the text before the first comma, and the text after it
unfoldable pub split_at_comma : List ℕ → Option (List ℕ × List ℕ)
split_at_comma text =
    option_map (λ comma. (take comma text, drop (comma + 1) text)) (position (λ byte. byte == 44) text)

-- the row `SERIAL,GROUND`
unfoldable pub revocation_row_in : List ℕ → Option RevocationInput
revocation_row_in text = do
  fields ← split_at_comma text
  serial ← serial_of fields.0
  word ← label_of fields.1
  Some (record { serial = serial; ground_word = word })

-- the row `SERIAL,NOTBEFORE,NOTAFTER`
unfoldable pub registration_row_in : List ℕ → Option RegistrationInput
registration_row_in text = do
  fields ← split_at_comma text
  moments ← split_at_comma fields.1
  serial ← serial_of fields.0
  not_before ← moment_of moments.0
  not_after ← moment_of moments.1
  Some (record { serial = serial; not_before = not_before; not_after = not_after })

-- ---- the lines that are sent for a row

-- the line that requests the revocation of a row's certificate
abbrev pub row_request : RevocationInput → List ℕ
row_request row = codes "request" ++ (32 ∷ serial_text row.serial) ++ (32 ∷ row.ground_word) ++ 10 ∷ []

-- the line that revokes it, with the second word of the reply, the request's number
abbrev pub row_revocation : RevocationInput → List ℕ → List ℕ
row_revocation row reply =
    codes "revoke" ++ (32 ∷ second_word (line_of reply)) ++ (32 ∷ serial_text row.serial) ++ 10 ∷ []

-- the line that asks for the status of a row's certificate
abbrev pub row_status : RegistrationInput → List ℕ
row_status row = codes "status" ++ (32 ∷ serial_text row.serial) ++ 10 ∷ []

-- the line that enters an order
abbrev pub row_order : OrderTerms → List ℕ
row_order terms = codes "order" ++ (32 ∷ decimal terms.subscriber) ++ (32 ∷ decimal terms.days) ++ 10 ∷ []

-- the line that registers a row's certificate, with the second word of the reply, the order's number
abbrev pub row_registration : RegistrationInput → List ℕ → List ℕ
row_registration row reply =
    codes "register" ++ (32 ∷ second_word (line_of reply)) ++ (32 ∷ serial_text row.serial)
    ++ (32 ∷ moment_text row.not_before)
    ++ (32 ∷ moment_text row.not_after) ++ 10 ∷ []

-- a connection to the control socket: what was sent, and the replies that are left
pub record Link : Type 0 where
  pub sent : Option (List ℕ)
  pub incoming : Option (List ℕ)

abbrev pub link_of : Option (List ℕ) → Option (List ℕ) → Link
link_of sent incoming = record { sent = sent; incoming = incoming }

-- an exchange: the connection before it and after it, and its last reply
abbrev pub Exchange : Type 1
Exchange = Link → Link → List ℕ → Type 0

-- a line is sent, and its reply is read
abbrev pub Sends : List ℕ → Exchange
Sends line s t reply = Appends s.sent t.sent line × Consumes s.incoming t.incoming reply

-- whether the first word of a reply is this word
abbrev pub has_first_word : List ℕ → List ℕ → Bool
has_first_word reply word = bytes_eq (first_word (line_of reply)) word

-- a line is sent; if the first word of its reply is this word, `NextLine` follows
abbrev pub SendsThen : List ℕ → List ℕ → (List ℕ → Exchange) → Exchange
SendsThen line word NextLine s t reply =
    (Sends line s t reply × IsFalse (has_first_word reply word))
    ⊎ ((m : Link) × (first : List ℕ) × Sends line s m first × IsTrue (has_first_word first word)
    × NextLine first m t reply)

-- a row's request, and its revocation if the first word of the reply is `request`; without a row, `request` alone
abbrev pub RevokesRow : Option RevocationInput → Exchange
RevokesRow None = Sends (codes "request\n")
RevokesRow (Some row) =
    SendsThen (row_request row) (codes "request") (λ entered. Sends (row_revocation row entered))

-- an order, and the row's registration if the first word of the reply is `order`
abbrev pub OrdersRow : OrderTerms → RegistrationInput → Exchange
OrdersRow terms row =
    SendsThen (row_order terms) (codes "order") (λ ordered. Sends (row_registration row ordered))

-- a row's status, and then as `OrdersRow` states if the first word of the reply is `unknown`; without a row, `register` alone
abbrev pub RegistersRow : OrderTerms → Option RegistrationInput → Exchange
RegistersRow terms None = Sends (codes "register\n")
RegistersRow terms (Some row) = SendsThen (row_status row) (codes "unknown") (λ unknown. OrdersRow terms row)

abbrev pub AnswersRow : RowTask → List ℕ → Exchange
AnswersRow (Register terms) text = RegistersRow terms (registration_row_in text)
AnswersRow Revoke text = RevokesRow (revocation_row_in text)

-- the reply to a row that is done: it is no refusal and no fault, or its first word is E19 (the certificate is already revoked)
abbrev pub IsRowDone : List ℕ → Type 0
IsRowDone reply = IsAccepted reply ⊎ (first_word (line_of reply) ≡ codes "E19")

-- ---- the rows of a file

-- The task for each row.
module _ (task : RowTask) where
  -- the last reply to a line of the file; for a skipped line, nothing is sent, and the reply is empty
  abbrev pub LineAnswered : Link → Link → List ℕ → List ℕ → Type 0
  LineAnswered s t line reply = (IsTrue (is_skipped task (line_of line)) × (reply ≡ []) × (t ≡ s))
      ⊎ (IsFalse (is_skipped task (line_of line)) × AnswersRow task (line_of line) s t reply)

  -- the same, with the reply written, and whether the line is done
  abbrev pub LineReplied : Link → Link → Option (List ℕ) → Option (List ℕ) → List ℕ → Bool → Type 0
  LineReplied s t out out' line done =
      (reply : List ℕ) × LineAnswered s t line reply × Appends out out' reply
      × (IsTrue done ↔ IsRowDone reply)

  -- the replies to lines of the file, one for each, in their order
  abbrev pub LinesAnswered : Link → Link → List (List ℕ) → List (List ℕ) → Type 0
  LinesAnswered s t [] [] = t ≡ s
  LinesAnswered s t (line ∷ lines) (reply ∷ replies) =
      (m : Link) × LineAnswered s m line reply × LinesAnswered m t lines replies
  LinesAnswered s t [] (reply ∷ replies) = ⊥
  LinesAnswered s t (line ∷ lines) [] = ⊥

  -- these lines of the file were answered, and all their replies written
  pub record RepliesWritten (s t : Link) (out out' : Option (List ℕ))
      (lines replies : List (List ℕ)) : Type 0 where
    pub whole : AreWhole lines
    pub answered : LinesAnswered s t lines replies
    pub wrote : Appends out out' (concat replies)

  -- the most lines of a conversation were taken from the file
  abbrev pub SendsMostRows : Link → Link → Option (List ℕ) → Option (List ℕ) → Type 0
  SendsMostRows s t out out' =
      (lines replies : List (List ℕ)) × RepliesWritten s t out out' lines replies × AreMostLines lines

  -- The rows of an input: each is done; or one is not, or a last line without its line end is left, for which nothing was sent. The job ends early
  -- only if a read or a write failed, the replies ended, or out of memory, or after the most lines; then nothing else is stated.
  abbrev pub SendsRows
      : Type 0 → Type 0 → Option (List ℕ) → Link → Link → Option (List ℕ) → Option (List ℕ)
      → Result (Unit {0}) Failure → Type 0
  SendsRows read_failed write_failed input s t out out' (Ok done) =
      (lines replies : List (List ℕ)) × RepliesWritten s t out out' lines replies
      × IsInput input (concat lines) × AllByRecursion IsRowDone replies
  SendsRows read_failed write_failed input s t out out' (Err why) =
      IsConversationFault (read_failed ⊎ SendsMostRows s t out out') write_failed why
      ⊎ ((lines replies : List (List ℕ)) × (left : List ℕ) × RepliesWritten s t out out' lines replies
      × IsInput input (concat lines ++ left) × IsFailureBy IsRowDone replies left why)

  -- over a connection about which nothing else is known: out of memory with nothing written, or as `SendsRows` states
  abbrev pub SendsRowsOver
      : Option (List ℕ) → Option (List ℕ) → Option (List ℕ) → Result (Unit {0}) Failure → Type 0
  SendsRowsOver input out out' result =
      ((result ≡ Err (failure.Fault fault.Memory)) × (out' ≡ out))
      ⊎ ((s t : Link) × SendsRows (Unit {0}) (Unit {0}) input s t out out' result)

  -- at a control socket: the job failed with `Read` and nothing written; or the program connected (`met`), as `SendsRowsOver` states
  abbrev pub SendsRowsAt
      : Type 0 → Option (List ℕ) → Option (List ℕ) → Option (List ℕ) → Result (Unit {0}) Failure → Type 0
  SendsRowsAt met input out out' result =
      ((result ≡ Err (failure.Fault fault.Read)) × (out' ≡ out)) ⊎ (met × SendsRowsOver input out out' result)
