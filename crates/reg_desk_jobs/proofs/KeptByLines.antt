-- A line at a follower's control socket that is no command leaves the records as they are.
use Rattle.std.proofs.Common.{◌≡◌, ◌≢◌, ℕ, List, [], ◌∷◌, ◌++◌, Option, Result, Bool, Ok, Err, inl, inr, refl, subst, sym}
use Rattle.std.specs.List.{All}
use Rattle.std.proofs.lemmas.Bool.{ne_eqb}
use Rattle.std.proofs.lemmas.List.Elements.{All-head, All-tail}
use Rattle.reg_core.specs.Records.{Records}
use Rattle.reg_core.specs.declared.command.Query.{Query}
use Rattle.reg_core.specs.declared.memory.Memory.{Memory as NoMemory}
use Rattle.reg_desk_server.specs.LineEnds.{IsLine}
use Rattle.reg_lines.specs.Answer.{ComesTo}
use Rattle.reg_lines.specs.ByCalls.{Lines}
use Rattle.reg_lines.specs.Meaning.{LineMeans, OneMeaning, means_command, means_query, is_ocsp_line}
use Rattle.reg_lines.specs.Script.{line_of, pieces}
use Rattle.reg_lines.specs.declared.answered.Answered.{Answered}
use Rattle.reg_office_api.specs.CallSteps.{AnswersOcsp, Signs}
use Rattle.reg_office_api.specs.Signers.{OfficeSigners}
use Rattle.reg_desk_service.specs.ControlWords.{AnswersLineAt, AnswersLinesAt, AnswersLinesByClock, AnswersWord, CommandAt, CommandLineAt, HasCommand, LineAt, WordMeaning, accepts, commands, copies, decides, helps, meaning_in, schedules, shows, why}
use Rattle.reg_desk_service.specs.Following.{HasKind, IsCommandLineKind, IsLineKind, IsTextKind, MayAnswerLine}

-- ---- one line

cut_line : (front : List ℕ) → All (λ byte. byte ≢ 10) front → pieces (front ++ 10 ∷ []) ≡ (front ++ 10 ∷ []) ∷ []
unfolding pieces
cut_line [] free = refl
cut_line (byte ∷ front) free =
    rw (ne_eqb byte 10 (All-head (λ byte. byte ≢ 10) byte front free), cut_line front (All-tail (λ byte. byte ≢ 10) byte front free)) refl

-- one line is its only piece
one_line : (line : List ℕ) → IsLine line → pieces line ≡ line ∷ []
one_line line (front, is, free) = rw is (cut_line front free)

-- ---- its kind

-- the type of the kinds of lines, which reg_desk_service does not export
abbrev KindIn : {Kind : Type 0} → (List ℕ → WordMeaning → Kind → Type 0) → Type 0
KindIn {Kind = Kind} HasIt = Kind

-- a line of this kind is no command
record CommandsNothing (kind : KindIn HasKind) : Type 0 where
  word : HasKind [] (accepts 0) kind → ⊥
  text : (text : List ℕ) → IsTextKind text kind → ¬ HasCommand text

-- no untimed line has two meanings
module _ (one : OneMeaning) where
  query_only : (text : List ℕ) (query : Query) → LineMeans text (means_query query) → ¬ HasCommand text
  query_only text query said (command, means) =
      let both : means_command command ≡ means_query query = one text (means_command command) (means_query query) means said in cc

  ocsp_only : (text bytes : List ℕ) → LineMeans text (is_ocsp_line bytes) → ¬ HasCommand text
  ocsp_only text bytes said (command, means) =
      let both : means_command command ≡ is_ocsp_line bytes = one text (means_command command) (is_ocsp_line bytes) means said in cc

  -- ---- the records after it

  module _ (signs : Signs) (now : ℕ) (identity : OfficeSigners) (before after : Records) where
    ocsp_keeps : (request : List ℕ) (given : Result (List ℕ) NoMemory) → AnswersOcsp signs identity before now request given after → after ≡ before
    ocsp_keeps request (Ok response) answers = answers.1
    ocsp_keeps request (Err memory) same = same

    call_keeps : (text : List ℕ) (answered : Answered) → ¬ HasCommand text → ComesTo (Lines signs identity) now before text answered after → after ≡ before
    call_keeps text answered not (inl (means_command command, means, answers)) = absurd (not (command, means))
    call_keeps text answered not (inl (means_query query, means, answers)) = answers.1.1
    call_keeps text answered not (inl (is_ocsp_line request, means, answers)) = ocsp_keeps request answers.0 answers.1
    call_keeps text answered not (inr unread) = unread.2

    command_keeps : (text reply : List ℕ) → ¬ HasCommand text → CommandAt signs now identity before text reply after → after ≡ before
    command_keeps text reply not (inl replied) = call_keeps text replied.0 not replied.1
    command_keeps text reply not (inr fails) = fails.1

    text_keeps : (accepted : Option ℕ) (text reply : List ℕ) → ¬ HasCommand text → LineAt accepted signs now identity before text reply after → after ≡ before
    text_keeps accepted text reply not (inl runs) = absurd (not runs.0)
    text_keeps accepted text reply not (inr answers) = command_keeps text reply not answers.1

    command_line_keeps : (accepted : Option ℕ) (line reply : List ℕ) (kind : KindIn HasKind) → CommandsNothing kind → IsCommandLineKind line kind
        → CommandLineAt accepted signs now identity before line reply after → after ≡ before
    command_line_keeps accepted line reply kind not (inl short) (inl answers) =
        text_keeps accepted (line_of line) reply (not.text (line_of line) short.1) answers.1
    command_line_keeps accepted line reply kind not (inr long) (inl answers) = absurd (long.0 answers.0)
    command_line_keeps accepted line reply kind not is (inr fails) = fails.2

    word_keeps : (accepted : Option ℕ) (line reply : List ℕ) (kind : KindIn HasKind) (meaning : WordMeaning) → CommandsNothing kind → HasKind line meaning kind
        → AnswersWord accepted signs now identity before line meaning reply after → after ≡ before
    word_keeps accepted line reply kind helps not has answers = answers.1
    word_keeps accepted line reply kind why not has same = same
    word_keeps accepted line reply kind copies not has answers = answers.1
    word_keeps accepted line reply kind (shows key) not has answers = answers.1
    word_keeps accepted line reply kind (decides decision) not has answers = absurd (not.word has)
    word_keeps accepted line reply kind (accepts moment) not has answers = absurd (not.word has)
    word_keeps accepted line reply kind (schedules steps) not has answers = absurd (not.word has)
    word_keeps accepted line reply kind commands not has answers = command_line_keeps accepted line reply kind not has answers

    line_keeps : (accepted : Option ℕ) (line reply : List ℕ) (kind : KindIn HasKind) → CommandsNothing kind → IsLineKind line kind
        → AnswersLineAt accepted signs now identity before line reply after → after ≡ before
    line_keeps accepted line reply kind not is (inl answers) = word_keeps accepted line reply kind (meaning_in line) not is answers
    line_keeps accepted line reply kind not is (inr fails) = fails.1

    lines_keep_by : (accepted : Option ℕ) (line text : List ℕ) (kind : KindIn HasKind) → IsLine line → CommandsNothing kind → IsLineKind line kind
        → AnswersLinesAt accepted signs now identity before (pieces line) text after → after ≡ before
    lines_keep_by accepted line text kind alone not is answers =
        go (subst (λ (lines : List (List ℕ)). AnswersLinesAt accepted signs now identity before lines text after) (one_line line alone) answers)
      where
        go : AnswersLinesAt accepted signs now identity before (line ∷ []) text after → after ≡ before
        go (reply, rest, middle, joined, here, ended) =
            line_keeps accepted line reply kind not is (subst (AnswersLineAt accepted signs now identity before line reply) (sym ended.1) here)

  -- a line that a follower answers as an open desk does
  pub lines_keep : (is_current : Bool) (signs : Signs) (clock_reached : ℕ → Type 0) (accepted : Option ℕ) (line text : List ℕ) → IsLine line → MayAnswerLine is_current line
      → (identity : OfficeSigners) (before after : Records) → AnswersLinesByClock accepted signs clock_reached identity before line text after → after ≡ before
  lines_keep is_current signs clock_reached accepted line text alone (inl question) identity before after (now, reached, answers) =
      lines_keep_by signs now identity before after accepted line text _ alone
      record { word = λ same. (let bad : ⊥ = cc in bad); text = λ text is. elim is [ inl asks ↦ query_only text asks.0 asks.1 | inr asks ↦ ocsp_only text asks.0 asks.1 ] }
      question.0 answers
  lines_keep is_current signs clock_reached accepted line text alone (inr other) identity before after (now, reached, answers) =
      lines_keep_by signs now identity before after accepted line text _ alone
      record { word = λ same. (let bad : ⊥ = cc in bad); text = λ text unread has. unread (means_command has.0) has.1 }
      other answers
