-- A whole connection, since it was accepted: which lines of a control connection, or which part of a request, were answered. If the connection ends
-- early, because it failed or there was no memory, the rest is not answered, and the unsent bytes are not sent. Nothing is answered or sent twice.
use Rattle.std.specs.Prelude.{◌≡◌, ◌⊎◌, ℕ, Bool, true, List, [], ◌++◌, flat_map, Option, is_some}
use Rattle.std.specs.Io.KnownBytes.{Appends, Consumes}
use Rattle.std.specs.List.{AllByRecursion, AllZip, concat}
use Rattle.reg_crl_signer.specs.OpenConnections.{SinceOpened}
use Rattle.reg_http_head.specs.Bytes.{collected_bytes}
use Rattle.reg_desk_server.specs.Exchange.{Outcome, said, pending}
use Rattle.reg_desk_server.specs.ControlLines.{Advances, SameStreamAndEnd}
use Rattle.reg_desk_server.specs.LineEnds.{IsLine, IsWholeLines}
use Rattle.reg_desk_server.specs.Stages.{Drops, Sends, ReceivesMore}
use Rattle.reg_desk_server.specs.Buffers.{unsent_of}
use Rattle.reg_desk_server.specs.declared.control_connection.ControlConnection.{ControlConnection}
use Rattle.reg_desk_server.specs.declared.handler.Handler.{Ghosts}
use Rattle.reg_desk_server.specs.declared.http_connection.HttpConnection.{HttpConnection}
use Rattle.reg_desk_server.specs.declared.http_connection.Stage.{Stage}
use Rattle.reg_desk_server.specs.declared.http_connection.Stage.TheVariants as stage

-- a line, with its LF, got this reply
abbrev pub IsAnsweredBy : (List ℕ → List ℕ → Type 0) → List ℕ → List ℕ → Type 0
IsAnsweredBy answers_line line reply = IsLine line × answers_line line reply

-- Each line got its own reply: the bytes are the lines, each with its LF, and the text is the replies, as many, in the order of their lines. Neither
-- has a gap.
pub record HasOwnReplies (answers_line : List ℕ → List ℕ → Type 0) (bytes text : List ℕ) : Type 0 where
  pub lines : List (List ℕ)
  pub replies : List (List ℕ)
  pub bytes_are : bytes ≡ concat lines
  pub text_is : text ≡ concat replies
  pub each : AllZip (IsAnsweredBy answers_line) lines replies

-- whole lines have their own replies in any text, if a reply to a line may be any text
abbrev pub AnyReplies : Type 0
AnyReplies = (bytes text : List ℕ) → IsWholeLines bytes → HasOwnReplies (λ line reply. Unit {0}) bytes text

-- these lines got these replies in one call of the handler, in some state of the handler
abbrev pub AnsweredInOneCall : {H : Type 0} → (H → List ℕ → List ℕ → H → Type 0) → List (List ℕ) × List (List ℕ) → Type 0
AnsweredInOneCall {H = H} answers_lines call =
    IsWholeLines (concat call.0)
    × ((s : H) × (t : H) × answers_lines s (concat call.0) (concat call.1) t)

-- these lines got these replies in calls of the handler, one after the other, each of one or several lines
abbrev pub AnsweredInCalls
    : {H : Type 0} → (H → List ℕ → List ℕ → H → Type 0) → List (List ℕ) → List (List ℕ) → Type 0
AnsweredInCalls answers_lines lines replies =
    (calls : List (List (List ℕ) × List (List ℕ)))
    × (lines ≡ flat_map (λ call. call.0) calls) × (replies ≡ flat_map (λ call. call.1) calls)
    × AllByRecursion (AnsweredInOneCall answers_lines) calls

module _ {S H : Type 0} (contents remaining : S → Option (List ℕ))
    (answers_lines : H → List ℕ → List ℕ → H → Type 0) (answers_line : List ℕ → List ℕ → Type 0) where
  -- These lines of a control connection, each with its LF, were answered, each once, and each has its own reply. The bytes that came are the lines,
  -- one after the other, then the bytes that are kept for the next lines, and then lost bytes. If bytes are lost, because there was no memory for
  -- them, the connection has ended. The bytes that were sent, followed by the unsent ones, are the replies, as many, in the order of their lines.
  pub record HasAnsweredLines (first : S) (connection : ControlConnection S)
      (lines replies : List (List ℕ)) : Type 0 where
    pub arrived : List ℕ
    pub gone : List ℕ
    pub lost : List ℕ
    pub since : SinceOpened contents remaining first arrived gone connection.stream
    pub arrived_is : arrived ≡ concat lines ++ connection.arrived.items ++ lost
    pub answered : concat replies ≡ gone ++ unsent_of connection.unsent
    pub each : AllZip (IsAnsweredBy answers_line) lines replies
    pub calls : AnsweredInCalls answers_lines lines replies
    pub whole : (lost ≡ []) ⊎ (connection.has_ended ≡ true)

  -- when a control connection is advanced, the answered lines and their replies stay the same
  abbrev pub AnswersNoMoreLines : Type 0
  AnswersNoMoreLines =
      (first : S) (old new : ControlConnection S) (lines replies : List (List ℕ))
      → HasAnsweredLines first old lines replies
      → Advances contents remaining old new → HasAnsweredLines first new lines replies

  -- After a step of the handler and the connection that may answer lines: either the handler answered whole lines with the text that is now unsent,
  -- and if each of these lines has its own reply in the text, they are answered lines, too; or it answered none, and the relation `rests` states how
  -- the handler changed.
  abbrev pub AnswersMoreLines
      : (H → H → ControlConnection S → ControlConnection S → Type 0) → (H → H → ControlConnection S → Type 0)
      → Type 0
  AnswersMoreLines step rests =
      (first : S) (s t : H) (old new : ControlConnection S) (lines replies : List (List ℕ))
      → HasAnsweredLines first old lines replies → SameStreamAndEnd old new → step s t old new
      → ((bytes : List ℕ) × IsWholeLines bytes × answers_lines s bytes (unsent_of new.unsent) t
      × ((own : HasOwnReplies answers_line bytes (unsent_of new.unsent))
      → HasAnsweredLines first new (lines ++ own.lines) (replies ++ own.replies)))
      ⊎ (rests s t old × HasAnsweredLines first new lines replies)

-- this text finishes the answer with this ticket, in some state of the handler
abbrev pub FinishesInSomeState : {H T : Type 0} → (H → T → List ℕ → Type 0) → T → List ℕ → Type 0
FinishesInSomeState {H = H} finishes ticket text = (s : H) × finishes s ticket text

module _ {H T : Type 0} (answers : H → List ℕ → Outcome T → H → Type 0) where
  -- a prefix of the received bytes got an answer that is to be signed, with this ticket, and the bytes after the prefix are dropped
  abbrev pub WasLeftUnsigned : List ℕ → T → Type 0
  WasLeftUnsigned arrived ticket =
      (asked : List ℕ) × (dropped : List ℕ) × (arrived ≡ asked ++ dropped)
      × ((s : H) × (t : H) × answers s asked (pending ticket) t)

  -- a prefix of the received bytes was answered with this text, and the bytes after the prefix are dropped: the handler replied the text, or left an
  -- answer to be signed, which the text finishes
  abbrev pub WasAnswered : (T → List ℕ → Type 0) → List ℕ → List ℕ → Type 0
  WasAnswered finishes arrived text =
      (asked : List ℕ) × (dropped : List ℕ) × (arrived ≡ asked ++ dropped)
      × (((s : H) × (t : H) × answers s asked (said text) t)
      ⊎ ((ticket : T) × finishes ticket text × ((s : H) × (t : H) × answers s asked (pending ticket) t)))

  -- The bytes that came and that were sent on an HTTP connection. While it receives, the bytes that came are kept, except last ones for which there
  -- was no memory, and then it has ended. Until the answer is finished, nothing is sent; from then on the sent bytes and then the unsent ones are the
  -- answer.
  abbrev pub IsAnsweredAtMostOnce : (T → List ℕ → Type 0) → List ℕ → List ℕ → Stage T → Bool → Type 0
  IsAnsweredAtMostOnce finishes arrived gone (stage.Receiving collected) ended =
      (gone ≡ []) × (lost : List ℕ) × (arrived ≡ collected_bytes collected ++ lost)
      × ((lost ≡ []) ⊎ (ended ≡ true))
  IsAnsweredAtMostOnce finishes arrived gone (stage.Signing ticket exact) ended =
      (gone ≡ []) × WasLeftUnsigned arrived ticket
  IsAnsweredAtMostOnce finishes arrived gone (stage.Sending unsent exact) ended =
      WasAnswered finishes arrived (gone ++ unsent_of unsent)
  IsAnsweredAtMostOnce finishes arrived gone stage.Draining ended = WasAnswered finishes arrived gone

module _ {S H T L : Type 0} (contents remaining : S → Option (List ℕ)) (g : Ghosts H T L) where
  -- the bytes that came and that were sent since an HTTP connection was accepted are as `IsAnsweredAtMostOnce` states; a connection with a fault has
  -- ended
  pub record IsServedOnce (first : S) (connection : HttpConnection S H T L) : Type 0 where
    pub arrived : List ℕ
    pub gone : List ℕ
    pub since : SinceOpened contents remaining first arrived gone connection.stream
    pub once : IsAnsweredAtMostOnce g.answers (FinishesInSomeState g.finishes) arrived gone connection.stage
        (is_some connection.fault)

  -- when an HTTP connection is advanced, `IsServedOnce` stays true
  abbrev pub ServesOn : Type 0
  ServesOn =
      (first : S) (old new : HttpConnection S H T L) → IsServedOnce first old
      → ReceivesMore remaining old new → Sends contents old new → Drops remaining old new
      → IsServedOnce first new

  -- a step that changes the stage and not the link, and clears no fault, preserves `IsServedOnce`
  abbrev pub KeepsServed : (Stage T → Stage T → Type 0) → Type 0
  KeepsServed step =
      (first : S) (old new : HttpConnection S H T L) → IsServedOnce first old → new.stream ≡ old.stream
      → step old.stage new.stage
      → (is_some old.fault ≡ true → is_some new.fault ≡ true) → IsServedOnce first new
