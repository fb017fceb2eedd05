-- How serving one request ends.
use Rattle.std.specs.Prelude.{◌≡◌, ℕ, ◌+◌, ◌≤◌, ◌⊎◌, List, length, Option, Result, Ok, Err}
use Rattle.std.specs.Io.KnownBytes.{Consumes, Appends}
use Rattle.reg_office_api.specs.Calls.{RunsIn, AsksIn, AnswersOcspIn, GivesCrlIn}
use Rattle.reg_office_api.specs.declared.office.Office.{Ghosts as Office}
use Rattle.reg_core.specs.declared.command.Command.{Command}
use Rattle.reg_core.specs.declared.command.Query.{Query}
use Rattle.reg_core.specs.declared.command.Reply.{Reply}
use Rattle.reg_core.specs.declared.memory.Memory.{Memory as NoMemory}
use Rattle.reg_core.specs.declared.refusal.Fault.{Fault}
use Rattle.reg_core.specs.declared.refusal.Fault.TheVariants.{Memory, Read, Write}
use Rattle.reg_io.specs.Put.{AppendsPrefix}
use Rattle.reg_http_head.specs.Frame.{RequestMeaning, refused, asked, Framed, IsUnfinished}
use Rattle.reg_http_head.specs.Head.{longest_head, longest_body}
use Rattle.reg_http_head.specs.Response.{Response, IsText, memory_text}
use Rattle.reg_http.specs.Answers.{RespondsTo}
use Rattle.reg_http.specs.RoutedRequests.{asked as asks_for}
use Rattle.reg_http.specs.Bodies.{http_refusal}

-- these bytes were taken from the reader, at most as many as a head and a body can have
pub record TakesRequest (input left : Option (List ℕ)) (took : List ℕ) : Type 0 where
  pub consumed : Consumes input left took
  pub few : length took ≤ longest_head + longest_body

-- The office's relations, as in `RespondsTo`; `s` is the office before, `t` after.
module _ {S : Type 0} (runs : S → ℕ → Command → Result Reply Fault → S → Type 0)
    (asks : S → ℕ → Query → Result Reply Fault → S → Type 0)
    (answers_ocsp : S → ℕ → List ℕ → Result (List ℕ) NoMemory → S → Type 0)
    (gives_crl : S → Option ℕ → Result (List ℕ) Fault → S → Type 0) where
  -- the text of the refusal, or of the answer; the constant text if there was no memory for an answer
  abbrev pub Responds : ℕ → S → RequestMeaning → List ℕ → S → Type 0
  Responds now s (refused status) text t = (t ≡ s) × IsText (http_refusal status) now text
  Responds now s (asked method target body) text t =
      ((response : Response)
      × RespondsTo runs asks answers_ocsp gives_crl now s (asks_for method target body) response t
      × IsText response now text)
      ⊎ ((t ≡ s) × (text ≡ memory_text))

  -- the whole response to a request was written; or a proper prefix of it, if the writer failed; or there was no memory for it
  abbrev pub ReplyEnds
      : ℕ → S → S → RequestMeaning → Option (List ℕ) → Option (List ℕ) → Result (Unit {0}) Fault → Type 0
  ReplyEnds now s t part out written (Ok done) =
      (text : List ℕ) × Responds now s part text t × Appends out written text
  ReplyEnds now s t part out written (Err Write) =
      (text : List ℕ) × Responds now s part text t × AppendsPrefix out written text
  ReplyEnds now s t part out written (Err Memory) = Unit {0}
  ReplyEnds now s t part out written (Err other) = ⊥

  -- one request was read, and `Wrote` holds of the text of its response
  pub record Served (Wrote : List ℕ → Type 0) (now : ℕ) (s t : S)
      (input left : Option (List ℕ)) : Type 0 where
    pub took : List ℕ
    pub part : RequestMeaning
    pub text : List ℕ
    pub takes : TakesRequest input left took
    pub framed : Framed took part
    pub responds : Responds now s part text t
    pub wrote : Wrote text

  -- the whole response was written; or a proper prefix of it, if the writer failed; else there was no whole request, or no memory to read or
  -- refuse it
  abbrev pub ServingEnds
      : ℕ → S → S → Option (List ℕ) → Option (List ℕ) → Option (List ℕ) → Option (List ℕ)
      → Result (Unit {0}) Fault → Type 0
  ServingEnds now s t input left out written (Ok done) = Served (Appends out written) now s t input left
  ServingEnds now s t input left out written (Err Write) =
      Served (AppendsPrefix out written) now s t input left
  ServingEnds now s t input left out written (Err Read) =
      (took : List ℕ) × TakesRequest input left took × IsUnfinished took
  ServingEnds now s t input left out written (Err Memory) = (took : List ℕ) × TakesRequest input left took
  ServingEnds now s t input left out written (Err other) = ⊥

-- how a reply and the serving of a request end by the calls of an office
module _ {O : Type 0} (office : Office O) where
  abbrev pub ReplyEndsIn
      : ℕ → O → O → RequestMeaning → Option (List ℕ) → Option (List ℕ) → Result (Unit {0}) Fault → Type 0
  ReplyEndsIn = ReplyEnds (RunsIn office) (AsksIn office) (AnswersOcspIn office) (GivesCrlIn office)

  abbrev pub ServingEndsIn
      : ℕ → O → O → Option (List ℕ) → Option (List ℕ) → Option (List ℕ) → Option (List ℕ)
      → Result (Unit {0}) Fault → Type 0
  ServingEndsIn = ServingEnds (RunsIn office) (AsksIn office) (AnswersOcspIn office) (GivesCrlIn office)
