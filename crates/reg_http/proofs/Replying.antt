-- The response to what is asked, and to a request that was read, once it is sent.
use Rattle.std.proofs.Common.{◌≡◌, ◌+◌, ℕ, List, inl, refl}
use Rattle.std.specs.Prelude.{Option, Result, Ok, Err, OnOk, IfErr}
use Rattle.std.specs.Io.KnownBytes.{Appends}
use Rattle.reg_core.specs.declared.command.Command.{Command}
use Rattle.reg_core.specs.declared.command.Query.{Query}
use Rattle.reg_core.specs.declared.command.Reply.{Reply}
use Rattle.reg_core.specs.declared.memory.Memory.{Memory as NoMemory}
use Rattle.reg_core.specs.declared.refusal.Fault.{Fault}
use Rattle.reg_core.specs.declared.refusal.Fault.TheVariants.{Memory, Write}
use Rattle.reg_http_head.specs.Frame.{Framed, RequestMeaning, TakesAtMost, asked}
use Rattle.reg_http_head.specs.Head.{longest_head, longest_body}
use Rattle.reg_http_head.specs.Response.{IsText, Response}
use Rattle.reg_office_api.specs.declared.response.ResponseKind.{ResponseKind}
use Rattle.reg_office_api.specs.declared.response.ResponseKind.TheVariants.{Signed}
use Rattle.reg_http.specs.Answers.{Answers, RespondsTo}
use Rattle.reg_http.specs.RoutedRequests.{ocsp_of, asked as asks_for}
use Rattle.reg_http.specs.Bodies.{ocsp_reply}
use Rattle.reg_http.specs.Meanings.{request_of_call}
use Rattle.reg_http.specs.AnswerEffects.{AnswerEffects, ocsp_effects}
use Rattle.reg_http.specs.declared.meaning.Call.{Call}
use Rattle.reg_http.specs.declared.meaning.Call.TheVariants as call
use Rattle.reg_http.specs.Served.{ReplyEnds, ServingEnds}
use Rattle.reg_io.specs.Put.{AppendsPrefix}

module _ {S : Type 0} (runs : S → ℕ → Command → Result Reply Fault → S → Type 0)
    (asks : S → ℕ → Query → Result Reply Fault → S → Type 0)
    (answers_ocsp : S → ℕ → List ℕ → Result (List ℕ) NoMemory → S → Type 0)
    (gives_crl : S → Option ℕ → Result (List ℕ) Fault → S → Type 0) where
  pub reply_ends : (now : ℕ) (s t : S) (method target body : List ℕ) (response : Response) (out written : Option (List ℕ)) (result : Result (Unit {0}) Fault)
      → RespondsTo runs asks answers_ocsp gives_crl now s (asks_for method target body) response t
      → OnOk result ((text : List ℕ) × IsText response now text × Appends out written text)
      → IfErr result (λ fault. (fault ≡ Write) × ((text : List ℕ) × IsText response now text × AppendsPrefix out written text))
      → ReplyEnds runs asks answers_ocsp gives_crl now s t (asked method target body) out written result
  reply_ends now s t method target body response out written (Ok done) made sent failed = (sent.0, inl (response, made, sent.1), sent.2)
  reply_ends now s t method target body response out written (Err Write) made sent failed =
      (failed.1.0, inl (response, made, failed.1.1), failed.1.2)
  reply_ends now s t method target body response out written (Err Memory) made sent failed = tt
  reply_ends now s t method target body response out written (Err other) made sent failed = absurd (cc (failed.0))

  -- the serving of a request that was read, by how the reply to it ends
  pub serving_ends : (now : ℕ) (s t : S) (part : RequestMeaning) (input left out written : Option (List ℕ)) (result : Result (Unit {0}) Fault)
      → TakesAtMost input left (longest_head + longest_body) (λ took. Framed took part)
      → ReplyEnds runs asks answers_ocsp gives_crl now s t part out written result → ServingEnds runs asks answers_ocsp gives_crl now s t input left out written result
  serving_ends now s t part input left out written (Ok done) (took, consumed, few, framed) ends = record {
    took = took;
    part = part;
    text = ends.0;
    takes = record { consumed = consumed; few = few };
    framed = framed;
    responds = ends.1;
    wrote = ends.2;
  }
  serving_ends now s t part input left out written (Err Write) (took, consumed, few, framed) ends = record {
    took = took;
    part = part;
    text = ends.0;
    takes = record { consumed = consumed; few = few };
    framed = framed;
    responds = ends.1;
    wrote = ends.2;
  }
  serving_ends now s t part input left out written (Err Memory) (took, consumed, few, framed) ends = (took, record { consumed = consumed; few = few })
  serving_ends now s t part input left out written (Err other) taken ends = absurd ends

  -- an OCSP response, as bytes
  pub ocsp_responds : (now : ℕ) (s t : S) (request : List ℕ) (given : Result (List ℕ) NoMemory) (response : Response)
      → answers_ocsp s now request given t → response ≡ ocsp_reply given → RespondsTo runs asks answers_ocsp gives_crl now s (ocsp_of request) response t
  ocsp_responds now s t request (Ok bytes) response came is = (ocsp_effects (Ok (Signed, bytes)), (Ok (Signed, bytes), came, refl), is)
  ocsp_responds now s t request (Err memory) response came is = (ocsp_effects (Err memory), (Err memory, came, refl), is)

-- what asks for no OCSP response is told the same, whatever those are
pub call_answers : {S : Type 0} (runs : S → ℕ → Command → Result Reply Fault → S → Type 0) (asks : S → ℕ → Query → Result Reply Fault → S → Type 0)
    (replies others : S → ℕ → List ℕ → Result (ResponseKind × List ℕ) NoMemory → S → Type 0) (gives_crl : S → Option ℕ → Result (List ℕ) Fault → S → Type 0)
    (now : ℕ) (s t : S) (call : Call) (it : AnswerEffects)
    → Answers runs asks replies gives_crl now s (request_of_call call) it t → Answers runs asks others gives_crl now s (request_of_call call) it t
call_answers runs asks replies others gives_crl now s t (call.Refused status) it answered = answered
call_answers runs asks replies others gives_crl now s t call.OnlyGet it answered = answered
call_answers runs asks replies others gives_crl now s t call.OnlyPost it answered = answered
call_answers runs asks replies others gives_crl now s t call.Unreadable it answered = answered
call_answers runs asks replies others gives_crl now s t call.Malformed it answered = answered
call_answers runs asks replies others gives_crl now s t (call.Crl number) it answered = answered
call_answers runs asks replies others gives_crl now s t (call.Status serial) it answered = answered
call_answers runs asks replies others gives_crl now s t call.Counts it answered = answered
call_answers runs asks replies others gives_crl now s t (call.Request serial word) it answered = answered
