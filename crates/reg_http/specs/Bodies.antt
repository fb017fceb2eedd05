-- The JSON bodies (RFC 8259) for a status, the counts, a new request and an error, and the response to each outcome.
use Rattle.std.specs.Prelude.{ℕ, List, [], ◌∷◌, ◌++◌, codes, decimal, Some, None, Result, Ok, Err}
use Rattle.reg_core.specs.Calendar.{moment_text}
use Rattle.reg_core.specs.Lines.{fault_line}
use Rattle.reg_core.specs.declared.command.Status.{Status}
use Rattle.reg_core.specs.declared.command.Status.TheVariants.{Unknown, Good, Expired, Revoked}
use Rattle.reg_core.specs.declared.command.Counts.{Counts}
use Rattle.reg_core.specs.declared.memory.Memory.{Memory as NoMemory}
use Rattle.reg_core.specs.declared.refusal.Refusal.{Refusal}
use Rattle.reg_core.specs.declared.refusal.Refusal.TheVariants.{NoCrl, Syntax}
use Rattle.reg_core.specs.declared.refusal.Fault.{Fault}
use Rattle.reg_core.specs.declared.refusal.Fault.TheVariants.{Refused, Memory}
use Rattle.reg_http_head.specs.Response.{Response}

-- `{"error":"LINE"}`
unfoldable pub error_text : List ℕ → List ℕ
error_text line = codes "{\"error\":\"" ++ line ++ codes "\"}"

-- `{"status":"good"}` or another status, or `{"at":"MOMENT","reason":N,"status":"revoked"}`
unfoldable pub status_text : Status → List ℕ
status_text Unknown = codes "{\"status\":\"unknown\"}"
status_text Good = codes "{\"status\":\"good\"}"
status_text Expired = codes "{\"status\":\"expired\"}"
status_text (Revoked at reason) =
    codes "{\"at\":\"" ++ moment_text at ++ codes "\",\"reason\":" ++ decimal reason
    ++ codes ",\"status\":\"revoked\"}"

-- `{"expired":C,"good":A,"revoked":B}`
unfoldable pub counts_text : Counts → List ℕ
counts_text counts =
    codes "{\"expired\":" ++ decimal counts.expired ++ codes ",\"good\":" ++ decimal counts.good
    ++ codes ",\"revoked\":" ++ decimal counts.revoked ++ codes "}"

-- `{"due":"MOMENT","request":ID}`
unfoldable pub due_text : ℕ → ℕ → List ℕ
due_text id due = codes "{\"due\":\"" ++ moment_text due ++ codes "\",\"request\":" ++ decimal id ++ codes "}"

-- a response with this status code and a JSON body
unfoldable pub json : ℕ → List ℕ → Response
json status body = record { status = status; kind = codes "application/json"; allow = None; body = body }

-- a response of status code 200, with DER of this media type in its body
unfoldable pub der : List ℕ → List ℕ → Response
der kind body = record { status = 200; kind = kind; allow = None; body = body }

-- a refusal with a status code, which is in the body too
unfoldable pub http_refusal : ℕ → Response
http_refusal status = json status (error_text (decimal status))

-- a 405 names the method that the route has (RFC 9110 15.5.6)
unfoldable pub method_not_allowed : List ℕ → Response
method_not_allowed method = record {
  status = 405;
  kind = codes "application/json";
  allow = Some method;
  body = error_text (decimal 405);
}

-- the status code of a refusal: 400 if the request can't be read, 404 if there is no such CRL, 409 for any other (RFC 9110 15.5)
abbrev pub refusal_status : Refusal → ℕ
refusal_status Syntax = 400
refusal_status NoCrl = 404
refusal_status other = 409

-- the status code of a refusal, or of a fault: 500 (RFC 9110 15.6.1)
abbrev pub fault_status : Fault → ℕ
fault_status (Refused refused) = refusal_status refused
fault_status other = 500

-- the response to a refusal or a fault, with its line
unfoldable pub fault_response : Fault → Response
fault_response fault = json (fault_status fault) (error_text (fault_line fault))

-- the response to a request for changes after positions that are not in the history of the register
unfoldable pub diverged_response : Response
diverged_response = json 409 (error_text (codes "diverged"))

-- an OCSP response, of any status (RFC 6960 A.2); out of memory is a fault
abbrev pub ocsp_reply : Result (List ℕ) NoMemory → Response
ocsp_reply (Ok body) = der (codes "application/ocsp-response") body
ocsp_reply (Err memory) = fault_response Memory

-- the OCSPResponse of status malformedRequest (RFC 6960 4.2.1)
abbrev pub malformed_text : List ℕ
malformed_text = 48 ∷ 3 ∷ 10 ∷ 1 ∷ 1 ∷ []
