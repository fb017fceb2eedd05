-- Requests that are served over a register.
use Rattle.std.specs.Prelude.{◌≡◌, ◌≢◌, ◌⊎◌, ℕ, Bool, IsTrue, List, ◌∷◌, [], ◌++◌, codes, decimal, Option, Some, None, Result, Ok, Err}
use Rattle.std.specs.Io.KnownBytes.{Appends}
use Rattle.reg_core.specs.Records.{Records}
use Rattle.reg_core.specs.declared.refusal.Fault.TheVariants as fault
use Rattle.reg_office_api.specs.Signers.{OfficeSigners}
use Rattle.reg_office_api.specs.CallSteps.{Signs}
use Rattle.reg_desk_server.specs.Exchange.{Input, Outcome, Handles, requests_in}
use Rattle.reg_office_api.specs.declared.office.Office.{Ghosts as Office}
use Rattle.reg_desk_cli.specs.declared.job.ResponderChoice.{ResponderChoice}
use Rattle.reg_desk_cli.specs.declared.job.Endpoint.{Endpoint}
use Rattle.reg_desk_cli.specs.declared.job.SignerAddress.{SignerAddress}
use Rattle.reg_desk_cli.specs.declared.job.Loopback.{Loopback}
use Rattle.reg_desk_cli.specs.declared.job.Loopback.TheVariants.{V4, V6}
use Rattle.reg_desk_cli.specs.declared.failure.Failure.{Failure}
use Rattle.reg_desk_cli.specs.declared.failure.Failure.TheVariants as failure
use Rattle.reg_desk_service.specs.Admission.{first_admission}
use Rattle.reg_desk_service.specs.Exchanges.{AnswersBy}
use Rattle.reg_desk_service.specs.FinishedResponses.{FinishesUnsigned, Meets}
use Rattle.reg_desk_service.specs.ControlWords.{IsAdmissionAfter, AnswersLinesByClock}
use Rattle.reg_desk_service.specs.Signers.{AnsweredByOcspSigner}
use Rattle.reg_desk_service.specs.declared.admission.Admission.{Admission}
use Rattle.reg_desk_service.specs.declared.machine.Machine.{Ghosts as Machine}
use Rattle.reg_desk_service.specs.declared.unsigned_responses.Unsigned.{Unsigned}
use Rattle.reg_io.specs.Put.{AppendsPrefix}
use Rattle.reg_io.specs.RunsOfAnswers.{Answered}

-- the state of a desk: its records, and its admission, which with them decides whether a request for revocation is within the limits
abbrev pub DeskState : Type 0
DeskState = Records × Admission

-- The outcome of a request at a desk that is open or not: the text of an exchange; or a response to be signed, such that any text that finishes it is
-- that of an exchange. In both cases the exchange is over the records at its place among the other inputs. So each answer shows the state at a time
-- between its request and its sending, and includes each revocation that was answered before. The signature that finishes a response was given by
-- the signer (`signer_answered`) for exactly the message that is signed.
abbrev pub Exchanging
    : Bool → Signs → (List ℕ → List ℕ → Type 0) → (ℕ → Type 0) → OfficeSigners → DeskState → List ℕ
    → Outcome Unsigned → DeskState → Type 0
Exchanging is_open signs signer_answered clock_reached identity before request outcome after =
    Meets (FinishesUnsigned signer_answered)
    (λ text. AnswersBy is_open signs clock_reached before.1 after.1 identity before.0 request text after.0)
    outcome

-- whole lines at the control socket, which only an open desk has
abbrev pub AnswersControlLines
    : Bool → Signs → (ℕ → Type 0) → OfficeSigners → DeskState → List ℕ → List ℕ → DeskState → Type 0
AnswersControlLines is_open signs clock_reached identity before bytes text after =
    IsTrue is_open × IsAdmissionAfter bytes before.1 after.1
    × AnswersLinesByClock before.1.accepted signs clock_reached identity before.0 bytes text after.0

-- a line that waits for a signature, and is answered later, changes nothing yet
abbrev pub StateStays : DeskState → List ℕ → DeskState → Type 0
StateStays before line after = (after.0 ≡ before.0) × (after.1 ≡ before.1)

-- What requests, and lines at an open desk, did to the records: one after the other, and nothing else changed them. The admission starts as
-- `first_admission`, and only they change it.
abbrev pub Serves
    : Bool → Signs → (List ℕ → List ℕ → Type 0) → (ℕ → Type 0) → List Input → List (Outcome Unsigned)
    → OfficeSigners → Records → Records → Type 0
Serves is_open signs signer_answered clock_reached inputs outcomes identity before after =
    (admission : Admission)
    × Answered (Handles (Exchanging is_open signs signer_answered clock_reached identity)
    (AnswersControlLines is_open signs clock_reached identity) StateStays)
    (before, first_admission) inputs outcomes (after, admission)

-- the same at a desk with the options' signers, over the offices of a machine
abbrev pub ServesOn
    : {M O D S R : Type 0} → Machine M O D S R → Office O → Option SignerAddress → ResponderChoice → Bool
    → List Input
    → List (Outcome Unsigned) → OfficeSigners → Records → Records → Type 0
ServesOn machines offices signer responder is_open =
    Serves is_open offices.signs (AnsweredByOcspSigner machines.signer_answered signer responder)
    machines.clock_reached

-- an address of the loopback interface (RFC 1122 3.2.1.3, RFC 4291 2.5.3)
abbrev pub loopback : Loopback → List ℕ
loopback V4 = 127 ∷ 0 ∷ 0 ∷ 1 ∷ []
loopback V6 = 0 ∷ 0 ∷ 0 ∷ 0 ∷ 0 ∷ 0 ∷ 0 ∷ 0 ∷ 0 ∷ 0 ∷ 0 ∷ 0 ∷ 0 ∷ 0 ∷ 0 ∷ 1 ∷ []

-- the output line with the port
abbrev pub listening : ℕ → List ℕ
listening port = codes "listening " ++ (decimal port ++ 10 ∷ [])

-- nothing was answered, and the job failed with `Read` or `Memory`: the port could not be bound, the control socket could not be created, these
-- sockets could not be polled, or out of memory
abbrev pub Unbound : List Input → Result (Unit {0}) Failure → Type 0
Unbound inputs result =
    (inputs ≡ []) × ((result ≡ Err (failure.Fault fault.Read)) ⊎ (result ≡ Err (failure.Fault fault.Memory)))

-- Serving ended after these inputs were answered. The job is done after all requests. It fails with `Read` if serving ended early, and with `Write`
-- if the line with the port was not written whole: then nothing was answered.
abbrev pub Served
    : ℕ → ℕ → Type 0 → List Input → Option (List ℕ) → Option (List ℕ) → Result (Unit {0}) Failure → Type 0
Served port requests Early inputs out out' (Ok done) =
    (requests_in inputs ≡ requests) × Appends out out' (listening port)
Served port requests Early inputs out out' (Err (failure.Fault fault.Read)) =
    (requests_in inputs ≢ requests) × Early × Appends out out' (listening port)
Served port requests Early inputs out out' (Err (failure.Fault fault.Write)) =
    (inputs ≡ []) × AppendsPrefix out out' (listening port)
Served port requests Early inputs out out' (Err other) = ⊥

-- nothing was answered and nothing was written; or this was bound, and these inputs were served
abbrev pub ServedAt
    : {W : Type 0} → (W → Option (List ℕ)) → W → W → Type 0 → Type 0 → ℕ → ℕ → List Input
    → Result (Unit {0}) Failure → Type 0
ServedAt contents writer writer' Bound Early port requests inputs result =
    (Unbound inputs result × (writer' ≡ writer))
    ⊎ (Bound × Served port requests Early inputs (contents writer) (contents writer') result)

-- a control socket was created at a path: a socket with the mode 0600
abbrev pub IsControlSocket : (List ℕ → Type 0) → (List ℕ → ℕ → Type 0) → List ℕ → Type 0
IsControlSocket socket_created has_mode path = socket_created path × has_mode path 384

-- a port of the loopback interface was bound, and a control socket was created if one is given
abbrev pub IsBound
    : (List ℕ → ℕ → Type 0) → (List ℕ → Type 0) → (List ℕ → ℕ → Type 0) → Endpoint → Option (List ℕ) → Type 0
IsBound bound socket_created has_mode at None = bound (loopback at.address) at.port
IsBound bound socket_created has_mode at (Some control) =
    bound (loopback at.address) at.port × IsControlSocket socket_created has_mode control

-- the same on a machine
abbrev pub IsBoundOn : {M O D S R : Type 0} → Machine M O D S R → Endpoint → Option (List ℕ) → Type 0
IsBoundOn machines = IsBound machines.bound machines.socket_created machines.has_mode
