-- The models of Rust values in contracts: slices are replaced by their bytes.
use Rattle.std.specs.Prelude.{◌≡◌, ℕ, List, length, map, Option, Some, None, Result, Ok, Err}
use Rattle.reg_ocsp.specs.declared.fault.RequestFault.{RequestFault}
use Rattle.reg_ocsp.specs.declared.fault.RequestFault.TheVariants.{Malformed, Memory}
use Rattle.reg_ocsp.specs.declared.asked.CertId.{CertId}
use Rattle.reg_ocsp.specs.declared.certificate.SubjectPublicKey.{SubjectPublicKey}
use Rattle.reg_ocsp.specs.declared.extensions.Extension as code
use Rattle.reg_core.specs.declared.command.Status.{Status}
use Rattle.reg_ocsp.specs.Request.{Id, Extension}
use Rattle.reg_ocsp.specs.Response.{SingleAnswer}

-- a CertID, each slice replaced by its bytes
abbrev pub id_model : CertId → Id
id_model id =
    record {
      raw = id.raw.now;
      algorithm = id.algorithm.now;
      name_hash = id.name_hash.now;
      key_hash = id.key_hash.now;
      serial = id.serial.now;
    }

abbrev pub ids_model : List CertId → List Id
ids_model ids = map id_model ids

-- the result agrees with `read`: `Ok` has the model that reading gives; with `Malformed`, reading gives none; `Memory` says nothing
abbrev pub GivesUnlessMemory : {X Y : Type 0} → (X → Y) → Result X RequestFault → Option Y → Type 0
GivesUnlessMemory view (Ok x) read = read ≡ Some (view x)
GivesUnlessMemory view (Err Malformed) read = read ≡ None
GivesUnlessMemory view (Err Memory) read = Unit {0}

-- an extension, each slice replaced by its bytes
abbrev pub extension_model : code.Extension → Extension
extension_model e = record { identifier = e.identifier.now; critical = e.critical; value = e.value.now }

-- a CertID's whole DER value, and its status
abbrev pub answer_model : CertId × Status → SingleAnswer
answer_model answer = record { raw = answer.0.raw.now; status = answer.1 }

abbrev pub answers_model : List (CertId × Status) → List SingleAnswer
answers_model answers = map answer_model answers

-- the CertIDs that are answered
abbrev pub answered : List (CertId × Status) → List CertId
answered answers = map (λ answer. answer.0) answers

-- the length of the CertID's whole DER value
abbrev pub answered_length : CertId × Status → ℕ
answered_length answer = length answer.0.raw.now

-- a certificate's key: the whole DER value of its algorithm, and its bits
abbrev pub key_model : SubjectPublicKey → List ℕ × List ℕ
key_model it = (it.algorithm.now, it.key.now)
