-- OCSP responses (RFC 6960 4.2.1) as functions of their parts.
use Rattle.std.specs.Prelude.{ℕ, ◌+◌, ◌==◌, length, if◌then◌else◌, List, [], ◌∷◌, ◌++◌, Option, Some, None}
use Rattle.std.specs.List.{flat_map}
use Rattle.sha1.specs.Sha1.{sha1}
use Rattle.reg_core.specs.declared.command.Status.{Status}
use Rattle.reg_core.specs.declared.command.Status.TheVariants.{Unknown, Good, Expired, Revoked}
use Rattle.reg_der.specs.Der.{tlv}
use Rattle.reg_der.specs.WrittenValues.{bits_value, general_value}
use Rattle.reg_ocsp.specs.Request.{nonce_identifier}
use Rattle.reg_ocsp.specs.declared.response.RefusalStatus.{RefusalStatus}
use Rattle.reg_ocsp.specs.declared.response.RefusalStatus.TheVariants.{Malformed, Internal, TryLater}

-- the ENUMERATED of one octet (X.690 8.4)
abbrev pub enumerated : ℕ → List ℕ
enumerated number = tlv 0x0A (number ∷ [])

-- `revocationReason [0] EXPLICIT CRLReason OPTIONAL`: the reason unspecified, 0, is left out (RFC 5280 5.3.1)
abbrev pub reason_part : ℕ → List ℕ
reason_part reason = if reason == 0 then [] else tlv 0xA0 (enumerated reason)

-- CertStatus ::= CHOICE { good [0] NULL, revoked [1] RevokedInfo, unknown [2] NULL }, all IMPLICIT. An expired certificate
-- that is not revoked is good.
abbrev pub cert_status : Status → List ℕ
cert_status Good = tlv 0x80 []
cert_status Expired = tlv 0x80 []
cert_status Unknown = tlv 0x82 []
cert_status (Revoked at reason) = tlv 0xA1 (general_value at ++ reason_part reason)

-- a CertID's whole DER value, and the status that is answered for it
pub record SingleAnswer : Type 0 where
  pub raw : List ℕ
  pub status : Status

-- `nextUpdate [0] EXPLICIT GeneralizedTime OPTIONAL`
abbrev pub next_update : ℕ → List ℕ
next_update next = tlv 0xA0 (general_value next)

-- the fields of a SingleResponse: certID, certStatus, thisUpdate GeneralizedTime, nextUpdate
abbrev pub single_fields : ℕ → ℕ → SingleAnswer → List ℕ
single_fields now next answer =
    answer.raw ++ cert_status answer.status ++ general_value now ++ next_update next

-- SingleResponse ::= SEQUENCE { certID, certStatus, thisUpdate GeneralizedTime, nextUpdate [0] EXPLICIT GeneralizedTime }
unfoldable pub single_response : ℕ → ℕ → SingleAnswer → List ℕ
single_response now next answer = tlv 0x30 (single_fields now next answer)

-- ResponderID ::= CHOICE { byKey [2] EXPLICIT KeyHash }: the SHA-1 of the responder's key
abbrev pub responder : List ℕ → List ℕ
responder key = tlv 0xA2 (tlv 0x04 (sha1 key))

-- the Extension of a nonce, which is not critical (RFC 6960 4.4.1)
abbrev pub nonce_extension : List ℕ → List ℕ
nonce_extension nonce = tlv 0x30 (tlv 0x06 nonce_identifier ++ tlv 0x04 nonce)

-- `responseExtensions [1] EXPLICIT Extensions OPTIONAL`: only the nonce, if one is repeated (RFC 6960 4.4.1)
abbrev pub nonce_part : Option (List ℕ) → List ℕ
nonce_part None = []
nonce_part (Some nonce) = tlv 0xA1 (tlv 0x30 (nonce_extension nonce))

-- the fields of a ResponseData: responderID, producedAt GeneralizedTime, responses SEQUENCE OF SingleResponse, responseExtensions
abbrev pub data_fields : List ℕ → ℕ → ℕ → List SingleAnswer → Option (List ℕ) → List ℕ
data_fields key now next answers nonce =
    responder key ++ general_value now ++ tlv 0x30 (flat_map (single_response now next) answers)
    ++ nonce_part nonce

-- ResponseData ::= SEQUENCE { responderID, producedAt GeneralizedTime, responses SEQUENCE OF SingleResponse,
-- responseExtensions }, for the responder with this key; thisUpdate of each response is `now`, and nextUpdate is `next`
unfoldable pub response_data : List ℕ → ℕ → ℕ → List SingleAnswer → Option (List ℕ) → List ℕ
response_data key now next answers nonce = tlv 0x30 (data_fields key now next answers nonce)

-- `certs [0] EXPLICIT SEQUENCE OF Certificate OPTIONAL`: one certificate or none
abbrev pub certs_part : Option (List ℕ) → List ℕ
certs_part None = []
certs_part (Some certificate) = tlv 0xA0 (tlv 0x30 certificate)

-- the most bytes of `certs`
abbrev pub certs_room : Option (List ℕ) → ℕ
certs_room None = 0
certs_room (Some certificate) = length certificate + 12

-- the fields of a BasicOCSPResponse: tbsResponseData, signatureAlgorithm, signature BIT STRING, certs
abbrev pub basic_fields : List ℕ → List ℕ → List ℕ → Option (List ℕ) → List ℕ
basic_fields signed algorithm signature certificate =
    signed ++ algorithm ++ bits_value signature ++ certs_part certificate

-- BasicOCSPResponse ::= SEQUENCE { tbsResponseData, signatureAlgorithm, signature BIT STRING, certs }
unfoldable pub basic_response : List ℕ → List ℕ → List ℕ → Option (List ℕ) → List ℕ
basic_response signed algorithm signature certificate =
    tlv 0x30 (basic_fields signed algorithm signature certificate)

-- id-pkix-ocsp-basic, 1.3.6.1.5.5.7.48.1.1 (RFC 6960 4.2.1)
abbrev pub basic_identifier : List ℕ
basic_identifier = 0x2B ∷ 0x06 ∷ 0x01 ∷ 0x05 ∷ 0x05 ∷ 0x07 ∷ 0x30 ∷ 0x01 ∷ 0x01 ∷ []

-- ResponseBytes ::= SEQUENCE { responseType OBJECT IDENTIFIER, response OCTET STRING }
abbrev pub response_bytes : List ℕ → List ℕ
response_bytes response = tlv 0x30 (tlv 0x06 basic_identifier ++ tlv 0x04 response)

-- OCSPResponse ::= SEQUENCE { responseStatus ENUMERATED, responseBytes [0] EXPLICIT ResponseBytes OPTIONAL }, successful(0)
abbrev pub successful_response : List ℕ → List ℕ
successful_response bytes = tlv 0x30 (enumerated 0 ++ tlv 0xA0 bytes)

-- the successful OCSPResponse with a BasicOCSPResponse
unfoldable pub ocsp_response : List ℕ → List ℕ → List ℕ → Option (List ℕ) → List ℕ
ocsp_response signed algorithm signature certificate =
    successful_response (response_bytes (basic_response signed algorithm signature certificate))

-- OCSPResponseStatus: malformedRequest(1), internalError(2), tryLater(3)
abbrev pub refusal_code : RefusalStatus → ℕ
refusal_code Malformed = 1
refusal_code Internal = 2
refusal_code TryLater = 3

-- an OCSPResponse with this status and without responseBytes
abbrev pub refusal_response : RefusalStatus → List ℕ
refusal_response status = tlv 0x30 (enumerated (refusal_code status))
