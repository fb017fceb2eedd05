-- OCSP requests (RFC 6960 4.1.1): the fields of a request as a tree, the encoding of a tree, and the CertIDs and the nonce of a request.
-- Some clients encode defaults that DER leaves out. So the tree says whether version 0, and `critical` FALSE, is written.
use Rattle.std.specs.Prelude.{◌≡◌, ℕ, ◌%◌, ◌<◌, ◌≤◌, Bool, true, false, ◌&&◌, nat_le, if◌then◌else◌, List, [], ◌∷◌, ◌++◌, length, map, Option, Some, None, IfSome, sum_by}
use Rattle.std.specs.List.{flat_map, AllByRecursion}
use Rattle.std.specs.Str.{bytes_eq}
use Rattle.reg_core.specs.Integer.{IsBytes, IsShortest}
use Rattle.reg_der.specs.Der.{tlv}
use Rattle.reg_der.specs.ValueReading.{Parts}

-- ---- the trees

-- an Extension: extnID, `critical` if it is written, and the contents of extnValue (RFC 5280 4.1)
pub record Extension : Type 0 where
  pub identifier : List ℕ
  pub critical : Option Bool
  pub value : List ℕ

-- a CertID: the OID and the parameters of the hash algorithm (any one value, or none), issuerNameHash, issuerKeyHash and the
-- contents octets of the serial number
pub record CertIdTree : Type 0 where
  pub identifier : List ℕ
  pub parameters : Option Parts
  pub name_hash : List ℕ
  pub key_hash : List ℕ
  pub serial : List ℕ

-- a Request: its CertID, and singleRequestExtensions if they are written
pub record Single : Type 0 where
  pub target : CertIdTree
  pub extensions : Option (List Extension)

-- an OCSPRequest: whether version 0 is written; the contents of requestorName and of optionalSignature, which are not checked, if
-- they are written; the requests; requestExtensions, if they are written
pub record RequestTree : Type 0 where
  pub version : Bool
  pub requestor : Option (List ℕ)
  pub singles : List Single
  pub extensions : Option (List Extension)
  pub signature : Option (List ℕ)

-- ---- the encoding of a tree

-- the value with this tag and these contents; no bytes for `None`
abbrev pub optional : ℕ → Option (List ℕ) → List ℕ
optional tag None = []
optional tag (Some contents) = tlv tag contents

-- the contents of a BOOLEAN (X.690 8.2.2, 11.1)
abbrev pub boolean : Bool → List ℕ
boolean true = 0xFF ∷ []
boolean false = 0x00 ∷ []

-- `critical BOOLEAN DEFAULT FALSE`: no bytes for `None`
abbrev pub critical : Option Bool → List ℕ
critical None = []
critical (Some flag) = tlv 0x01 (boolean flag)

-- Extension ::= SEQUENCE { extnID OBJECT IDENTIFIER, critical BOOLEAN DEFAULT FALSE, extnValue OCTET STRING }
abbrev pub request_extension : Extension → List ℕ
request_extension e = tlv 0x30 (tlv 0x06 e.identifier ++ (critical e.critical ++ tlv 0x04 e.value))

-- Extensions ::= SEQUENCE OF Extension, under this explicit tag; no bytes for `None`
abbrev pub extensions : ℕ → Option (List Extension) → List ℕ
extensions tag None = []
extensions tag (Some es) = tlv tag (tlv 0x30 (flat_map request_extension es))

-- the parameters of an algorithm: one value, or no bytes for `None`
abbrev pub parameters : Option Parts → List ℕ
parameters None = []
parameters (Some any) = tlv any.tag any.contents

-- AlgorithmIdentifier ::= SEQUENCE { algorithm OBJECT IDENTIFIER, parameters ANY OPTIONAL } (RFC 5280 4.1.1.2)
abbrev pub algorithm : List ℕ → Option Parts → List ℕ
algorithm identifier any = tlv 0x30 (tlv 0x06 identifier ++ parameters any)

-- CertID ::= SEQUENCE { hashAlgorithm, issuerNameHash OCTET STRING, issuerKeyHash OCTET STRING, serialNumber INTEGER }
abbrev pub cert_id : CertIdTree → List ℕ
cert_id t =
    tlv 0x30 (algorithm t.identifier t.parameters
    ++ (tlv 0x04 t.name_hash ++ (tlv 0x04 t.key_hash ++ tlv 0x02 t.serial)))

-- Request ::= SEQUENCE { reqCert CertID, singleRequestExtensions [0] EXPLICIT Extensions OPTIONAL }
abbrev pub single : Single → List ℕ
single s = tlv 0x30 (cert_id s.target ++ extensions 0xA0 s.extensions)

-- `version [0] EXPLICIT Version DEFAULT v1`, where v1 is the INTEGER 0
abbrev pub request_version : Bool → List ℕ
request_version true = tlv 0xA0 (tlv 0x02 (0 ∷ []))
request_version false = []

-- TBSRequest ::= SEQUENCE { version, requestorName [1] EXPLICIT GeneralName OPTIONAL, requestList SEQUENCE OF Request,
-- requestExtensions [2] EXPLICIT Extensions OPTIONAL }
abbrev pub to_be_signed : RequestTree → List ℕ
to_be_signed f =
    tlv 0x30 (request_version f.version
    ++ (optional 0xA1 f.requestor ++ (tlv 0x30 (flat_map single f.singles) ++ extensions 0xA2 f.extensions)))

-- OCSPRequest ::= SEQUENCE { tbsRequest, optionalSignature [0] EXPLICIT Signature OPTIONAL }
abbrev pub spelling : RequestTree → List ℕ
spelling f = tlv 0x30 (to_be_signed f ++ optional 0xA0 f.signature)

-- ---- what is allowed

-- id-pkix-ocsp-nonce, 1.3.6.1.5.5.7.48.1.2 (RFC 6960 4.4.1)
abbrev pub nonce_identifier : List ℕ
nonce_identifier = 0x2B ∷ 0x06 ∷ 0x01 ∷ 0x05 ∷ 0x05 ∷ 0x07 ∷ 0x30 ∷ 0x01 ∷ 0x02 ∷ []

-- the OID is not empty, and a critical extension is the nonce, the only one that is known (RFC 5280 4.2)
pub record IsExtension (e : Extension) : Type 0 where
  pub identified : 1 ≤ length e.identifier
  pub known : e.critical ≡ Some true → e.identifier ≡ nonce_identifier

-- the OID is not empty, the tag of the parameters has one octet, and the serial number is an INTEGER in the fewest octets
-- (X.690 8.1.2.4, 8.3.2, 8.19.2)
pub record IsCertIdTree (t : CertIdTree) : Type 0 where
  pub identified : 1 ≤ length t.identifier
  pub low_tag : IfSome t.parameters (λ any. any.tag % 32 < 31)
  pub shortest : IsShortest t.serial

-- each extension is allowed, if extensions are written
abbrev pub AreExtensions : Option (List Extension) → Type 0
AreExtensions written = IfSome written (AllByRecursion IsExtension)

-- the CertID and the extensions of a Request are allowed
pub record IsSingle (s : Single) : Type 0 where
  pub target : IsCertIdTree s.target
  pub extensions : AreExtensions s.extensions

-- there is at least one request, and each request and each extension is allowed
pub record IsRequestTree (f : RequestTree) : Type 0 where
  pub some : 1 ≤ length f.singles
  pub each : AllByRecursion IsSingle f.singles
  pub extensions : AreExtensions f.extensions

-- ---- the CertIDs and the nonce of a request

-- a CertID in a request: its whole DER value, the whole DER value of its hashAlgorithm, and the contents of its other fields
pub record Id : Type 0 where
  pub raw : List ℕ
  pub algorithm : List ℕ
  pub name_hash : List ℕ
  pub key_hash : List ℕ
  pub serial : List ℕ

abbrev pub id_of : CertIdTree → Id
id_of t =
    record {
      raw = cert_id t;
      algorithm = algorithm t.identifier t.parameters;
      name_hash = t.name_hash;
      key_hash = t.key_hash;
      serial = t.serial;
    }

abbrev pub cert_id_in : Single → Id
cert_id_in s = id_of s.target

-- the contents of extnValue of the first extension with the nonce's OID (RFC 6960 4.4.1)
abbrev pub first_nonce : List Extension → Option (List ℕ)
first_nonce [] = None
first_nonce (e ∷ es) = if bytes_eq e.identifier nonce_identifier then Some e.value else first_nonce es

-- the nonce, if it has 1 to 131 bytes: the response repeats it, and leaves out any other (RFC 9654 2.1)
abbrev pub echoed_nonce : Option (List ℕ) → Option (List ℕ)
echoed_nonce None = None
echoed_nonce (Some nonce) = if nat_le 1 (length nonce) && nat_le (length nonce) 131 then Some nonce else None

-- the nonce in requestExtensions that the response repeats
abbrev pub nonce_of : Option (List Extension) → Option (List ℕ)
nonce_of None = None
nonce_of (Some es) = echoed_nonce (first_nonce es)

-- ---- the relation

-- the bytes are the encoding of this tree, which is allowed and has these CertIDs and this nonce to repeat
pub record IsRequestOf (bytes : List ℕ) (ids : List Id) (nonce : Option (List ℕ))
    (f : RequestTree) : Type 0 where
  pub allowed : IsRequestTree f
  pub spelled : bytes ≡ spelling f
  pub asks : ids ≡ map cert_id_in f.singles
  pub repeats : nonce ≡ nonce_of f.extensions

-- the bytes, at most 65,536, are an OCSP request with these CertIDs and this nonce to repeat
pub record IsOcspRequest (bytes : List ℕ) (ids : List Id) (nonce : Option (List ℕ)) : Type 0 where
  pub each : IsBytes bytes
  pub short : length bytes ≤ 65536
  pub form : RequestTree
  pub built : IsRequestOf bytes ids nonce form

-- bytes have at most one reading as a request
abbrev pub OneReading : Type 0
OneReading =
    (bytes : List ℕ) (ids_a ids_b : List Id) (nonce_a nonce_b : Option (List ℕ))
    → IsOcspRequest bytes ids_a nonce_a → IsOcspRequest bytes ids_b nonce_b
    → (ids_a ≡ ids_b) × (nonce_a ≡ nonce_b)

-- ---- sizes

abbrev pub raw_length : Id → ℕ
raw_length id = length id.raw

-- a nonce that the response repeats: 1 to 131 bytes
pub record IsNonce (value : List ℕ) : Type 0 where
  pub some : 1 ≤ length value
  pub short : length value ≤ 131

-- a request that one response can answer: at most 65,536 CertIDs of 65,536 bytes in all, and a nonce of at most 131 bytes
pub record CanBeAnswered (ids : List Id) (nonce : Option (List ℕ)) : Type 0 where
  pub few : length ids ≤ 65536
  pub short : sum_by raw_length ids ≤ 65536
  pub short_nonce : IfSome nonce (λ value. length value ≤ 131)
