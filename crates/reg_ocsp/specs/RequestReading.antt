-- Reading a request, as functions on lists of bytes. `IsOcspRequest` states what a request is.
use Rattle.std.specs.Prelude.{ℕ, Bool, true, false, not, ◌&&◌, ◌||◌, ◌==◌, nat_lt, nat_le, if◌then◌else◌, List, [], ◌∷◌, length, Option, Some, None, unwrap_or}
use Rattle.std.specs.Str.{bytes_eq}
use Rattle.reg_der.specs.Der.{tlv}
use Rattle.reg_core.specs.Sequence.{◌>>=◌}
use Rattle.reg_der.specs.TaggedValues.{expect_at, whole_at, optional_at, last_at, all_at}
use Rattle.reg_der.specs.ValueReading.{Parts, value_at}
use Rattle.reg_ocsp.specs.Request.{Extension, Id, nonce_identifier, first_nonce, echoed_nonce}

-- ---- extensions

-- the value of a BOOLEAN with these contents (X.690 8.2.2, 11.1)
abbrev pub flag_of : List ℕ → Option Bool
flag_of [] = None
flag_of (octet ∷ []) = if octet == 0xFF then Some true else (if octet == 0x00 then Some false else None)
flag_of (octet ∷ second ∷ rest) = None

abbrev pub written_flag : Option (List ℕ) → Option (Option Bool)
written_flag None = Some None
written_flag (Some contents) = flag_of contents >>= λ flag. Some (Some flag)

-- `critical`, if it is written, and the bytes after it
unfoldable pub critical_at : List ℕ → Option (Option Bool × List ℕ)
critical_at bytes = optional_at 0x01 bytes >>= λ x. written_flag x.0 >>= λ flag. Some (flag, x.1)

-- the OID is empty, or the extension is critical and not the nonce
abbrev pub is_refused : List ℕ → Option Bool → Bool
is_refused identifier critical =
    (length identifier == 0) || (unwrap_or critical false && not (bytes_eq identifier nonce_identifier))

-- the Extension with these contents
unfoldable pub fields_at : List ℕ → Option Extension
fields_at bytes = do
  identifier ← expect_at 0x06 bytes
  critical ← critical_at identifier.1
  value ← whole_at 0x04 critical.1
  if is_refused identifier.0 critical.0 then None
      else Some (record { identifier = identifier.0; critical = critical.0; value = value })

-- the Extension at the front, and the bytes after it
unfoldable pub extension_at : List ℕ → Option (Extension × List ℕ)
extension_at bytes = do
  outer ← expect_at 0x30 bytes
  extension ← fields_at outer.0
  Some (extension, outer.1)

-- the value of the first nonce in the bytes of one Extensions value
unfoldable pub nonce_at : List ℕ → Option (Option (List ℕ))
nonce_at bytes = do
  list ← whole_at 0x30 bytes
  es ← all_at extension_at list
  Some (first_nonce es)

abbrev pub written_nonce : Option (List ℕ) → Option (Option (List ℕ))
written_nonce None = Some None
written_nonce (Some contents) = nonce_at contents

-- the value of the first nonce in the bytes of one Extensions value under this explicit tag; no nonce if there are no bytes
unfoldable pub last_nonce_at : ℕ → List ℕ → Option (Option (List ℕ))
last_nonce_at tag bytes = last_at tag bytes >>= written_nonce

-- ---- requests

-- the bytes are one value and nothing else, or there are no bytes
abbrev pub read_all : List ℕ → Option (Parts × List ℕ) → Bool
read_all bytes None = length bytes == 0
read_all bytes (Some x) = length x.1 == 0

-- the whole DER value of the AlgorithmIdentifier at the front, and the bytes after it
unfoldable pub algorithm_at : List ℕ → Option (List ℕ × List ℕ)
algorithm_at bytes = do
  outer ← expect_at 0x30 bytes
  identifier ← expect_at 0x06 outer.0
  if (length identifier.0 == 0) || not (read_all identifier.1 (value_at identifier.1)) then None
      else Some (tlv 0x30 outer.0, outer.1)

-- the contents octets of an INTEGER are the fewest (X.690 8.3.2)
abbrev pub is_shortest : List ℕ → Bool
is_shortest [] = false
is_shortest (first ∷ []) = true
is_shortest (first ∷ second ∷ rest) =
    not ((first == 0) && nat_lt second 128) && not ((first == 255) && nat_le 128 second)

-- the contents octets of an INTEGER, if they are the fewest and nothing follows the INTEGER
unfoldable pub serial_at : List ℕ → Option (List ℕ)
serial_at bytes = whole_at 0x02 bytes >>= λ serial. if is_shortest serial then Some serial else None

-- issuerNameHash, issuerKeyHash and the serial number, which nothing follows
unfoldable pub hashes_and_serial_at : List ℕ → Option (List ℕ × List ℕ × List ℕ)
hashes_and_serial_at bytes = do
  name ← expect_at 0x04 bytes
  key ← expect_at 0x04 name.1
  serial ← serial_at key.1
  Some (name.0, key.0, serial)

-- the CertID at the front, and the bytes after it
unfoldable pub cert_id_at : List ℕ → Option (Id × List ℕ)
cert_id_at bytes = do
  outer ← expect_at 0x30 bytes
  algorithm ← algorithm_at outer.0
  names ← hashes_and_serial_at algorithm.1
  Some (
    record {
      raw = tlv 0x30 outer.0;
      algorithm = algorithm.0;
      name_hash = names.0;
      key_hash = names.1;
      serial = names.2;
    },
    outer.1,
  )

-- the CertID of the Request at the front, and the bytes after that Request
unfoldable pub single_at : List ℕ → Option (Id × List ℕ)
single_at bytes = do
  outer ← expect_at 0x30 bytes
  target ← cert_id_at outer.0
  ignored ← last_nonce_at 0xA0 target.1
  Some (target.0, outer.1)

-- the CertIDs of requestList, at least one
unfoldable pub ids_at : List ℕ → Option (List Id)
ids_at bytes = if length bytes == 0 then None else all_at single_at bytes

-- ---- the whole

abbrev pub is_version : Option (List ℕ) → Bool
is_version None = true
is_version (Some contents) = bytes_eq contents (0x02 ∷ 0x01 ∷ 0x00 ∷ [])

-- the bytes after the version, which is v1 or left out
unfoldable pub version_at : List ℕ → Option (List ℕ)
version_at bytes = optional_at 0xA0 bytes >>= λ x. if is_version x.0 then Some x.1 else None

-- the contents of requestList in the contents of a TBSRequest, and the bytes after it
unfoldable pub list_at : List ℕ → Option (List ℕ × List ℕ)
list_at bytes = do
  after ← version_at bytes
  requestor ← optional_at 0xA1 after
  expect_at 0x30 requestor.1

-- the contents of requestList, and the nonce to repeat, in the contents of a TBSRequest
unfoldable pub signed_at : List ℕ → Option (List ℕ × Option (List ℕ))
signed_at bytes = do
  list ← list_at bytes
  nonce ← last_nonce_at 0xA2 list.1
  Some (list.0, echoed_nonce nonce)

-- the contents of the TBSRequest in an OCSPRequest
unfoldable pub tbs_at : List ℕ → Option (List ℕ)
tbs_at bytes = do
  outer ← whole_at 0x30 bytes
  signed ← expect_at 0x30 outer
  signature ← last_at 0xA0 signed.1
  Some signed.0

-- the contents of requestList, and the nonce to repeat, in an OCSPRequest of at most 65,536 bytes
unfoldable pub parts_at : List ℕ → Option (List ℕ × Option (List ℕ))
parts_at bytes = if nat_lt 65536 (length bytes) then None else (tbs_at bytes >>= signed_at)

-- the CertIDs, and the nonce to repeat, of an OCSPRequest
unfoldable pub request_at : List ℕ → Option (List Id × Option (List ℕ))
request_at bytes = do
  parts ← parts_at bytes
  ids ← ids_at parts.0
  Some (ids, parts.1)
