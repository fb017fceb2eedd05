-- Reading a CRL, as functions on its bytes (RFC 5280 5.1).
use Rattle.std.specs.Prelude.{◌≡◌, ◌<◌, ◌^◌, map, ℕ, zero, suc, Bool, ◌==◌, ◌||◌, ◌&&◌, nat_le, nat_lt, List, [], ◌∷◌, ◌++◌, length, Option, Some, None, unwrap_or, if◌then◌else◌}
use Rattle.std.specs.List.{AllByRecursion}
use Rattle.std.specs.Str.{bytes_eq}
use Rattle.reg_core.specs.Crls.{CertList}
use Rattle.reg_core.specs.Integer.{IsBytes, integer, value}
use Rattle.reg_core.specs.Sequence.{◌>>=◌}
use Rattle.reg_core.specs.Serial.{IsSerial}
use Rattle.reg_der.specs.Authority.{IsIssuer}
use Rattle.reg_der.specs.TaggedValues.{expect_at, optional_at, whole_at}
use Rattle.reg_der.specs.ValueReading.{value_at}
use Rattle.reg_crl.specs.Crl.{certificate_list, tbs_of}
use Rattle.reg_crl.specs.Signing.{IsAlgorithm}

-- the tag is that of a UTCTime or a GeneralizedTime (RFC 5280 4.1.2.5)
abbrev pub is_time : ℕ → Bool
is_time tag = (tag == 0x17) || (tag == 0x18)

-- the bytes after a Time, whose contents may be any (RFC 5280 5.1.2.4)
unfoldable pub time_at : List ℕ → Option (List ℕ)
time_at bytes = value_at bytes >>= λ time. if is_time time.0.tag then Some time.1 else None

-- the bytes after nextUpdate, which may be left out (RFC 5280 5.1.2.5)
unfoldable pub after_next_update : List ℕ → Option (List ℕ)
after_next_update [] = Some []
after_next_update (first ∷ rest) = if is_time first then time_at (first ∷ rest) else Some (first ∷ rest)

-- the bytes after version, signature, issuer, thisUpdate and nextUpdate in a TBSCertList (RFC 5280 5.1.2)
unfoldable pub header_at : List ℕ → Option (List ℕ)
header_at bytes = do
  version ← optional_at 0x02 bytes
  signature ← expect_at 0x30 version.1
  issuer ← expect_at 0x30 signature.1
  after ← time_at issuer.1
  after_next_update after

-- extnID and extnValue of an Extension, and the bytes after it (RFC 5280 4.1)
unfoldable pub crl_extension_at : List ℕ → Option ((List ℕ × List ℕ) × List ℕ)
crl_extension_at bytes = do
  extension ← expect_at 0x30 bytes
  identifier ← expect_at 0x06 extension.0
  critical ← optional_at 0x01 identifier.1
  octets ← whole_at 0x04 critical.1
  Some ((identifier.0, octets), extension.1)

-- the value of an INTEGER that is not negative, by its contents octets, of which there are at most eight
abbrev pub crl_number_of : List ℕ → Option ℕ
crl_number_of [] = None
crl_number_of (first ∷ rest) =
    if nat_lt first 0x80 && nat_le (length (first ∷ rest)) 8 then Some (value (first ∷ rest)) else None

-- the value of the first CRL number extension, 2.5.29.20, in the contents of Extensions (RFC 5280 5.2.3). `fuel` bounds the recursion: the
-- number of octets is enough, because each extension has at least one.
abbrev pub number_among : ℕ → List ℕ → Option ℕ
number_among fuel [] = None
number_among zero (first ∷ rest) = None
number_among (suc fuel) (first ∷ rest) =
    crl_extension_at (first ∷ rest)
    >>= λ x. if bytes_eq x.0.0 (85 ∷ 29 ∷ 20 ∷ []) then (whole_at 0x02 x.0.1 >>= crl_number_of)
    else number_among fuel x.1

-- the CRL number in crlExtensions, tagged [0], which nothing follows (RFC 5280 5.1.2.7)
unfoldable pub crl_number_at : List ℕ → Option ℕ
crl_number_at bytes =
    whole_at 0xA0 bytes >>= λ tagged. whole_at 0x30 tagged >>= λ extensions.
    number_among (length extensions) extensions

-- the number, and the contents of revokedCertificates, which may be absent, in the contents of a TBSCertList
unfoldable pub tbs_cert_list_at : List ℕ → Option (ℕ × List ℕ)
tbs_cert_list_at bytes = do
  after ← header_at bytes
  revoked ← optional_at 0x30 after
  number ← crl_number_at revoked.1
  Some (number, unwrap_or revoked.0 [])

-- the number, and the contents of revokedCertificates, in a CertificateList: a TBSCertList, an AlgorithmIdentifier and a BIT STRING (RFC 5280 5.1.1)
unfoldable pub certificate_list_at : List ℕ → Option (ℕ × List ℕ)
certificate_list_at bytes = do
  list ← whole_at 0x30 bytes
  tbs ← expect_at 0x30 list
  algorithm ← expect_at 0x30 tbs.1
  signature ← whole_at 0x03 algorithm.1
  tbs_cert_list_at tbs.0

-- the contents octets of the serial number of an entry of revokedCertificates, and the bytes after the entry (RFC 5280 5.1.2.6)
unfoldable pub revoked_entry_at : List ℕ → Option (List ℕ × List ℕ)
revoked_entry_at bytes = do
  entry ← expect_at 0x30 bytes
  serial ← expect_at 0x02 entry.0
  Some (serial.0, entry.1)

-- the bytes are an entry for this serial number, and then these bytes
abbrev pub IsEntryAt : List ℕ → ℕ → List ℕ → Type 0
IsEntryAt bytes serial rest = IsSerial serial × (revoked_entry_at bytes ≡ Some (integer serial, rest))

-- the bytes are entries for these serial numbers, in this order, and then these bytes
abbrev pub AreEntries : List ℕ → List ℕ → List ℕ → Type 0
AreEntries bytes [] rest = bytes ≡ rest
AreEntries bytes (serial ∷ serials) rest =
    (after : List ℕ) × IsEntryAt bytes serial after × AreEntries after serials rest

-- the bytes are a CRL with this number, whose entries have these serial numbers, in this order
abbrev pub IsCrlWith : List ℕ → ℕ → List ℕ → Type 0
IsCrlWith bytes number serials =
    (revoked : List ℕ) × (certificate_list_at bytes ≡ Some (number, revoked)) × AreEntries revoked serials []

-- ---- laws

-- a CRL with a number below 2^63 that is written is read back: its number, and the serial numbers of its entries, in their order
abbrev pub CrlsAreRead : Type 0
CrlsAreRead =
    (crl : CertList) (algorithm signature : List ℕ) → IsIssuer crl.issuer → IsAlgorithm algorithm
    → crl.number < 2 ^ 63
    → AllByRecursion (λ entry. IsSerial entry.serial) crl.entries
    → length (certificate_list (tbs_of algorithm crl) algorithm signature) < 2 ^ 32
    → IsCrlWith (certificate_list (tbs_of algorithm crl) algorithm signature) crl.number
    (map (λ entry. entry.serial) crl.entries)

-- a CRL has one number and one list of serial numbers
abbrev pub CrlsHaveOneReading : Type 0
CrlsHaveOneReading =
    (bytes : List ℕ) (number other_number : ℕ) (serials other_serials : List ℕ)
    → IsCrlWith bytes number serials → IsCrlWith bytes other_number other_serials
    → (number ≡ other_number) × (serials ≡ other_serials)

-- no CRL is a proper prefix of another: a CRL that is cut short is refused, and so is one with bytes after it
abbrev pub NoCrlBeginsAnother : Type 0
NoCrlBeginsAnother =
    (bytes more : List ℕ) (one other : ℕ × List ℕ) → IsBytes bytes → certificate_list_at bytes ≡ Some one
    → certificate_list_at (bytes ++ more) ≡ Some other
    → more ≡ []
