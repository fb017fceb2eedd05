-- The entries of CRLs, and the fields that are signed in a CRL.
use Rattle.std.specs.Prelude.{ℕ, Bool, false, cond, not, ◌&&◌, ◌+◌, ◌<◌, nat_le, nat_lt, List, [], ◌∷◌, map, filter, find, Option, Some, None, option_map}
use Rattle.std.specs.List.{AllByRecursion, list_any}
use Rattle.reg_core.specs.Issuer.{Issuer}
use Rattle.reg_core.specs.Records.{Records, Crl, certificate_in}
use Rattle.reg_core.specs.declared.rows.CertRow.{CertRow}
use Rattle.reg_core.specs.declared.rows.RevocationRow.{RevocationRow}
use Rattle.reg_core.specs.declared.rows.Entry.{Entry}
use Rattle.reg_core.specs.declared.rows.CrlRow.{CrlRow}

-- the CRL that was issued last
abbrev pub latest : List Crl → Option Crl
latest [] = None
latest (crl ∷ []) = Some crl
latest (crl ∷ next ∷ rest) = latest (next ∷ rest)

-- the number and the thisUpdate of a CRL, without its bytes
abbrev pub row_of : Crl → CrlRow
row_of crl = record { number = crl.number; this_update = crl.this_update }

-- one more than the number of this CRL, the latest; 1 if there is no CRL
abbrev pub number_after : Option CrlRow → ℕ
number_after None = 1
number_after (Some crl) = crl.number + 1

-- the number of the next CRL
abbrev pub next_number : List Crl → ℕ
next_number crls = number_after (option_map row_of (latest crls))

-- a moment is past notAfter of the serial number's certificate
abbrev pub is_past_end : List CertRow → ℕ → ℕ → Bool
is_past_end certificates serial moment = ended (certificate_in certificates serial)
  where
    ended : Option CertRow → Bool
    ended (Some certificate) = nat_lt certificate.not_after moment
    ended None = false

-- the CRL's number is not below the revocation's `first`, and its thisUpdate is past the certificate's notAfter: no later CRL lists it
abbrev pub ends_listing : List CertRow → RevocationRow → Crl → Bool
ends_listing certificates revocation crl =
    nat_le revocation.first crl.number && is_past_end certificates revocation.serial crl.this_update

-- CRL n lists the revocation: n is not below the revocation's `first`, and no CRL with a number below n ends its listing (an entry
-- stays until it appears on one regularly scheduled CRL issued beyond the validity period, RFC 5280 3.3)
abbrev pub is_listed_on : List CertRow → List Crl → ℕ → RevocationRow → Bool
is_listed_on certificates crls n revocation =
    nat_le revocation.first n
    && not (list_any (λ crl. nat_lt crl.number n && ends_listing certificates revocation crl) crls)

-- the revocations that CRL n lists
abbrev pub listed_revocations : Records → ℕ → List RevocationRow
listed_revocations records n = filter (is_listed_on records.certificates records.crls n) records.revocations

-- the number of the last CRL that lists the revocation: the first one that ends its listing, if that is issued
abbrev pub last_listing : Records → RevocationRow → Option ℕ
last_listing records revocation =
    option_map (λ crl. crl.number) (find (ends_listing records.certificates revocation) records.crls)

-- the entry of a revocation
abbrev pub entry_of : RevocationRow → Entry
entry_of revocation = record { serial = revocation.serial; at = revocation.at; reason = revocation.reason }

-- entries with one more, inserted before the first that has a greater serial number
abbrev pub insert_entry : Entry → List Entry → List Entry
insert_entry entry [] = entry ∷ []
insert_entry entry (next ∷ rest) =
    cond (nat_lt entry.serial next.serial) (entry ∷ next ∷ rest) (next ∷ insert_entry entry rest)

-- entries in ascending order of serial number
abbrev pub ascending : List Entry → List Entry
ascending [] = []
ascending (entry ∷ rest) = insert_entry entry (ascending rest)

-- each serial number is below all later ones
abbrev pub EntriesAscend : List Entry → Type 0
EntriesAscend [] = Unit {0}
EntriesAscend (entry ∷ rest) = AllByRecursion (λ later. entry.serial < later.serial) rest × EntriesAscend rest

-- the entries of CRL n (revokedCertificates, RFC 5280 5.1.2.6), in ascending order of serial number
abbrev pub entries : Records → ℕ → List Entry
entries records n = ascending (map entry_of (listed_revocations records n))

-- the fields of a CRL that are signed (tbsCertList, RFC 5280 5.1.2), but for the version and the algorithm
pub record CertList : Type 0 where
  pub issuer : Issuer
  pub number : ℕ
  pub this_update : ℕ
  pub next_update : ℕ
  pub entries : List Entry

-- the fields of CRL n, with this thisUpdate, and nextUpdate later by the policy's life of a CRL (RFC 5280 5.1.2.5)
abbrev pub cert_list : Records → ℕ → ℕ → CertList
cert_list records n this_update = record {
  issuer = records.issuer;
  number = n;
  this_update = this_update;
  next_update = this_update + records.policy.crl_life;
  entries = entries records n;
}
