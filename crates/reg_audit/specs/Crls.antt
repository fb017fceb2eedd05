-- The bytes of a stored CRL.
use Rattle.std.specs.Prelude.{◌≡◌, ℕ, ◌≤◌, ◌&&◌, Bool, true, nat_le, List, [], ◌∷◌, length, filter, map, Option, None, Some}
use Rattle.std.specs.List.Sorted.{IsPermutation}
use Rattle.reg_core.specs.Crls.{CertList}
use Rattle.reg_core.specs.Issuer.{Issuer}
use Rattle.reg_core.specs.Records.{Records}
use Rattle.reg_core.specs.Sound.{NumberedFrom}
use Rattle.reg_core.specs.Sequence.{◌>>=◌}
use Rattle.reg_core.specs.declared.rows.CrlRow.{CrlRow}
use Rattle.reg_core.specs.declared.rows.Entry.{Entry}
use Rattle.reg_crl.specs.Crl.{tbs_of, certificate_list}
use Rattle.reg_der.specs.ValueReading.{value_at}
use Rattle.reg_store_tables.specs.Kept.{listed_of}
use Rattle.reg_audit.specs.DerivedAsRead.{listed_in}
use Rattle.reg_audit.specs.declared.derived_rows.Listed.{Listed}

-- the bytes are this CRL, with this algorithm, and any signature of at most 65,536 bytes
abbrev pub IsCrlOf : List ℕ → CertList → List ℕ → Type 0
IsCrlOf algorithm crl bytes =
    (signature : List ℕ) × (length signature ≤ 65536)
    × (bytes ≡ certificate_list (tbs_of algorithm crl) algorithm signature)

-- a CRL of the issuer, with the number and thisUpdate of a row, this nextUpdate and these entries
abbrev pub crl_with_entries : Issuer → CrlRow → ℕ → List Entry → CertList
crl_with_entries issuer crl next_update entries =
    record {
      issuer = issuer;
      number = crl.number;
      this_update = crl.this_update;
      next_update = next_update;
      entries = entries;
    }

-- the octets after the first one
abbrev pub behind_first : List ℕ → Option (List ℕ)
behind_first [] = None
behind_first (first ∷ rest) = Some rest

-- the octets of the third value in a SEQUENCE, but the first octet: of a CRL, those of its BIT STRING signature
abbrev pub signature_at : List ℕ → Option (List ℕ)
signature_at bytes =
    value_at bytes >>= λ list. value_at list.0.contents >>= λ tbs. value_at tbs.1 >>= λ algorithm.
    value_at algorithm.1 >>= λ bits. behind_first bits.0.contents

-- n is not above the number of the last CRL that lists a row; always so if that CRL has not been issued
abbrev pub still_on : ℕ → Option ℕ → Bool
still_on n None = true
still_on n (Some last) = nat_le n last

-- CRL n lists a row
abbrev pub lists_row : ℕ → Listed → Bool
lists_row n row = nat_le row.first n && still_on n row.last

abbrev pub listed_entry : Listed → Entry
listed_entry row = record { serial = row.serial; at = row.at; reason = row.reason }

-- the entries of a CRL, in the order of the rows that it lists
abbrev pub listed_entries : ℕ → List Listed → List Entry
listed_entries n rows = map listed_entry (filter (lists_row n) rows)

-- the issuer, the seconds from thisUpdate to nextUpdate, and the rows of `listed`, in any order, are those of the records; CRL numbers are
-- 1, 2, 3 and so on
pub record MatchRecords (issuer : Issuer) (crl_life : ℕ) (listed : List Listed)
    (records : Records) : Type 0 where
  pub by_issuer : issuer ≡ records.issuer
  pub by_life : crl_life ≡ records.policy.crl_life
  pub numbered : NumberedFrom (λ crl. crl.number) 1 records.crls
  pub kept : IsPermutation (map (listed_of records) records.revocations) (map listed_in listed)
