-- The bytes of the stored CRLs.
use Rattle.std.specs.Prelude.{ℕ, ◌≤◌, List, Option, Some, length, IsSomeAnd}
use Rattle.sqlite.specs.Held.{Held}
use Rattle.sqlite_trees.specs.declared.store.Store.{Ghosts}
use Rattle.reg_core.specs.Crls.{CertList, cert_list}
use Rattle.reg_core.specs.Issuer.{Issuer}
use Rattle.reg_core.specs.Records.{Records, crl_in}
use Rattle.reg_core.specs.Sound.{KeysDiffer}
use Rattle.reg_core.specs.Sequence.{◌>>=◌}
use Rattle.reg_core.specs.declared.rows.CrlRow.{CrlRow}
use Rattle.reg_crl.specs.Signing.{IsAlgorithm}
use Rattle.reg_der.specs.ValueReading.{Parts, value_at}
use Rattle.reg_store_tables.specs.Shows.{Shows}
use Rattle.reg_audit.specs.Crls.{IsCrlOf, MatchRecords}
use Rattle.reg_audit.specs.declared.derived_rows.Listed.{Listed}

-- the bytes, at most 2^28, are this CRL (RFC 5280 5.1), with some AlgorithmIdentifier and any signature of at most 65,536 bytes
pub record IsSomeCrl (crl : CertList) (bytes : List ℕ) : Type 0 where
  pub algorithm : List ℕ
  pub form : IsAlgorithm algorithm
  pub whole : IsCrlOf algorithm crl bytes
  pub short : length bytes ≤ 268435456

-- at most one row for each serial number, and at most 1,000,000 rows
pub record CanList (listed : List Listed) : Type 0 where
  pub differ : KeysDiffer (λ row. row.serial) listed
  pub few : length listed ≤ 1000000

-- the value after the tbsCertList of a CRL: its signatureAlgorithm (RFC 5280 5.1.1.2)
abbrev pub behind_signed : List ℕ → Option Parts
behind_signed bytes =
    value_at bytes >>= λ list. value_at list.0.contents >>= λ tbs.
    value_at tbs.1 >>= λ algorithm. Some algorithm.0

-- the records have a CRL with the number of a row (RFC 5280 5.2.3), and its bytes are a CRL of the entries by the records
abbrev pub IsStored : Records → CrlRow → Type 0
IsStored records row =
    IsSomeAnd (crl_in records.crls row.number)
    (λ crl. IsSomeCrl (cert_list records row.number row.this_update) crl.bytes)

-- this holds of the records that the tables show, if the issuer, the lifetime and the entries are theirs
abbrev pub HoldsOfRecordsWith : {C : Type 0} → Ghosts C → Held C → Issuer → ℕ → List Listed
    → (Records → Type 0) → Type 0
HoldsOfRecordsWith g conn issuer crl_life listed IsSo =
    (records : Records) → Shows g conn records → MatchRecords issuer crl_life listed records → IsSo records
