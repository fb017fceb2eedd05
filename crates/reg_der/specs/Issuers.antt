-- Changes of the issuer in the records. They are not commands, so the last accepted moment stays.
use Rattle.std.specs.Prelude.{List, ℕ}
use Rattle.reg_core.specs.Crls.{next_number}
use Rattle.reg_core.specs.Issuer.{Issuer}
use Rattle.reg_core.specs.Records.{Records}
use Rattle.reg_der.specs.Authority.{with_identifier}

-- the records with this issuer
abbrev pub with_issuer : Records → Issuer → Records
with_issuer records issuer = record records { issuer = issuer }

-- the records with one more key identifier, for the CRLs from the next one on (RFC 5280 5.2.1)
abbrev pub with_key_identifier : Records → List ℕ → Records
with_key_identifier records octets =
    with_issuer records (with_identifier records.issuer (next_number records.crls) octets)
