-- A text that is imported twice, by its lemma, in which nothing is asked of what signed a CRL.
use Rattle.std.proofs.Common.{ℕ, List}
use Rattle.reg_core.specs.Crls.{CertList, cert_list}
use Rattle.reg_core.specs.Records.{Crl}
use Rattle.reg_crl.specs.Signing.{signed_by}
use Rattle.reg_office_api.proofs.PublicLaws.{happens_by}
use Rattle.reg_lines.specs.ByCalls.{Lines}
use Rattle.reg_lines.proofs.Twice.{comes_twice}
use Rattle.reg_lines.proofs.laws.import_twice.Goals as goal
use Rattle.reg_core_laws.proofs.PublicLaws.{all_any}

-- any bytes at all
abbrev AnyBytes : CertList → List ℕ → Type 0
AnyBytes crl bytes = Unit {0}

pub returns : goal.returns
returns g c = λ identity records between after now text out out' again again' rows.
    comes_twice
    AnyBytes
    (Lines g.O.Office.signs identity)
    (λ s moment command outcome t happened.
    happens_by (signed_by g.O.Office.signs identity.crls) AnyBytes s moment (λ bytes signed. tt) command outcome t happened)
    records
    between
    after
    now
    text
    out
    out'
    again
    again'
    (record { rows = rows; signatures = all_any (λ (crl : Crl). AnyBytes (cert_list records crl.number crl.this_update) crl.bytes) (λ crl. tt) records.crls })
