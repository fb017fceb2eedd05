use Rattle.std.proofs.Common.{None, refl, sym, ◌∙◌}
use Rattle.reg_core.specs.Crls.{latest, row_of}
use Rattle.reg_office_api.specs.Items.{items_of}
use Rattle.reg_store_tables.proofs.PublicLaws.{and_so, by_finding, by_none, so}
use Rattle.reg_office.proofs.Issuing.{given_latest, latest_in, none_mapped, not_given}
use Rattle.reg_office.proofs.crls.latest_der.Goals as goal

pub returns-in_err-latest-clause-looks : goal.returns-in_err-latest-clause-looks
returns-in_err-latest-clause-looks g c = by_none c.latest_crl.ensures.looked (λ records. not_given records None c.from_residual.result c.in_err-latest.field-0.0 c.from_residual.ensures.1)

pub returns-in-Some-clause-looks : goal.returns-in-Some-clause-looks
returns-in-Some-clause-looks g c =
    so (and_so (by_finding c.in_ok-latest.ensures) c.numbered_der.ensures.looks)
    (λ records sound it.
    let same = (latest_in 1 records.crls c.in-Some.latest sound.crls.numbered (sym it.0 ∙ c.in-Some.is)).0 in
    given_latest records c.in-Some.latest.number (items_of c.numbered_der.result) same it.1)

pub returns-in-None-clause-looks : goal.returns-in-None-clause-looks
returns-in-None-clause-looks g c =
    so (by_finding c.in_ok-latest.ensures) (λ records sound it. (refl, none_mapped row_of (latest records.crls) (sym it ∙ c.in-None.is)))
