use Rattle.std.specs.Prelude.{option_map, Vec}
use Rattle.std.proofs.Common.{ℕ, Some, refl, sym, ap, ◌∙◌, Global}
use Rattle.reg_core.specs.Records.{Crl, crl_in}
use Rattle.reg_store_tables.proofs.PublicLaws.{by_finding, by_none, so}
use Rattle.reg_office.proofs.Issuing.{none_mapped, not_given}
use Rattle.reg_office.proofs.crls.numbered_der.Goals as goal

pub returns-in_err-bytes-clause-looks : goal.returns-in_err-bytes-clause-looks
returns-in_err-bytes-clause-looks g c = by_none c.crl.ensures.looked (λ records. not_given records (Some c.args.number) c.from_residual.result c.in_err-bytes.field-0.0 c.from_residual.ensures.1)

pub returns-in-Some-clause-looks : goal.returns-in-Some-clause-looks
returns-in-Some-clause-looks g c =
    so (by_finding c.in_ok-bytes.ensures) (λ records sound it. sym it ∙ ap (option_map (λ (v : Vec ℕ Global). v.items)) c.in-Some.is)

pub returns-in-None-clause-looks : goal.returns-in-None-clause-looks
returns-in-None-clause-looks g c =
    so (by_finding c.in_ok-bytes.ensures)
    (λ records sound it. (refl, none_mapped (λ (crl : Crl). crl.bytes) (crl_in records.crls c.args.number) (sym it ∙ ap (option_map (λ (v : Vec ℕ Global). v.items)) c.in-None.is)))
