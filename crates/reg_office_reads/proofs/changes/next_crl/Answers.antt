use Rattle.std.proofs.Common.{List, ◌∙◌, ap, sym}
use Rattle.std.specs.List.{slice_get}
use Rattle.reg_core.specs.declared.rows.CrlRow.{CrlRow}
use Rattle.reg_store_tables.proofs.PublicLaws.{and_so, by_finding, looked_then, not_found, so}
use Rattle.reg_office_reads.proofs.FeedPages.{next_is, next_none}
use Rattle.reg_office_reads.proofs.changes.next_crl.Goals as goal

pub returns-in_err-der-in-Some : goal.returns-in_err-der-in-Some
returns-in_err-der-in-Some g c =
    not_found _ c.from_residual-in_err-der-in-Some.result c.from_residual-in_err-der-in-Some.ensures.0 (looked_then c.crls_after.ensures.looked c.der_of.ensures.looked)

pub returns-in-Some : goal.returns-in-Some
returns-in-Some g c =
    let first = ap (λ (l : List CrlRow). slice_get l 0) (sym c.deref.ensures.value) ∙ sym c.first.ensures.value ∙ sym c.copied.ensures ∙ c.in-Some.is in
    so (and_so (by_finding c.in_ok-rows.ensures) c.in_ok-der-in-Some.ensures)
    (λ records sound it. next_is records.crls c.args.crls c.in_ok-rows.rows.items sound.crls.numbered it.0 c.in-Some.row c.in_ok-der-in-Some.der.items first it.1)

pub returns : goal.returns
returns g c =
    let none = ap (λ (l : List CrlRow). slice_get l 0) (sym c.deref.ensures.value) ∙ sym c.first.ensures.value ∙ sym c.copied.ensures ∙ c.in-None.is in
    so (by_finding c.in_ok-rows.ensures) (λ records sound it. next_none records.crls c.args.crls c.in_ok-rows.rows.items sound.crls.numbered it none)
