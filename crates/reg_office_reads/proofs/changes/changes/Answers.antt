use Rattle.std.proofs.Common.{◌≡◌, sym, subst}
use Rattle.std.specs.Prelude.{Option}
use Rattle.reg_core_lists.specs.Feed.{IsPage, no_declines}
use Rattle.reg_core_lists.specs.declared.positions.Declines.{Declines}
use Rattle.reg_core_lists.specs.declared.positions.Positions.{Positions}
use Rattle.reg_core_lists.specs.declared.positions.RowCounts.{RowCounts}
use Rattle.reg_der.specs.Authority.{name_of}
use Rattle.reg_office_api.specs.LookUps.{GivesChanges}
use Rattle.reg_office_api.specs.declared.changes.Changes.TheVariants.{Page}
use Rattle.reg_store_tables.proofs.PublicLaws.{and_so, by_finding, looked_then, not_found, ok_then, so}
use Rattle.reg_office_reads.proofs.changes.changes.Goals as goal

pub returns-in-Some : goal.returns-in-Some
returns-in-Some g c =
    so (and_so (by_finding c.in_ok-issuer.ensures) c.changes_after.ensures)
    (λ records sound it.
    ok_then c.changes_after.result it.1 (λ given gives. subst (λ (after : Option Positions). GivesChanges records after given) (sym c.in-Some.is) (gives it.0)))

pub returns-in_err-text-in-None : goal.returns-in_err-text-in-None
returns-in_err-text-in-None g c =
    not_found _ c.from_residual-in_err-text-in-None.result c.from_residual-in_err-text-in-None.ensures.0 (looked_then c.issuer.ensures.looked c.page_after.ensures.looked)

pub returns : goal.returns
returns g c =
    so (and_so (by_finding c.in_ok-issuer.ensures) c.in_ok-text-in-None.ensures)
    (λ records sound it.
    let text = c.in_ok-text-in-None.text in
    let page =
    subst (λ (counts : RowCounts). IsPage (name_of records.issuer) records counts no_declines text.items) c.zero_counts.ensures
    (subst (λ (declines : Declines). IsPage (name_of records.issuer) records c.zero_counts.result declines text.items) c.no_declines.ensures (it.1 it.0)) in
    subst (λ (after : Option Positions). GivesChanges records after (Page text)) (sym c.in-None.is) page)
