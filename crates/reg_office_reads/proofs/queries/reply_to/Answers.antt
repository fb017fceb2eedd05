use Rattle.std.proofs.Common.{refl, sym, ap}
use Rattle.reg_core.specs.declared.command.Query.TheVariants.{Status as AskStatus, Counts as AskCounts, Listing as AskListing, Overdue as AskOverdue, NextCrl as AskNextCrl}
use Rattle.reg_core.specs.declared.command.Reply.TheVariants.{Status as StatusIs, Counts as CountsAre, Listing as ListingIs, Overdue as OverdueAre, NextCrl as NextCrlIs}
use Rattle.reg_store_tables.proofs.PublicLaws.{by_finding, by_finding_kept, so}
use Rattle.reg_office_reads.proofs.QueryLemmas.{asked_as, known_serial, replied}
use Rattle.reg_office_reads.proofs.Looking.{decided_as, not_decided}
use Rattle.reg_office_reads.proofs.queries.reply_to.Goals as goal

pub returns-in_err-status_at-in-Status : goal.returns-in_err-status_at-in-Status
returns-in_err-status_at-in-Status g c = not_decided c.from_residual.result c.in_err-status_at-in-Status.field-0.0 c.from_residual.ensures.1 c.status_at.ensures.looked

pub returns-in_ok-status_at-in-Status : goal.returns-in_ok-status_at-in-Status
returns-in_ok-status_at-in-Status g c =
    replied c.args.query.now (AskStatus c.in-Status.serial) c.in-Status.is (so c.in_ok-status_at-in-Status.ensures (λ records sound it before. (refl, ap StatusIs (sym it))))

pub returns-in_err-counts-in-Counts : goal.returns-in_err-counts-in-Counts
returns-in_err-counts-in-Counts g c =
    not_decided c.from_residual-in_err-counts-in-Counts.result c.in_err-counts-in-Counts.field-0.0 c.from_residual-in_err-counts-in-Counts.ensures.1 c.counts.ensures.looked

pub returns-in_ok-counts-in-Counts : goal.returns-in_ok-counts-in-Counts
returns-in_ok-counts-in-Counts g c =
    replied c.args.query.now AskCounts c.in-Counts.is
    (so (by_finding_kept c.in_ok-counts-in-Counts.ensures) (λ records sound it before. (refl, ap CountsAre (sym (it sound before)))))

pub returns-in_err-listing-in-Listing : goal.returns-in_err-listing-in-Listing
returns-in_err-listing-in-Listing g c =
    decided_as c.from_residual-in_err-listing-in-Listing.result c.in_err-listing-in-Listing.field-0.0 c.from_residual-in_err-listing-in-Listing.ensures.1
    (asked_as c.args.query.now (AskListing c.in-Listing.serial) c.in-Listing.is c.in_err-listing-in-Listing.ensures)

pub returns-in_ok-listing-in-Listing : goal.returns-in_ok-listing-in-Listing
returns-in_ok-listing-in-Listing g c =
    replied c.args.query.now (AskListing c.in-Listing.serial) c.in-Listing.is
    (so c.in_ok-listing-in-Listing.ensures.looks (λ records sound it before. (known_serial records c.in-Listing.serial it.0, ap ListingIs (sym it.1))))

pub returns-in_err-open_past_due-in-Overdue : goal.returns-in_err-open_past_due-in-Overdue
returns-in_err-open_past_due-in-Overdue g c =
    not_decided c.from_residual-in_err-open_past_due-in-Overdue.result c.in_err-open_past_due-in-Overdue.field-0.0 c.from_residual-in_err-open_past_due-in-Overdue.ensures.1 c.open_past_due.ensures.looked

pub returns-in_ok-open_past_due-in-Overdue : goal.returns-in_ok-open_past_due-in-Overdue
returns-in_ok-open_past_due-in-Overdue g c =
    replied c.args.query.now AskOverdue c.in-Overdue.is
    (so (by_finding c.in_ok-open_past_due-in-Overdue.ensures) (λ records sound it before. (refl, ap OverdueAre (sym it))))

pub returns-in_err-next_crl-in-NextCrl : goal.returns-in_err-next_crl-in-NextCrl
returns-in_err-next_crl-in-NextCrl g c =
    not_decided c.from_residual-in_err-next_crl-in-NextCrl.result c.in_err-next_crl-in-NextCrl.field-0.0 c.from_residual-in_err-next_crl-in-NextCrl.ensures.1 c.next_crl.ensures.looked

pub returns-in_ok-next_crl-in-NextCrl : goal.returns-in_ok-next_crl-in-NextCrl
returns-in_ok-next_crl-in-NextCrl g c =
    replied c.args.query.now AskNextCrl c.in-NextCrl.is (so c.in_ok-next_crl-in-NextCrl.ensures (λ records sound it before. (refl, ap NextCrlIs (sym it))))
