use Rattle.std.proofs.Common.{◌∙◌, sym}
use Rattle.reg_store_tables.proofs.PublicLaws.{by_finding_kept, by_none, looked_none, so}
use Rattle.reg_office_reads.proofs.ListedRows.{listed_nowhere}
use Rattle.reg_office_reads.proofs.rows.listing_of.Goals as goal

pub returns-in-Some : goal.returns-in-Some
returns-in-Some g c = so (by_finding_kept c.listing.ensures) (λ records sound it is. it)
