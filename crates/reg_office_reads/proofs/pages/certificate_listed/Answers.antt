use Rattle.reg_office_reads.proofs.pages.certificate_listed.Goals as goal

pub returns-in-None : goal.returns-in-None
returns-in-None g c = rw c.in-None.is c.certificate_row.ensures

pub returns-in-Some : goal.returns-in-Some
returns-in-Some g c = rw c.in-Some.is c.expiring_row.ensures
