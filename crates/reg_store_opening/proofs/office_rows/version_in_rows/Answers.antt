use Rattle.reg_store_opening.proofs.office_rows.version_in_rows.Goals as goal

pub returns-in-None-clause-none : goal.returns-in-None-clause-none
returns-in-None-clause-none c same n low = c.in-None.ensures n
