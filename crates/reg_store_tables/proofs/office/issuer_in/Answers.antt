use Rattle.reg_store_tables.proofs.office.issuer_in.Goals as goal

pub returns-in-None-clause-has : goal.returns-in-None-clause-has
returns-in-None-clause-has c issuer is name key = absurd (c.in-None.ensures.read issuer.name name)
