use Rattle.reg_office_reads.proofs.changes.changes_in.Goals as goal

pub returns-clause-looks : goal.returns-clause-looks
returns-clause-looks g c = c.in_ok-given.ensures
