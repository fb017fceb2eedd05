use Rattle.reg_desk_files.proofs.read_only.check_has_database.Goals as goal

pub returns-in-PossibleDatabase-clause-begun : goal.returns-in-PossibleDatabase-clause-begun
returns-in-PossibleDatabase-clause-begun g c clean nothing =
    let same = (c.in_ok-probe_content.ensures.nothing clean).1 nothing in
    let begun = c.in-PossibleDatabase.is in
    cc
