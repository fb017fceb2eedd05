use Rattle.reg_desk_files.proofs.file_check.is_blank.Goals as goal

pub returns-clause-blank : goal.returns-clause-blank
returns-clause-blank g c =
    let size = rw c.unwrap-size.ensures at c.new.ensures.value in
    rw size at c.probe_blank.ensures.ok
