use Rattle.std.proofs.lemmas.Result.{IfOk-weaker}
use Rattle.sqlite.specs.Files.{image_of}
use Rattle.sqlite.proofs.FileLemmas.{reads_then, same_image}
use Rattle.sqlite_wal.proofs.CleanLemmas.{both_clean}
use Rattle.reg_desk_files.proofs.Looks.{holds_none, names_none}
use Rattle.reg_desk_files.proofs.file_check.begins.Goals as goal

pub returns-in-Some-clause-none : goal.returns-in-Some-clause-none
returns-in-Some-clause-none g c =
    let first = c.probe_page_size.ensures in
    let second = c.begins_with.ensures in
    let old = image_of g.D.Disk c.args.files.now in
    let new = image_of g.D.Disk c.probe_page_size.new.files in
    IfOk-weaker c.begins_with.result _ _ (λ is none. λ clean other.
    let before = both_clean _ _ _ _ second.log.clean second.db.clean clean in
    holds_none old new c.in-Some.size (same_image first.log first.db) (rw c.in-Some.is at (c.in_ok-page_size.ensures.by_log before)) (rw c.in-Some.is at (c.in_ok-page_size.ensures.by_file before)) (none clean other))
    second.none

pub returns-in-None-clause-none : goal.returns-in-None-clause-none
returns-in-None-clause-none g c clean other =
    names_none (image_of g.D.Disk c.args.files.now) (rw c.in-None.is at (c.in_ok-page_size.ensures.by_log clean)) (rw c.in-None.is at (c.in_ok-page_size.ensures.by_file clean))

pub returns-in-Some-clause-log : goal.returns-in-Some-clause-log
returns-in-Some-clause-log g c = reads_then c.probe_page_size.ensures.log c.begins_with.ensures.log

pub returns-in-Some-clause-db : goal.returns-in-Some-clause-db
returns-in-Some-clause-db g c = reads_then c.probe_page_size.ensures.db c.begins_with.ensures.db
