use Rattle.std.proofs.Common.{refl, sym, subst}
use Rattle.sqlite.specs.Files.{HoldsDatabase}
use Rattle.sqlite.proofs.FileLemmas.{reads_then, same_image}
use Rattle.sqlite_wal.proofs.CleanLemmas.{both_clean}
use Rattle.reg_desk_files.proofs.Looks.{neither}
use Rattle.reg_desk_files.proofs.file_check.probe_content.Goals as goal

pub returns-then-branch-clause-nothing : goal.returns-then-branch-clause-nothing
returns-then-branch-clause-nothing g c clean = (λ _. (c.in_ok-is_nothing.ensures.nothing clean).0 c.if-branch.true, λ _. refl)

pub returns-then-branch-2-clause-nothing : goal.returns-then-branch-2-clause-nothing
returns-then-branch-2-clause-nothing g c clean =
    let second = c.begins.ensures in
    neither (c.in_ok-is_nothing.ensures.nothing (both_clean _ _ _ _ second.log.clean second.db.clean clean)) c.if-branch.false (λ is. cc)

pub returns-clause-nothing : goal.returns-clause-nothing
returns-clause-nothing g c clean =
    let second = c.begins.ensures in
    neither (c.in_ok-is_nothing.ensures.nothing (both_clean _ _ _ _ second.log.clean second.db.clean clean)) c.if-branch.false (λ is. cc)

pub returns-clause-other : goal.returns-clause-other
returns-clause-other g c clean other db held =
    let first = c.is_nothing.ensures in
    c.in_ok-begins.ensures.none clean c.if-branch-2.false db (subst (λ i. HoldsDatabase i db) (sym (same_image first.log first.db)) held)

pub returns-then-branch-2-clause-log : goal.returns-then-branch-2-clause-log
returns-then-branch-2-clause-log g c = reads_then c.is_nothing.ensures.log c.begins.ensures.log

pub returns-then-branch-2-clause-db : goal.returns-then-branch-2-clause-db
returns-then-branch-2-clause-db g c = reads_then c.is_nothing.ensures.db c.begins.ensures.db

pub returns-clause-log : goal.returns-clause-log
returns-clause-log g c = reads_then c.is_nothing.ensures.log c.begins.ensures.log

pub returns-clause-db : goal.returns-clause-db
returns-clause-db g c = reads_then c.is_nothing.ensures.db c.begins.ensures.db
