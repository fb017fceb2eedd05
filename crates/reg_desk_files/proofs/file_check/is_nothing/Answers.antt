use Rattle.std.proofs.Common.{◌↔◌, true, IsTrue, refl, subst, inl, inr}
use Rattle.std.proofs.lemmas.Bool.{iff_false}
use Rattle.std.proofs.lemmas.Result.{IfOk-weaker}
use Rattle.sqlite.specs.Files.{IsBlankAs}
use Rattle.sqlite.proofs.FileLemmas.{reads_then, same_image}
use Rattle.sqlite_wal.proofs.CleanLemmas.{both_clean}
use Rattle.reg_desk_files.proofs.file_check.is_nothing.Goals as goal

pub returns-then-branch-clause-nothing : goal.returns-then-branch-clause-nothing
returns-then-branch-clause-nothing g c clean = (λ _. inl ((c.in_ok-is_blank.ensures.blank clean).0 c.if-branch.true), λ _. refl)

pub returns-clause-nothing : goal.returns-clause-nothing
returns-clause-nothing g c =
    IfOk-weaker c.is_blank-2.result _ _ (λ is blank. λ clean.
    let first = c.is_blank.ensures in
    let second = c.is_blank-2.ensures in
    let plain = iff_false (c.in_ok-is_blank.ensures.blank (both_clean _ _ _ _ second.log.clean second.db.clean clean)) c.if-branch.false in
    let summed = subst (λ i. IsTrue is ↔ IsBlankAs true i) (same_image first.log first.db) (blank clean) in
    (λ yes. inr (summed.0 yes), λ nothing. elim nothing [ inl it ↦ absurd (plain it) | inr it ↦ summed.1 it ]))
    c.is_blank-2.ensures.blank

pub returns-clause-log : goal.returns-clause-log
returns-clause-log g c = reads_then c.is_blank.ensures.log c.is_blank-2.ensures.log

pub returns-clause-db : goal.returns-clause-db
returns-clause-db g c = reads_then c.is_blank.ensures.db c.is_blank-2.ensures.db
