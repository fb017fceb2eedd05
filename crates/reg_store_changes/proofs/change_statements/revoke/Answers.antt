use Rattle.std.proofs.Common.{sym, ◌∙◌}
use Rattle.reg_core.specs.Changes.{with_revocation}
use Rattle.reg_store_tables.proofs.PublicLaws.{leading, moves_on}
use Rattle.reg_store_changes.specs.DerivedEffects.{with_unlisted}
use Rattle.reg_store_changes.proofs.Within.{steps_clean, steps_then}
use Rattle.reg_store_changes.proofs.change_statements.revoke.Goals as goal

pub returns-then-branch-eq1-clause-made : goal.returns-then-branch-eq1-clause-made
returns-then-branch-eq1-clause-made g c within clean =
    let row = c.args.row in
    let clean2 = steps_clean c.mark_revoked.ensures.stepped clean in
    let within2 = c.put_revocation.ensures.stepped.within within in
    let first = c.in_ok-put_revocation.ensures.made within (steps_clean c.put_listed.ensures.stepped clean2) in
    let second = c.in_ok-put_listed.ensures.made within2 clean2 in
    let third = c.in_ok-mark_revoked.ensures.made (c.put_listed.ensures.stepped.within within2) clean in
    leading (moves_on (moves_on first second) third) (λ records columns both.
    let later = with_revocation records records.last row in
    let last = third.tables later (with_unlisted row c.args.not_after columns) (second.tables later columns (first.tables records columns both)) in
    (sym last.1 ∙ c.if-branch-eq1.true, last.0))

pub returns-then-branch-eq1-clause-stepped : goal.returns-then-branch-eq1-clause-stepped
returns-then-branch-eq1-clause-stepped g c = steps_then c.put_revocation.ensures.stepped (steps_then c.put_listed.ensures.stepped c.mark_revoked.ensures.stepped)

pub returns-else-branch-eq1-clause-stepped : goal.returns-else-branch-eq1-clause-stepped
returns-else-branch-eq1-clause-stepped g c = steps_then c.put_revocation.ensures.stepped (steps_then c.put_listed.ensures.stepped c.mark_revoked.ensures.stepped)

pub returns-in_err-mark_revoked-clause-stepped : goal.returns-in_err-mark_revoked-clause-stepped
returns-in_err-mark_revoked-clause-stepped g c = steps_then c.put_revocation.ensures.stepped (steps_then c.put_listed.ensures.stepped c.mark_revoked.ensures.stepped)
