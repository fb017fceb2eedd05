use Rattle.std.proofs.Common.{◌≡◌, true, ap, subst, ◌∙◌}
use Rattle.sqlite.specs.Held.{state}
use Rattle.sqlite.specs.State.{HasCleanDisk}
use Rattle.reg_core.specs.Changes.{touched, changed_by}
use Rattle.reg_store_tables.specs.Shows.{AreRecordsAndDerived}
use Rattle.reg_store_tables.specs.DerivedRows.{with_counts}
use Rattle.reg_store_tables.specs.Steps.{TurnsCounted}
use Rattle.reg_store_tables.proofs.PublicLaws.{moves_on, ok_if, then_moves, under_before, under_way}
use Rattle.reg_store_changes.specs.ChangeEffects.{newly_revoked, added, derived_rows_after, derived_after}
use Rattle.reg_store_changes.specs.DerivedEffects.{with_expired, count_ended_before, shifted}
use Rattle.reg_store_changes.proofs.Making.{moment_set}
use Rattle.reg_store_changes.proofs.Within.{after_look, looked_step, shows_within, steps_clean, steps_then, was_clean}
use Rattle.reg_store_changes.proofs.change_statements.enter.Goals as goal

pub returns-clause-made : goal.returns-clause-made
returns-clause-made g c within clean =
    let s = g.S.Store in
    let old = c.args.conn.now in
    let mid = c.stored_counts_at_last.new.conn in
    let s3 = state s c.set_counts_and_last.new.conn in
    let now = c.args.now in
    let change = c.args.change.now in
    let looked = c.stored_counts_at_last.ensures.looked in
    let clean2 = steps_clean c.set_counts_and_last.ensures.stepped clean in
    let clean1 = steps_clean c.write_rows.ensures.stepped clean2 in
    let clean0 : HasCleanDisk (state s mid) = steps_clean c.expire_ended.ensures.stepped clean1 in
    let within1 = (looked_step {g = s} {a = old} {b = mid} looked).within within in
    let within2 = c.expire_ended.ensures.stepped.within within1 in
    let under : mid.in_transaction ≡ true = c.in_ok-ended.ensures.under_way in
    let first = after_look s old mid _ (TurnsCounted (with_expired now) (count_ended_before now) c.in_ok-ended.ended) looked within clean0 under (c.in_ok-ended.ensures.made within1 clean1) in
    let second = c.in_ok-write_rows.ensures.made (under_way first) within2 clean2 in
    then_moves _ _ _ _ _ _ c.set_counts_and_last.result (moves_on first second) (c.set_counts_and_last.ensures.made (c.write_rows.ensures.stepped.within within2) clean) (λ _ closes. record {
      turns = λ records columns sound fits both.
          let counted : c.in_ok-counts.counts ≡ columns.counts = c.in_ok-counts.ensures.found records (shows_within s old mid records columns under both) clean0 columns (λ clean up. both) in
          let swept_now = first.tables records columns both in
          let put = second.tables.turns records (with_expired now columns) now sound fits swept_now.0 in
          let later = changed_by records records.last change in
          let around = derived_rows_after change (with_expired now columns) in
          let next : c.in_ok-next.next ≡ shifted columns.counts (count_ended_before now columns) (newly_revoked change) (added change) =
          c.in_ok-next.ensures.shifted ∙ ap (λ n. shifted c.in_ok-counts.counts n (newly_revoked change) (added change)) swept_now.1
          ∙ ap (λ counts. shifted counts (count_ended_before now columns) (newly_revoked change) (added change)) counted in
          let closed = subst (λ counts. AreRecordsAndDerived s3.now (touched later now) (with_counts counts around)) next (closes.0 later around put) in
          (subst (λ those. AreRecordsAndDerived s3.now those (derived_after now change columns)) (moment_set records now change) closed, closes.1.obeys put.shown.schema);
      one = λ records columns both. second.tables.one records (with_expired now columns) (first.tables records columns both).0;
    })

pub returns-clause-stepped : goal.returns-clause-stepped
returns-clause-stepped g c =
    steps_then (looked_step c.stored_counts_at_last.ensures.looked) (steps_then c.expire_ended.ensures.stepped (steps_then c.write_rows.ensures.stepped c.set_counts_and_last.ensures.stepped))

pub returns-in_err-ended-clause-stepped : goal.returns-in_err-ended-clause-stepped
returns-in_err-ended-clause-stepped g c = steps_then (looked_step c.stored_counts_at_last.ensures.looked) c.expire_ended.ensures.stepped

pub returns-in_err-write_rows-clause-stepped : goal.returns-in_err-write_rows-clause-stepped
returns-in_err-write_rows-clause-stepped g c = steps_then (looked_step c.stored_counts_at_last.ensures.looked) (steps_then c.expire_ended.ensures.stepped c.write_rows.ensures.stepped)

pub returns-in_err-next-clause-stepped : goal.returns-in_err-next-clause-stepped
returns-in_err-next-clause-stepped g c = steps_then (looked_step c.stored_counts_at_last.ensures.looked) (steps_then c.expire_ended.ensures.stepped c.write_rows.ensures.stepped)

pub returns-clause-under_way : goal.returns-clause-under_way
returns-clause-under_way g c = ok_if _ c.set_counts_and_last.result (under_before c.stored_counts_at_last.ensures.looked c.in_ok-ended.ensures.under_way)
