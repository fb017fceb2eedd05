use Rattle.std.proofs.Common.{◌≤◌, length, refl, arith}
use Rattle.std.specs.List.{filter}
use Rattle.sqlite.specs.Held.{state}
use Rattle.reg_store_tables.specs.DerivedRows.{ends_before}
use Rattle.reg_store_tables.proofs.CountLaws.{letters_few}
use Rattle.reg_store_tables.proofs.CountLemmas.{ended_text, ended_shown}
use Rattle.reg_store_tables.proofs.FailingLemmas.{written_register}
use Rattle.reg_store_tables.proofs.LookingUp.{asked_with, not_asked, ok_for, was_clean}
use Rattle.reg_store_tables.proofs.Staying.{ok_both, ok_if, until_schema}
use Rattle.reg_store_tables.proofs.status_counts.ended_before.Goals as goal

pub returns-in_err-value : goal.returns-in_err-value
returns-in_err-value g c =
    not_asked _ c.from_residual.ensures.0 (λ records may. let many = c.in_err-value.ensures.refused.1 in let secs = c.secs.ensures.value in let range = c.secs.ensures.range in omega arith)

pub returns : goal.returns
returns g c =
    let reads = asked_with (c.look_up_one.ensures.reads ended_text.reading) (rw (c.params-to_sql.ensures, c.in_ok-value.ensures.value, c.secs.ensures.value) refl) in
    let s = g.S.Store in
    record {
      looked = reads.looked;
      found = λ records shows clean. ok_for _ c.look_up_one.result (λ kept both.
          let register = until_schema s c.args.conn.now c.look_up_one.new.conn records shows in
          let old_clean = was_clean (state s c.args.conn.now) (state s c.look_up_one.new.conn) reads.looked.survives.clean clean in
          ok_both _ _ c.look_up_one.result (reads.live register clean) (ok_if _ _ c.look_up_one.result (λ few.
          reads.found (length (filter (ends_before c.args.now) kept.letters)) register clean (λ rows answers.
          (tt, ended_shown _ records kept (both old_clean answers.is_open) c.args.now rows answers.reads few)))));
      fails = λ records may written clean.
          let kept = written.kept.0 in
          let old_clean = was_clean (state s c.args.conn.now) (state s c.look_up_one.new.conn) reads.looked.survives.clean clean in
          let few : length written.kept.0.letters ≤ 1000000 = letters_few records written.sound written.policy written.kept.0 written.kept.2 in
          reads.fails (length (filter (ends_before c.args.now) kept.letters)) (ended_text.asked c.args.now) (written_register s c.args.conn.now records written).now (λ rows answers.
          ((tt, tt), ended_shown _ records kept (written.kept.1.tables old_clean answers.is_open) c.args.now rows answers.reads few)) clean;
    }
