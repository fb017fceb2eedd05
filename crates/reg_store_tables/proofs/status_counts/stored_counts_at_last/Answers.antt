use Rattle.reg_store_tables.proofs.CountLemmas.{counts_text, counts_rows}
use Rattle.reg_store_tables.proofs.FailingLemmas.{written_register}
use Rattle.reg_store_tables.proofs.LookingUp.{ok_for, was_clean}
use Rattle.reg_store_tables.proofs.Staying.{until_schema}
use Rattle.sqlite.specs.Held.{state}
use Rattle.reg_store_tables.proofs.status_counts.stored_counts_at_last.Goals as goal

pub returns : goal.returns
returns g c =
    let reads = c.look_up_one.ensures.reads counts_text.reading in
    let s = g.S.Store in
    record {
      looked = reads.looked;
      found = λ records shows clean. ok_for _ c.look_up_one.result (λ kept both.
          reads.found kept.counts (until_schema s c.args.conn.now c.look_up_one.new.conn records shows) clean (λ rows answers.
          (tt, counts_rows _ records kept (both (was_clean (state s c.args.conn.now) (state s c.look_up_one.new.conn) reads.looked.survives.clean clean) answers.is_open) rows answers.reads)));
      fails = λ records may written clean.
          reads.fails written.kept.0.counts (counts_text.asked tt) (written_register s c.args.conn.now records written).now (λ rows answers.
          ((tt, tt), counts_rows _ records written.kept.0 (written.kept.1.tables (was_clean (state s c.args.conn.now) (state s c.look_up_one.new.conn) reads.looked.survives.clean clean) answers.is_open) rows answers.reads)) clean;
    }
