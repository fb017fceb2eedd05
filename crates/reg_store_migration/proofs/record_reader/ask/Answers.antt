use Rattle.sqlite.specs.Held.{state}
use Rattle.sqlite.specs.Values.{bound}
use Rattle.reg_store_migration.proofs.Questions.{asked_same, asked_answers, unchanged_keeps, failed_keeps}
use Rattle.reg_store_migration.proofs.record_reader.ask.Goals as goal

pub returns-clause-asked : goal.returns-clause-asked
returns-clause-asked g c clean =
    let old = state g.S.Store c.args.tx.now.conn.now in
    let new = state g.S.Store c.query_all.new.self.conn.now in
    let shown = c.in_ok-query_all.ensures.ok clean in
    (asked_same old new c.args.sql.now (bound c.args.params.now) _ c.requires shown, asked_answers old new c.args.sql.now (bound c.args.params.now) _ c.requires shown)

pub returns-clause-stepped : goal.returns-clause-stepped
returns-clause-stepped g c = record {
  same_reference = c.query_all.ensures.same_reference;
  kept = λ clean. unchanged_keeps (state g.S.Store c.args.tx.now.conn.now) (state g.S.Store c.query_all.new.self.conn.now) (returns-clause-asked g c clean).0;
  survives = c.query_all.ensures.survives;
}

pub returns-in_err-query_all-clause-stepped : goal.returns-in_err-query_all-clause-stepped
returns-in_err-query_all-clause-stepped g c = record {
  same_reference = c.query_all.ensures.same_reference;
  kept = λ clean.
      failed_keeps (state g.S.Store c.args.tx.now.conn.now) (state g.S.Store c.query_all.new.self.conn.now) c.args.sql.now (bound c.args.params.now) _ c.requires (c.in_err-query_all.ensures.err clean);
  survives = c.query_all.ensures.survives;
}
