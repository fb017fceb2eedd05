use Rattle.std.proofs.Common.{rules}
use Rattle.sqlite.specs.Held.{state}
use Rattle.reg_store_opening.proofs.Queried.{shown_reads, fails_keeps, fails_is_call, fails_is_refused, other_error}
use Rattle.reg_store_opening.proofs.read_only_queries.read_rows.Goals as goal

pub returns-in-Ok-clause-asked : goal.returns-in-Ok-clause-asked
returns-in-Ok-clause-asked g c clean =
    let it = shown_reads c.args.sql.now c.requires (state g.S.Store c.args.tx.now.conn.now) (state g.S.Store c.query_all.new.self.conn.now) _ (c.in-Ok.ensures.ok clean) in
    (it.1, it.0)

pub returns-in-Ok-clause-stepped : goal.returns-in-Ok-clause-stepped
returns-in-Ok-clause-stepped g c = record {
  same_reference = c.query_all.ensures.same_reference;
  kept = λ clean. let same = (returns-in-Ok-clause-asked g c clean).0 in record { was_open = λ up. same.0.was_open; committed = λ up. same.0.committed_is };
  survives = c.query_all.ensures.survives;
}

pub returns-in-Err-clause-stepped : goal.returns-in-Err-clause-stepped
returns-in-Err-clause-stepped g c = record {
  same_reference = c.query_all.ensures.same_reference;
  kept = λ clean. fails_keeps c.args.sql.now c.requires (state g.S.Store c.args.tx.now.conn.now) (state g.S.Store c.query_all.new.self.conn.now) c.in-Err.error (c.in-Err.ensures.err clean);
  survives = c.query_all.ensures.survives;
}

pub returns-in-Err-clause-refused : goal.returns-in-Err-clause-refused
returns-in-Err-clause-refused g c clean schema never register =
    c.query_fault.ensures.call (fails_is_call schema c.args.sql.now c.requires never (state g.S.Store c.args.tx.now.conn.now) (state g.S.Store c.query_all.new.self.conn.now) c.in-Err.error register (c.in-Err.ensures.err clean))

pub returns-in-Err-clause-none : goal.returns-in-Err-clause-none
returns-in-Err-clause-none g c clean is =
    let other = other_error c.in-Err.error c.query_fault.result (search (rules, is)) c.query_fault.ensures.call in
    fails_is_refused c.args.sql.now c.requires (state g.S.Store c.args.tx.now.conn.now) (state g.S.Store c.query_all.new.self.conn.now) c.in-Err.error other (c.in-Err.ensures.err clean)
