use Rattle.std.specs.Prelude.{[]}
use Rattle.sqlite.specs.Held.{state}
use Rattle.reg_store_tables.proofs.PublicLaws.{fails_remains, fails_stays, fails_within, remains_opens, shown_opens, shown_stays, shown_within, shown_answers, reads_nothing}
use Rattle.reg_audit.proofs.whole_tables.read.Goals as goal

pub returns-in_err-query_all-clause-looked : goal.returns-in_err-query_all-clause-looked
returns-in_err-query_all-clause-looked g c reading = record {
  same = λ register. fails_stays (state g.S.Store c.args.conn.now) (state g.S.Store c.query_all.new.self) c.args.sql.now [] _ c.in_err-query_all.ensures.err;
  within = λ schema clean up under. fails_within (state g.S.Store c.args.conn.now) (state g.S.Store c.query_all.new.self) c.args.sql.now [] _ (c.in_err-query_all.ensures.err clean) under;
  live = λ clean under up.
      remains_opens (state g.S.Store c.args.conn.now) (state g.S.Store c.query_all.new.self) (fails_remains (state g.S.Store c.args.conn.now) (state g.S.Store c.query_all.new.self) c.args.sql.now [] _ (c.in_err-query_all.ensures.err clean)) under;
  survives = reads_nothing (state g.S.Store c.args.conn.now) (state g.S.Store c.query_all.new.self) c.args.sql.now [] reading.never c.query_all.ensures.survives;
  idle = c.query_all.ensures.mode;
}

pub returns-clause-rows : goal.returns-clause-rows
returns-clause-rows g c reading register clean =
    shown_answers (state g.S.Store c.args.conn.now) (state g.S.Store c.query_all.new.self) c.query_all.ensures.survives.clean register.now c.args.sql.now [] _ reading clean
    (c.in_ok-query_all.ensures.ok clean)

pub returns-clause-looked : goal.returns-clause-looked
returns-clause-looked g c reading = record {
  same = λ register. shown_stays (state g.S.Store c.args.conn.now) (state g.S.Store c.query_all.new.self) c.query_all.ensures.survives.clean register c.args.sql.now [] _ reading
      c.in_ok-query_all.ensures.ok;
  within = λ schema clean up under.
      shown_within (state g.S.Store c.args.conn.now) (state g.S.Store c.query_all.new.self) c.query_all.ensures.survives.clean schema c.args.sql.now [] _ reading clean
      (c.in_ok-query_all.ensures.ok clean);
  live = λ clean under up. shown_opens (state g.S.Store c.args.conn.now) (state g.S.Store c.query_all.new.self) c.args.sql.now [] _ (c.in_ok-query_all.ensures.ok clean);
  survives = reads_nothing (state g.S.Store c.args.conn.now) (state g.S.Store c.query_all.new.self) c.args.sql.now [] reading.never c.query_all.ensures.survives;
  idle = c.query_all.ensures.mode;
}
