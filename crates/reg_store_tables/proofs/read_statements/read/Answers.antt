use Rattle.std.proofs.Common.{◌≡◌, arith, rules}
use Rattle.sqlite.specs.Held.{state}
use Rattle.sqlite.specs.State.{HasCleanDisk}
use Rattle.sqlite.specs.Values.{bound}
use Rattle.reg_store_tables.specs.Failing.{HasFailed}
use Rattle.reg_store_tables.specs.Faults.{database_fault_of}
use Rattle.reg_store_tables.specs.declared.fault.DatabaseFault.TheVariants.{Store}
use Rattle.reg_store_tables.proofs.FailingLemmas.{fails_by}
use Rattle.reg_store_tables.proofs.LookingUp.{gives_none}
use Rattle.reg_store_tables.proofs.Staying.{fails_remains, fails_stays, fails_within, remains_opens, shown_opens, shown_stays, shown_answers, shown_within, reads_nothing}
use Rattle.reg_store_tables.proofs.read_statements.read.Goals as goal

pub returns-in_err-query_all-clause-reads : goal.returns-in_err-query_all-clause-reads
returns-in_err-query_all-clause-reads g c reading =
    let old = state g.S.Store c.args.conn.now in
    let new = state g.S.Store c.query_all.new.self in
    record {
      looked = record {
        same = λ register. fails_stays old new c.args.sql.now (bound c.args.params.now) _ c.in_err-query_all.ensures.err;
        within = λ schema clean up under. fails_within old new c.args.sql.now (bound c.args.params.now) _ (c.in_err-query_all.ensures.err clean) under;
        live = λ clean under up. remains_opens old new (fails_remains old new c.args.sql.now (bound c.args.params.now) _ (c.in_err-query_all.ensures.err clean)) under;
        survives = reads_nothing old new c.args.sql.now (bound c.args.params.now) reading.never c.query_all.ensures.survives;
        idle = c.query_all.ensures.mode;
      };
      rows = λ register clean. gives_none _ _ c.from_residual.ensures.0;
      fails = λ asked register clean.
          let before : HasCleanDisk (state g.S.Store c.args.conn.now) = omega (arith, c.query_all.ensures.survives.clean) in
          let has_failed : database_fault_of c.in_err-query_all.field-0.0 ≡ Store → HasFailed (state g.S.Store c.args.conn.now) (state g.S.Store c.query_all.new.self) =
          λ store. fails_by c.args.sql.now (bound c.args.params.now) reading asked old new _ (register before) store (c.in_err-query_all.ensures.err clean) in
          search rules;
    }

pub returns-clause-reads : goal.returns-clause-reads
returns-clause-reads g c reading =
    let old = state g.S.Store c.args.conn.now in
    let new = state g.S.Store c.query_all.new.self in
    record {
      looked = record {
        same = λ register. shown_stays old new c.query_all.ensures.survives.clean register c.args.sql.now (bound c.args.params.now) _ reading c.in_ok-query_all.ensures.ok;
        within = λ schema clean up under. shown_within old new c.query_all.ensures.survives.clean schema c.args.sql.now (bound c.args.params.now) _ reading clean (c.in_ok-query_all.ensures.ok clean);
        live = λ clean under up. shown_opens old new c.args.sql.now (bound c.args.params.now) _ (c.in_ok-query_all.ensures.ok clean);
        survives = reads_nothing old new c.args.sql.now (bound c.args.params.now) reading.never c.query_all.ensures.survives;
        idle = c.query_all.ensures.mode;
      };
      rows = λ register clean. shown_answers old new c.query_all.ensures.survives.clean register c.args.sql.now (bound c.args.params.now) _ reading clean (c.in_ok-query_all.ensures.ok clean);
      fails = λ asked register clean. tt;
    }
