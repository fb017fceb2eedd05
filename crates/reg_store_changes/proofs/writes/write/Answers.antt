use Rattle.std.proofs.Common.{◌≡◌, true, sym, ◌∙◌}
use Rattle.sqlite.specs.Held.{state}
use Rattle.sqlite.specs.Values.{bound}
use Rattle.reg_store_changes.proofs.Within.{failed_step, is_under_way, ran_within, was_clean, within_open, written_step}
use Rattle.reg_store_changes.proofs.writes.write.Goals as goal

pub returns-in_err-execute-clause-stepped : goal.returns-in_err-execute-clause-stepped
returns-in_err-execute-clause-stepped g c is =
    let under : (state g.S.Store c.args.conn.now).in_transaction ≡ true = is_under_way _ (sym c.is_autocommit.ensures.value ∙ c.if-is_autocommit.false) in
    failed_step {g = g.S.Store} c.args.conn.now c.execute.new.self c.args.sql.now (bound c.args.params.now) _ is under c.execute.ensures.survives c.in_err-execute.ensures.runs

pub returns-clause-ran : goal.returns-clause-ran
returns-clause-ran g c is within clean =
    let s = g.S.Store in
    let under : (state s c.args.conn.now).in_transaction ≡ true = is_under_way _ (sym c.is_autocommit.ensures.value ∙ c.if-is_autocommit.false) in
    let schema = (within_open within (was_clean (state s c.args.conn.now) (state s c.execute.new.self) c.execute.ensures.survives.clean clean) under).1 in
    ran_within (state s c.args.conn.now) (state s c.execute.new.self) c.args.sql.now (bound c.args.params.now) c.in_ok-execute.field-0 is schema under (c.in_ok-execute.ensures.runs clean)

pub returns-clause-stepped : goal.returns-clause-stepped
returns-clause-stepped g c is =
    let under : (state g.S.Store c.args.conn.now).in_transaction ≡ true = is_under_way _ (sym c.is_autocommit.ensures.value ∙ c.if-is_autocommit.false) in
    written_step {g = g.S.Store} c.args.conn.now c.execute.new.self c.args.sql.now (bound c.args.params.now) _ is under c.execute.ensures.survives c.in_ok-execute.ensures.runs

pub returns-clause-under_way : goal.returns-clause-under_way
returns-clause-under_way g c = is_under_way _ (sym c.is_autocommit.ensures.value ∙ c.if-is_autocommit.false)
