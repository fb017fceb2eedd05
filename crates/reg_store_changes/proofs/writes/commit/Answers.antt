use Rattle.std.proofs.Common.{◌≡◌, true, false, refl, sym, ◌∙◌}
use Rattle.sqlite.specs.Held.{state}
use Rattle.reg_store_changes.proofs.Ending.{fails_to_commit, is_committed, none_committed}
use Rattle.reg_store_changes.proofs.Within.{is_idle, is_under_way}
use Rattle.reg_store_changes.proofs.writes.commit.Goals as goal

pub returns-in-Ok : goal.returns-in-Ok
returns-in-Ok g c =
    let s = g.S.Store in
    let under : (state s c.args.conn.now).in_transaction ≡ true = is_under_way _ (sym c.is_autocommit.ensures.value ∙ c.if-is_autocommit.false) in
    is_committed {g = s} c.args.conn.now c.execute.new.self c.in-Ok.field-0 under c.in-Ok.ensures.runs c.execute.ensures.survives

pub returns-in-Err : goal.returns-in-Err
returns-in-Err g c =
    let s = g.S.Store in
    let under : (state s c.args.conn.now).in_transaction ≡ true = is_under_way _ (sym c.is_autocommit.ensures.value ∙ c.if-is_autocommit.false) in
    fails_to_commit {g = s} c.args.conn.now c.execute.new.self c.roll_back.new.conn _ refl c.in-Err.error under c.in-Err.ensures.runs c.execute.ensures.survives c.roll_back.ensures
