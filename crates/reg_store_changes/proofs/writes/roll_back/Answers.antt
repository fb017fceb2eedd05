use Rattle.std.proofs.Common.{◌≡◌, true, false, sym, ◌∙◌}
use Rattle.sqlite.specs.Held.{state}
use Rattle.reg_store_changes.proofs.RollingBack.{rolls_back}
use Rattle.reg_store_changes.proofs.Within.{is_under_way}
use Rattle.reg_store_changes.proofs.writes.roll_back.Goals as goal

pub returns-then-not-is_autocommit : goal.returns-then-not-is_autocommit
returns-then-not-is_autocommit g c =
    let s = g.S.Store in
    let under : (state s c.args.conn.now).in_transaction ≡ true = is_under_way _ (sym c.is_autocommit.ensures.value ∙ c.if-not-is_autocommit.true) in
    rolls_back {g = s} c.args.conn.now c.execute.new.self c.execute.result under c.execute.ensures.runs c.execute.ensures.survives
