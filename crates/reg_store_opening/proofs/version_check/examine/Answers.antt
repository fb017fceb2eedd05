use Rattle.std.proofs.Common.{IsTrue, rules, sym, subst}
use Rattle.sqlite.specs.Held.{state}
use Rattle.reg_store_tables.proofs.PublicLaws.{clean_before, moving-was_clean as was_clean, params-ok_then as ok_then}
use Rattle.reg_store_tables.specs.Steps.{WhileOpen}
use Rattle.reg_store_opening.specs.Examined.{HasVersionAndOffice}
use Rattle.reg_store_opening.specs.VersionAndOffice.{IsNewer, IsShownAs, HasNoRegister}
use Rattle.reg_store_opening.proofs.version_check.examine.Goals as goal

pub returns-clause-ok : goal.returns-clause-ok
returns-clause-ok g c clean =
    let s = g.S.Store in
    let entered = c.check_rows-tested.new.tx.conn.now in
    let was = was_clean (state s entered) (state s c.rollback.new.self.0) c.rollback.ensures.survives.clean (search (rules, clean)) in
    ok_then _ _ c.check_rows-tested.result (λ found holds. subst (λ h. HasVersionAndOffice (state s h).now found) c.transaction-tx.ensures.begun holds.1) (c.check_rows-tested.ensures.reported was)

pub returns-clause-live : goal.returns-clause-live
returns-clause-live g c clean =
    let s = g.S.Store in
    let entered = c.check_rows-tested.new.tx.conn.now in
    let was = was_clean (state s entered) (state s c.rollback.new.self.0) c.rollback.ensures.survives.clean (search (rules, clean)) in
    ok_then _ _ c.check_rows-tested.result (λ found holds. subst (λ h. IsTrue (state s h).is_open) c.transaction-tx.ensures.begun holds.0) (c.check_rows-tested.ensures.reported was)

pub returns-clause-newer : goal.returns-clause-newer
returns-clause-newer g c clean is =
    let s = g.S.Store in
    let entered = c.check_rows-tested.new.tx.conn.now in
    let was = was_clean (state s entered) (state s c.rollback.new.self.0) c.rollback.ensures.survives.clean (search (rules, clean)) in
    subst (λ h. IsNewer (state s h).now) c.transaction-tx.ensures.begun (c.check_rows-tested.ensures.newer was is)

pub returns-clause-none : goal.returns-clause-none
returns-clause-none g c clean is =
    let s = g.S.Store in
    let entered = c.check_rows-tested.new.tx.conn.now in
    let was = was_clean (state s entered) (state s c.rollback.new.self.0) c.rollback.ensures.survives.clean (search (rules, clean)) in
    subst (λ h. HasNoRegister (state s h).now) c.transaction-tx.ensures.begun (c.check_rows-tested.ensures.none was is)

pub returns-clause-shown : goal.returns-clause-shown
returns-clause-shown g c version records shows clean =
    let s = g.S.Store in
    let entered = c.check_rows-tested.new.tx.conn.now in
    let was = was_clean (state s entered) (state s c.rollback.new.self.0) c.rollback.ensures.survives.clean (search (rules, clean)) in
    let first = clean_before s c.args.conn.now c.transaction-tx.result.conn.now c.transaction-tx.ensures.begun entered c.check_rows-tested.ensures.stepped.survives.clean was in
    c.check_rows-tested.ensures.shown version was records (subst (λ h. WhileOpen (state s h) (λ db. IsShownAs version db records)) (sym c.transaction-tx.ensures.begun) (shows.tables first))
