use Rattle.std.proofs.Common.{◌≡◌, sym, subst, arith, rules}
use Rattle.sqlite.specs.Held.{state}
use Rattle.sqlite.specs.State.{HasCleanDisk}
use Rattle.reg_store_tables.proofs.PublicLaws.{looked_both, looked_then, stays_holds}
use Rattle.reg_audit.specs.ReadQueries.{AreRead, AreReadFrom, whole, other_queries}
use Rattle.reg_audit.specs.Faults.{IsDisproved}
use Rattle.reg_audit.proofs.Completed.{holds_both, not_broken_denied}
use Rattle.reg_audit.proofs.Denying.{rows_denied, bytes_denied, days_denied}
use Rattle.reg_audit.proofs.Whole.{holds_register}
use Rattle.reg_audit.proofs.whole_audit.audit.Goals as goal

pub returns-clause-sound : goal.returns-clause-sound
returns-clause-sound g c records columns shows clean =
    let old = c.args.conn.now in
    let mid = c.read_each.new.conn in
    let then_clean : HasCleanDisk (state g.S.Store c.check_crls.new.conn) = omega (arith, c.read_each-2.ensures.looked.survives.clean) in
    let was_clean : HasCleanDisk (state g.S.Store mid) = omega (arith, c.check_crls.ensures.looked.survives.clean) in
    let there = looked_both c.read_each.ensures.looked records columns shows in
    let are = c.in_ok-all.ensures.found records columns shows was_clean in
    let judged = c.in_ok-audited.ensures.sound records columns (subst (λ all. AreRead records columns whole all (λ rows. rows.items)) (sym c.deref.ensures.value) are) in
    let signed = c.in_ok-check_crls.ensures.bytes records columns there (subst (λ all. AreRead records columns whole all (λ rows. rows.items)) (sym c.deref-2.ensures.value) are) judged.1 then_clean in
    let then = looked_both c.check_crls.ensures.looked records columns there in
    let more = subst (λ all. AreRead records columns other_queries all (λ rows. rows.items)) (sym c.deref-5.ensures.value) (c.in_ok-more.ensures.found records columns then clean) in
    (record { rows = judged.0; signatures = signed }, judged.1, c.in_ok-check_longest_validity.ensures.allowed records columns more)

pub returns-clause-shown : goal.returns-clause-shown
returns-clause-shown g c db these are clean =
    let old = c.args.conn.now in
    let mid = c.read_each.new.conn in
    let last = c.check_crls.new.conn in
    let then_clean : HasCleanDisk (state g.S.Store last) = omega (arith, c.read_each-2.ensures.looked.survives.clean) in
    let was_clean : HasCleanDisk (state g.S.Store mid) = omega (arith, c.check_crls.ensures.looked.survives.clean) in
    let register = holds_register g.S.Store old db these are.schema in
    let looked = looked_then c.read_each.ensures.looked c.check_crls.ensures.looked in
    let there = stays_holds g.S.Store old last (λ now. now ≡ db) looked.survives.clean (looked.same register) these in
    let all = subst (λ all. AreReadFrom db whole all (λ rows. rows.items)) (sym c.deref-3.ensures.value) (c.in_ok-all.ensures.from db these are.schema was_clean) in
    let more = subst (λ all. AreReadFrom db other_queries all (λ rows. rows.items)) (sym c.deref-4.ensures.value) (c.in_ok-more.ensures.from db there are.schema clean) in
    let some = c.in_ok-check_complete.ensures.shown db are all more in
    let both = returns-clause-sound g c some.records some.columns (holds_both g.S.Store old db some.records some.columns these some.both) clean in
    record { records = some.records; columns = some.columns; both = some.both; reached = both.0; kept = both.1 }

pub returns-clause-counted : goal.returns-clause-counted
returns-clause-counted g c records columns shows clean =
    let then_clean : HasCleanDisk (state g.S.Store c.check_crls.new.conn) = omega (arith, c.read_each-2.ensures.looked.survives.clean) in
    let was_clean : HasCleanDisk (state g.S.Store c.read_each.new.conn) = omega (arith, c.check_crls.ensures.looked.survives.clean) in
    let are = c.in_ok-all.ensures.found records columns shows was_clean in
    c.in_ok-audited.ensures.counted records columns (subst (λ all. AreRead records columns whole all (λ rows. rows.items)) (sym c.deref.ensures.value) are)

pub returns-in_err-audited-clause-broken : goal.returns-in_err-audited-clause-broken
returns-in_err-audited-clause-broken g c records columns shows clean =
    let are = subst (λ all. AreRead records columns whole all (λ rows. rows.items)) (sym c.deref.ensures.value) (c.in_ok-all.ensures.found records columns shows clean) in
    let denied : IsDisproved c.in_err-audited.field-0.0 records columns = rows_denied records columns _ (c.in_err-audited.ensures.broken records columns are) in
    search rules

pub returns-in_err-check_crls-clause-broken : goal.returns-in_err-check_crls-clause-broken
returns-in_err-check_crls-clause-broken g c records columns shows clean =
    let old = c.args.conn.now in
    let mid = c.read_each.new.conn in
    let was_clean : HasCleanDisk (state g.S.Store mid) = omega (arith, c.check_crls.ensures.looked.survives.clean) in
    let there = looked_both c.read_each.ensures.looked records columns shows in
    let are = subst (λ all. AreRead records columns whole all (λ rows. rows.items)) (sym c.deref-2.ensures.value) (c.in_ok-all.ensures.found records columns shows was_clean) in
    let denied : IsDisproved c.in_err-check_crls.field-0.0 records columns =
    bytes_denied records columns _ (c.in_err-check_crls.ensures.rows records columns are) (λ values sound kept. c.in_err-check_crls.ensures.others records columns there are values sound kept clean) in
    search rules

pub returns-in_err-check_complete-clause-broken : goal.returns-in_err-check_complete-clause-broken
returns-in_err-check_complete-clause-broken g c records columns shows clean =
    let old = c.args.conn.now in
    let mid = c.read_each.new.conn in
    let last = c.check_crls.new.conn in
    let then_clean : HasCleanDisk (state g.S.Store last) = omega (arith, c.read_each-2.ensures.looked.survives.clean) in
    let was_clean : HasCleanDisk (state g.S.Store mid) = omega (arith, c.check_crls.ensures.looked.survives.clean) in
    let there = looked_both c.read_each.ensures.looked records columns shows in
    let then = looked_both c.check_crls.ensures.looked records columns there in
    let all = subst (λ all. AreRead records columns whole all (λ rows. rows.items)) (sym c.deref-3.ensures.value) (c.in_ok-all.ensures.found records columns shows was_clean) in
    let more = subst (λ all. AreRead records columns other_queries all (λ rows. rows.items)) (sym c.deref-4.ensures.value) (c.in_ok-more.ensures.found records columns then clean) in
    let denied : IsDisproved c.in_err-check_complete.field-0.0 records columns = not_broken_denied records columns _ (c.in_err-check_complete.ensures.broken records columns all more) in
    search rules

pub returns-in_err-check_longest_validity-clause-broken : goal.returns-in_err-check_longest_validity-clause-broken
returns-in_err-check_longest_validity-clause-broken g c records columns shows clean =
    let old = c.args.conn.now in
    let mid = c.read_each.new.conn in
    let last = c.check_crls.new.conn in
    let then_clean : HasCleanDisk (state g.S.Store last) = omega (arith, c.read_each-2.ensures.looked.survives.clean) in
    let was_clean : HasCleanDisk (state g.S.Store mid) = omega (arith, c.check_crls.ensures.looked.survives.clean) in
    let there = looked_both c.read_each.ensures.looked records columns shows in
    let then = looked_both c.check_crls.ensures.looked records columns there in
    let more = subst (λ all. AreRead records columns other_queries all (λ rows. rows.items)) (sym c.deref-5.ensures.value) (c.in_ok-more.ensures.found records columns then clean) in
    let denied : IsDisproved c.in_err-check_longest_validity.field-0.0 records columns = days_denied records columns _ (c.in_err-check_longest_validity.ensures.broken records columns more) in
    search rules

pub returns-clause-looked : goal.returns-clause-looked
returns-clause-looked g c = looked_then (looked_then c.read_each.ensures.looked c.check_crls.ensures.looked) c.read_each-2.ensures.looked

pub returns-in_err-check_complete-clause-looked : goal.returns-in_err-check_complete-clause-looked
returns-in_err-check_complete-clause-looked g c = looked_then (looked_then c.read_each.ensures.looked c.check_crls.ensures.looked) c.read_each-2.ensures.looked

pub returns-in_err-check_longest_validity-clause-looked : goal.returns-in_err-check_longest_validity-clause-looked
returns-in_err-check_longest_validity-clause-looked g c = looked_then (looked_then c.read_each.ensures.looked c.check_crls.ensures.looked) c.read_each-2.ensures.looked

pub returns-in_err-more-clause-looked : goal.returns-in_err-more-clause-looked
returns-in_err-more-clause-looked g c = looked_then (looked_then c.read_each.ensures.looked c.check_crls.ensures.looked) c.read_each-2.ensures.looked

pub returns-in_err-check_crls-clause-looked : goal.returns-in_err-check_crls-clause-looked
returns-in_err-check_crls-clause-looked g c = looked_then c.read_each.ensures.looked c.check_crls.ensures.looked
