use Rattle.std.proofs.Common.{◌≡◌, arith, subst}
use Rattle.std.proofs.lemmas.List.{take_all}
use Rattle.sqlite.specs.Held.{state}
use Rattle.sqlite.specs.State.{HasCleanDisk}
use Rattle.reg_store_tables.proofs.PublicLaws.{looked_both, looked_then, stays_holds}
use Rattle.reg_audit.specs.ReadQueries.{IsReadOf, IsReadFrom, AreRead, AreReadFrom}
use Rattle.reg_audit.specs.declared.sql.AuditQuery.TheVariants.{Office}
use Rattle.reg_audit.proofs.Whole.{are_more, holds_register}
use Rattle.reg_audit.proofs.whole_tables.read_each.Goals as goal

pub loop-query-preserved : goal.loop-query-preserved
loop-query-preserved g c =
    let before = state g.S.Store c.loop-query.conn in
    record {
      looked = looked_then c.loop-query.invariant.looked c.read_whole.ensures.looked;
      found = λ records columns shows clean.
          let was_clean : HasCleanDisk before = omega (arith, c.read_whole.ensures.looked.survives.clean) in
          let mid = looked_both c.loop-query.invariant.looked records columns shows in
          are_more (IsReadOf records columns) (λ rows. rows.items) c.args.queries.now c.loop-query.query-index Office c.loop-query.all.items c.push.new.self.items c.in_ok-rows.rows c.loop-query-test.true
          (c.loop-query.invariant.found records columns shows was_clean) (c.in_ok-rows.ensures.found records columns mid clean) c.in_ok-push.ensures.items;
      from = λ db holds schema clean.
          let was_clean : HasCleanDisk before = omega (arith, c.read_whole.ensures.looked.survives.clean) in
          let register = holds_register g.S.Store c.args.conn.now db holds schema in
          let mid = stays_holds g.S.Store c.args.conn.now c.loop-query.conn (λ now. now ≡ db) c.loop-query.invariant.looked.survives.clean (c.loop-query.invariant.looked.same register) holds in
          are_more (IsReadFrom db) (λ rows. rows.items) c.args.queries.now c.loop-query.query-index Office c.loop-query.all.items c.push.new.self.items c.in_ok-rows.rows c.loop-query-test.true
          (c.loop-query.invariant.from db holds schema was_clean) (c.in_ok-rows.ensures.from db mid schema clean) c.in_ok-push.ensures.items;
    }

pub returns-clause-found : goal.returns-clause-found
returns-clause-found g c records columns shows clean =
    subst (λ queries. AreRead records columns queries c.loop-query.all.items (λ rows. rows.items)) (take_all c.loop-query.query-index c.args.queries.now c.loop-query-test.false)
    (c.loop-query.invariant.found records columns shows clean)

pub returns-clause-from : goal.returns-clause-from
returns-clause-from g c db holds schema clean =
    subst (λ queries. AreReadFrom db queries c.loop-query.all.items (λ rows. rows.items)) (take_all c.loop-query.query-index c.args.queries.now c.loop-query-test.false)
    (c.loop-query.invariant.from db holds schema clean)

pub returns-in_err-rows-clause-looked : goal.returns-in_err-rows-clause-looked
returns-in_err-rows-clause-looked g c = looked_then c.loop-query.invariant.looked c.read_whole.ensures.looked

pub returns-in_err-push-clause-looked : goal.returns-in_err-push-clause-looked
returns-in_err-push-clause-looked g c = looked_then c.loop-query.invariant.looked c.read_whole.ensures.looked
