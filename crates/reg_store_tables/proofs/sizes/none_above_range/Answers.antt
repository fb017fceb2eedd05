use Rattle.std.proofs.Common.{refl, arith, rules}
use Rattle.reg_store_tables.proofs.LookingUp.{passed_on, unfound}
use Rattle.reg_store_tables.proofs.Staying.{until_schema}
use Rattle.reg_store_tables.proofs.Written.{rows_few}
use Rattle.reg_store_tables.proofs.sizes.none_above_range.Goals as goal

pub returns-in_err-rows : goal.returns-in_err-rows
returns-in_err-rows g c = passed_on _ _ (search rules) (λ records written may. tt) c.in_err-rows.ensures.finds

pub returns-then-rows-number : goal.returns-then-rows-number
returns-then-rows-number g c = record {
  looked = c.held.ensures.finds.looked;
  found = λ records shows clean.
      let held = c.in_ok-rows.ensures.finds.found records shows clean in
      (refl, c.in_ok-rows.ensures.live (until_schema g.S.Store c.args.conn.now _ records shows) clean, omega arith);
  fails = λ records past written clean. tt;
}

pub returns-else-rows-number : goal.returns-else-rows-number
returns-else-rows-number g c =
    unfound _ refl c.in_ok-rows.ensures.finds (λ records past written held. let few = rows_few records written.sound written.policy c.args.table in omega arith)
