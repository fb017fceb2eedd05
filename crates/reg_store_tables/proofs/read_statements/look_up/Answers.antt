use Rattle.std.proofs.Common.{List, length, sym, ap, subst, arith, rules}
use Rattle.sqlite_value.specs.Order.{Row}
use Rattle.reg_store_tables.specs.ShownRows.{IsRowOf}
use Rattle.reg_store_tables.proofs.FailingLemmas.{few_never}
use Rattle.reg_store_tables.proofs.LookingUp.{on_ok, unread}
use Rattle.reg_store_tables.proofs.read_statements.look_up.Goals as goal

pub returns-clause-reads : goal.returns-clause-reads
returns-clause-reads g c reading =
    let asked = c.in_ok-rows.ensures.reads reading in
    let keyed = g.T.RowKind.has_valid_serial in
    record {
      looked = asked.looked;
      live = λ register clean. on_ok c.row_in.result (asked.rows register clean).is_open;
      found = λ wanted register clean shows.
          c.row_in.ensures.read wanted (subst (λ (rows : List Row). IsRowOf keyed g.T.RowKind.shown rows wanted) (sym c.deref.ensures.value) (shows c.in_ok-rows.rows.items (asked.rows register clean)));
      fails = λ wanted may register shows clean.
          let it = shows c.in_ok-rows.rows.items (asked.rows register clean) in
          let sizes = ap length c.deref.ensures.value in
          few_never _ _ c.row_in.result
          (c.row_in.ensures.has wanted (subst (λ (rows : List Row). IsRowOf (λ it. keyed it × g.T.RowKind.has_values it) g.T.RowKind.shown rows wanted) (sym c.deref.ensures.value) it.0))
          (λ more. let few = it.1 in omega arith);
    }

pub returns-in_err-rows-clause-reads : goal.returns-in_err-rows-clause-reads
returns-in_err-rows-clause-reads g c reading = unread _ _ (search rules) (c.in_err-rows.ensures.reads reading)
