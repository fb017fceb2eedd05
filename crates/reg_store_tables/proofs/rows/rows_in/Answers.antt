use Rattle.std.proofs.Common.{refl}
use Rattle.reg_store_tables.proofs.Taking.{more_read, none_read}
use Rattle.reg_store_tables.proofs.rows.rows_in.Goals as goal

pub loop-row-preserved : goal.loop-row-preserved
loop-row-preserved g c shown all are =
    more_read g.T.RowKind.has_valid_serial g.T.RowKind.shown shown all c.args.rows.now c.args.rows.now c.loop-row.found.items c.push.new.self.items c.loop-row.row-index c.row-item.result
    c.in-Some.it are refl c.loop-row-test.true c.row-item.is (c.loop-row.invariant shown all are) c.in_ok-push-in-Some.ensures.items
    (λ it keyed is. c.in-Some.ensures.read it keyed is)

pub returns-in-None-clause-has : goal.returns-in-None-clause-has
returns-in-None-clause-has g c shown keyed values are =
    absurd (none_read g.T.RowKind.has_valid_serial g.T.RowKind.has_values g.T.RowKind.shown shown keyed values c.args.rows.now c.args.rows.now c.loop-row.row-index c.row-item.result
    are refl c.loop-row-test.true c.row-item.is
    (λ it key value is. let there = c.in-None.ensures.has it key value is in let no : ⊥ = cc in no))
