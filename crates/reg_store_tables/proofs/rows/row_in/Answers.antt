use Rattle.std.proofs.Common.{Some, ap, ◌∙◌, arith}
use Rattle.reg_store_tables.proofs.Taking.{one_item}
use Rattle.reg_store_tables.proofs.rows.row_in.Goals as goal

pub returns-in-Some-clause-read : goal.returns-in-Some-clause-read
returns-in-Some-clause-read g c wanted is =
    let one = one_item c.args.rows.now c.row-item.result (omega arith) (omega arith) c.row-item.is in
    let found = is.one c.row-item.result one in
    ap (λ (it : g.row.T-Record.Denot). Some it) (c.in-Some.ensures.read found.it found.holds found.shown) ∙ found.first

pub returns-in-None-clause-has : goal.returns-in-None-clause-has
returns-in-None-clause-has g c wanted is =
    let one = one_item c.args.rows.now c.row-item.result (omega arith) (omega arith) c.row-item.is in
    let found = is.one c.row-item.result one in
    let there = c.in-None.ensures.has found.it found.holds.0 found.holds.1 found.shown in
    absurd (let no : ⊥ = cc in no)
