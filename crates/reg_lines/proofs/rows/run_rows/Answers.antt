use Rattle.reg_lines.proofs.rows.run_rows.Goals as goal

pub returns : goal.returns
returns g c = c.run_each.ensures c.args.text.now c.rows_of-rows.ensures.reads
