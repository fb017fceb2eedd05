use Rattle.reg_lines.proofs.row_lines.lines_of_text.Goals as goal

pub returns-in-Ok : goal.returns-in-Ok
returns-in-Ok c = c.in-Ok.ensures c.args.text.now c.rows_of-rows.ensures.reads
