use Rattle.reg_lines.proofs.RowLineTexts.{lists_unread, lists_text}
use Rattle.reg_lines.proofs.row_lines.lines_of_rows.Goals as goal

pub returns-in-Ok : goal.returns-in-Ok
returns-in-Ok g c =
    lists_text g.R.Source.failed (g.R.Read.remaining c.args.reader.now) _ c.in-Ok.text.items c.lines_of_text.result c.in-Ok.ensures (rw c.deref.ensures.value at c.lines_of_text.ensures)

pub returns-in-Err : goal.returns-in-Err
returns-in-Err g c = lists_unread g.R.Source.failed (g.R.Read.remaining c.args.reader.now) _ c.in-Err.fault c.in-Err.ensures
