use Rattle.reg_store_tables.specs.Pages.{entered_page}
use Rattle.reg_store_tables.proofs.tables.Tables.entered_after.Goals as goal

pub returns : goal.returns
returns g c = rw (← c.self.view_is) (c.look_up_page.ensures (entered_page g.T.Entered.entered) c.entered_sql.ensures)
