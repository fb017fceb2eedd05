use Rattle.reg_store_tables.proofs.EnteredLemmas.{declined_page}
use Rattle.reg_store_tables.proofs.tables.Tables.declined_after.Goals as goal

pub returns : goal.returns
returns g c = rw (← c.self.view_is) (c.look_up_page.ensures _ declined_page)
