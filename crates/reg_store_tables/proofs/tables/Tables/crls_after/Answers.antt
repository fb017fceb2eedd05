use Rattle.reg_store_tables.proofs.PageLemmas.{crls_page}
use Rattle.reg_store_tables.proofs.tables.Tables.crls_after.Goals as goal

pub returns : goal.returns
returns g c = rw (← c.self.view_is) (c.look_up_page.ensures _ crls_page)
