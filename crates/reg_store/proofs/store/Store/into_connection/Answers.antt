use Rattle.std.proofs.Common.{rules}
use Rattle.reg_store.proofs.store.Store.into_connection.Goals as goal

pub returns : goal.returns
returns g c = search rules
