use Rattle.reg_desk_server.proofs.Gatherings.{kept_is_no_end, kept_waits_not}
use Rattle.reg_desk_server.proofs.control_connection.gather.Goals as goal

pub returns-in-Ok-clause-ends : goal.returns-in-Ok-clause-ends
returns-in-Ok-clause-ends g c room = kept_is_no_end g.R.Source.failed (g.R.Read.remaining c.try_read.new.self) c.keep_bytes.result c.keep_bytes.ensures.goes

pub returns-in-Ok-clause-waits : goal.returns-in-Ok-clause-waits
returns-in-Ok-clause-waits g c blocked = absurd (kept_waits_not c.keep_bytes.result c.keep_bytes.ensures.goes blocked)
