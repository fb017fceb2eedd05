use Rattle.reg_store_tables.proofs.PublicLaws.{by_finding}
use Rattle.reg_office_reads.proofs.register_state.last_in.Goals as goal

pub returns-clause-looks : goal.returns-clause-looks
returns-clause-looks g c = by_finding c.in_ok-last.ensures
