use Rattle.std.proofs.Common.{rules}
use Rattle.reg_office_reads.proofs.Beginning.{failed_counts, failed_over}
use Rattle.reg_office_reads.proofs.ocsp_answer.respond.Goals as goal

pub returns-in-None-clause-responds : goal.returns-in-None-clause-responds
returns-in-None-clause-responds g c = failed_over g.S.Signer.signs _ c.args.message.now c.refused.result c.refused.ensures

pub returns-in-None-clause-counts : goal.returns-in-None-clause-counts
returns-in-None-clause-counts g c = failed_counts _ c.refused.result _ _ (search rules) c.refused.ensures
