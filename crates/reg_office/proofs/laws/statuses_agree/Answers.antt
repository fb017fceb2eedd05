use Rattle.reg_office.proofs.Agreeing.{ocsp_agrees}
use Rattle.reg_office.proofs.laws.statuses_agree.Goals as goal

pub returns : goal.returns
returns c = ocsp_agrees
