use Rattle.reg_ocsp.proofs.RequestLaws.{one_reading}
use Rattle.reg_ocsp.proofs.laws.one_reading.Goals as goal

pub returns : goal.returns
returns c = one_reading
