use Rattle.std.proofs.Common.{sym}
use Rattle.reg_office.proofs.crls.signature_of.Goals as goal

pub returns-clause-signed : goal.returns-clause-signed
returns-clause-signed g c = rw (sym c.reset_backoff.ensures.same_identity) c.sign.ensures.signed
