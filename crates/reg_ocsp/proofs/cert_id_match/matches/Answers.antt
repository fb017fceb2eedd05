use Rattle.reg_ocsp.proofs.MatchLaws.{only_match}
use Rattle.reg_ocsp.proofs.cert_id_match.matches.Goals as goal

pub returns-clause-only : goal.returns-clause-only
returns-clause-only c serial is =
    only_match c.args.id.now.serial.now c.from_der.result c.from_der.ensures.exact c.from_der.ensures.read serial is.in_range is.spelled
