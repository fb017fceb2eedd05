-- A revocation follows from the request that can be settled.
use Rattle.reg_core.proofs.Decided.{settles_revoked}
use Rattle.reg_core.proofs.decide.decide_revoke.Goals as goal

pub returns : goal.returns
returns c =
    rw (c.next_number.ensures, c.reason.ensures.reason, c.limit_secs.ensures.limit, c.secs-2.ensures.value, c.secs.ensures.value)
    (settles_revoked
    c.args.head.now
    c.args.request
    c.args.certificate
    c.args.revocation
    c.args.latest
    c.in_ok-request.request
    c.in_ok-request.ensures)
