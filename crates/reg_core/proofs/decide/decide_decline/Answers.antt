-- A declined request is the one that can be settled, with the mark.
use Rattle.reg_core.proofs.Decided.{settles_declined}
use Rattle.reg_core.proofs.decide.decide_decline.Goals as goal

pub returns : goal.returns
returns c =
    settles_declined
    c.args.head.now
    c.args.request
    c.args.certificate
    c.args.revocation
    c.in_ok-request.request
    c.in_ok-request.ensures
