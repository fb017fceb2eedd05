use Rattle.std.proofs.Common.{refl}
use Rattle.reg_desk_service.proofs.unsigned_responses.received_answer.Goals as goal

pub returns-in-Some-clause-given : goal.returns-in-Some-clause-given
returns-in-Some-clause-given g c =
    (c.in_ok-socket.socket.now, c.in_ok-socket.ensures, c.in-Some.ensures.given _ _ (c.if-not-is_for.ensures.0 refl))
