use Rattle.reg_desk_service.proofs.ControlLines.{meaning_in_fields}
use Rattle.reg_desk_service.proofs.follow_desk.FollowDesk.refuse.Goals as goal

pub returns-clause-reply : goal.returns-clause-reply
returns-clause-reply g c = meaning_in_fields _ _ _ _ (rw (c.as_bytes.ensures.bytes, c.line.ensures) at c.line-reply.ensures)
