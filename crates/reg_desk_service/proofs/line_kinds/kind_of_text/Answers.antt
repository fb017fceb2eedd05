use Rattle.std.proofs.Common.{inl, inr}
use Rattle.reg_desk_service.proofs.line_kinds.kind_of_text.Goals as goal

pub returns-in-Some-Command : goal.returns-in-Some-Command
returns-in-Some-Command c = (_, rw c.in-Some-Command.field-0-is at c.in-Some-Command.ensures.found)

pub returns-in-Some-Query : goal.returns-in-Some-Query
returns-in-Some-Query c = inl (_, rw c.in-Some-Query.field-0-is at c.in-Some-Query.ensures.found)

pub returns-in-Some-Ocsp : goal.returns-in-Some-Ocsp
returns-in-Some-Ocsp c = inr (_, rw c.in-Some-Ocsp.field-0-is at c.in-Some-Ocsp.ensures.found)
