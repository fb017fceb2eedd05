use Rattle.std.proofs.Common.{ℕ, List, take, sym, subst}
use Rattle.reg_desk_server.specs.LineEnds.{IsLine}
use Rattle.reg_desk_server.proofs.Holdings.{first_is_line}
use Rattle.reg_desk_server.proofs.control_connection.ControlConnection.answer_deferred.Goals as goal

pub answer_deferred-requires-clause-line : goal.answer_deferred-requires-clause-line
answer_deferred-requires-clause-line g c =
    subst (λ (l : List ℕ). IsLine (take c.in-Some.end l)) (sym c.deref.ensures.value) (first_is_line _ c.in-Some.end c.in-Some.ensures.1)
