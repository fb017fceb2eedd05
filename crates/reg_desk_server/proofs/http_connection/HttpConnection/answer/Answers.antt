use Rattle.std.proofs.Common.{rules}
use Rattle.reg_http_head.specs.Bytes.{collected_bytes}
use Rattle.reg_desk_server.specs.Outcomes.{outcome_of}
use Rattle.reg_desk_server.proofs.Exchanges.{handled_request}
use Rattle.reg_desk_server.proofs.http_connection.HttpConnection.answer.Goals as goal

pub returns-in-Ready-clause-exchanged : goal.returns-in-Ready-clause-exchanged
returns-in-Ready-clause-exchanged g c =
    handled_request g.H.Handler _ _ _ _ (collected_bytes c.in-Receiving.collected) (outcome_of c.in_ok-begun-in-Receiving.begun)
    c.in_ok-begun-in-Receiving.ensures.ok (search rules)

pub returns-in-Unsigned-clause-exchanged : goal.returns-in-Unsigned-clause-exchanged
returns-in-Unsigned-clause-exchanged g c =
    handled_request g.H.Handler _ _ _ _ (collected_bytes c.in-Receiving.collected) (outcome_of c.in_ok-begun-in-Receiving.begun)
    c.in_ok-begun-in-Receiving.ensures.ok (search rules)
