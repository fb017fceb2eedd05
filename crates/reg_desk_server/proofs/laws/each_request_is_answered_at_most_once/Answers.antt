use Rattle.reg_desk_server.specs.Connections.{FinishesInSomeState}
use Rattle.reg_desk_server.specs.Stages.{Answering, Finishing, KeepsReceived}
use Rattle.reg_desk_server.proofs.WholeConnections.{answering_on, finishes_once, finishing_on, keeping_on, served_by, served_none, served_on}
use Rattle.reg_desk_server.proofs.laws.each_request_is_answered_at_most_once.Goals as goal

pub returns-clause-begins : goal.returns-clause-begins
returns-clause-begins g c = served_none g.S.Write.contents g.S.Read.remaining g.H.Handler

pub returns-clause-advances : goal.returns-clause-advances
returns-clause-advances g c = served_on g.S.Write.contents g.S.Read.remaining g.H.Handler

pub returns-clause-answers : goal.returns-clause-answers
returns-clause-answers g c = λ s t.
    served_by g.S.Write.contents g.S.Read.remaining g.H.Handler (Answering g.H.Handler.answers s t)
    (answering_on g.H.Handler.answers (FinishesInSomeState g.H.Handler.finishes) s t)

pub returns-clause-finishes : goal.returns-clause-finishes
returns-clause-finishes g c = λ s.
    served_by g.S.Write.contents g.S.Read.remaining g.H.Handler (Finishing (g.H.Handler.finishes s))
    (λ before after arrived gone ended ended' once step ends.
    finishing_on g.H.Handler.answers (FinishesInSomeState g.H.Handler.finishes) before after arrived gone ended ended' once
    (finishes_once g.H.Handler.finishes s before after step) ends)

pub returns-clause-faults : goal.returns-clause-faults
returns-clause-faults g c =
    served_by g.S.Write.contents g.S.Read.remaining g.H.Handler KeepsReceived
    (keeping_on g.H.Handler.answers (FinishesInSomeState g.H.Handler.finishes))
