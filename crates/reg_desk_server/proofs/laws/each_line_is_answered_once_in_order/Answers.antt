use Rattle.reg_desk_server.proofs.WholeConnections.{any_replies, lines_answered_none, lines_answered_on, lines_answered_next, lines_answered_later}
use Rattle.reg_desk_server.proofs.laws.each_line_is_answered_once_in_order.Goals as goal

pub returns-clause-begins : goal.returns-clause-begins
returns-clause-begins g c = lines_answered_none g.S.Write.contents g.S.Read.remaining g.H.Handler.answers_lines g.L.AnswersLine.answers_line

pub returns-clause-advances : goal.returns-clause-advances
returns-clause-advances g c = lines_answered_on g.S.Write.contents g.S.Read.remaining g.H.Handler.answers_lines g.L.AnswersLine.answers_line

pub returns-clause-answers_lines : goal.returns-clause-answers_lines
returns-clause-answers_lines g c = lines_answered_next g.S.Write.contents g.S.Read.remaining g.H.Handler.answers_lines g.L.AnswersLine.answers_line

pub returns-clause-later : goal.returns-clause-later
returns-clause-later g c = lines_answered_later g.S.Write.contents g.S.Read.remaining g.H.Handler.answers_lines g.L.AnswersLine.answers_line g.H.Handler.defers

pub returns-clause-any_replies : goal.returns-clause-any_replies
returns-clause-any_replies g c = any_replies
