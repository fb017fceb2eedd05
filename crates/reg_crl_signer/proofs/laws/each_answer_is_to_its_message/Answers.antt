use Rattle.reg_crl_signer.proofs.PersistentConnections.{exchanged_none, received_on, sent_one_more, took_one_more}
use Rattle.reg_crl_signer.proofs.laws.each_answer_is_to_its_message.Goals as goal

pub returns-clause-begins : goal.returns-clause-begins
returns-clause-begins g c = exchanged_none g.S.Write.contents g.S.Read.remaining

pub returns-clause-receives : goal.returns-clause-receives
returns-clause-receives g c = received_on g.S.Write.contents g.S.Read.remaining

pub returns-clause-sends : goal.returns-clause-sends
returns-clause-sends g c = sent_one_more g.S.Write.contents g.S.Read.remaining

pub returns-clause-takes : goal.returns-clause-takes
returns-clause-takes g c = took_one_more g.S.Write.contents g.S.Read.remaining
