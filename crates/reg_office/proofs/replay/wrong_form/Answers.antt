use Rattle.std.proofs.lemmas.Result.{IfOk-weaker}
use Rattle.reg_office.proofs.BeforeKey.{digest_of}
use Rattle.reg_office.proofs.replay.wrong_form.Goals as goal

pub returns-then-has_digest-clause-digest : goal.returns-then-has_digest-clause-digest
returns-then-has_digest-clause-digest g c = λ is. IfOk-weaker c.wrong_octets.result _ _ (λ wrong holds none. digest_of _ _ (holds none)) c.wrong_octets.ensures
