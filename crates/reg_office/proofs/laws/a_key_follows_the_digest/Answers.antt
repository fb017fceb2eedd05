-- Each CRL with the placeholder digest is older than the next CRL.
use Rattle.reg_office.proofs.Following.{follows_digest}
use Rattle.reg_office.proofs.laws.a_key_follows_the_digest.Goals as goal

pub returns : goal.returns
returns g c = λ held digest identity records is_digest stands. record {
  shown = stands.shown;
  sound = follows_digest g.S.Signer.signs digest is_digest identity records stands.sound;
}
