-- What was not revoked is nowhere shown, by the headline and by where revocations come from.
use Rattle.reg_office.proofs.ShowingNothingElse.{nowhere_shown}
use Rattle.reg_office.proofs.laws.nothing_else_is_shown_as_revoked.Goals as goal

pub returns : goal.returns
returns g c = λ signer run serial not_revoked.
    nowhere_shown
    (g.S.Signer.signs)
    (g.S.Signer.identity signer)
    (c.headline.ensures.history signer)
    (λ since. c.revocations.ensures (record { signer = signer; since = since }))
    c.headline.ensures.statuses
    run
    serial
    not_revoked
