-- Each revocation is shown, by the headline.
use Rattle.reg_office.proofs.ShowingRevoked.{shown_everywhere}
use Rattle.reg_office.proofs.laws.a_revoked_certificate_is_shown_as_revoked_everywhere.Goals as goal

pub returns : goal.returns
returns g c = λ signer run its.
    shown_everywhere
    (g.S.Signer.signs)
    (g.S.Signer.identity signer)
    (c.headline.ensures.lists signer)
    c.headline.ensures.statuses
    run
    its
