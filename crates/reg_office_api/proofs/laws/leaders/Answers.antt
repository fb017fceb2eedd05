-- Runs of commands only add rows, and keep records sound.
use Rattle.reg_office_api.proofs.LeaderStates.{steps_make_leader}
use Rattle.reg_office_api.proofs.laws.leaders.Goals as goal

pub returns : goal.returns
returns g c =
    λ signer. steps_make_leader (g.S.SignsCrls.signed signer) (c.headline.ensures.sound signer) (c.additions.ensures signer)
