-- The laws of the headline, each by its lemma.
use Rattle.reg_core_laws.proofs.Counted.{counts_move_exactly, stands_in_exactly_one}
use Rattle.reg_core_laws.proofs.Runs.{created_sound, keeps_sound, runs_in_parts, refusals_change_nothing}
use Rattle.reg_core_laws.proofs.RevocationsOnCrls.{lists_revoked}
use Rattle.reg_core_laws.proofs.laws.headline.Goals as goal

pub returns-clause-created : goal.returns-clause-created
returns-clause-created g c = λ signer. created_sound (g.S.SignsCrls.signed signer)

pub returns-clause-sound : goal.returns-clause-sound
returns-clause-sound g c = λ signer. keeps_sound (g.S.SignsCrls.signed signer)

pub returns-clause-parts : goal.returns-clause-parts
returns-clause-parts g c = λ signer. runs_in_parts (g.S.SignsCrls.signed signer)

pub returns-clause-exactly_one : goal.returns-clause-exactly_one
returns-clause-exactly_one g c = λ signer. stands_in_exactly_one (g.S.SignsCrls.signed signer)

pub returns-clause-counts : goal.returns-clause-counts
returns-clause-counts g c = λ signer. counts_move_exactly (g.S.SignsCrls.signed signer)

pub returns-clause-lists : goal.returns-clause-lists
returns-clause-lists g c = λ signer. lists_revoked (g.S.SignsCrls.signed signer)

pub returns-clause-refused : goal.returns-clause-refused
returns-clause-refused g c = λ signer. refusals_change_nothing (g.S.SignsCrls.signed signer)
