-- Each law by its lemma.
use Rattle.reg_core_laws.proofs.KeptReached.{reached_is_sound, created_reached, keeps_reached, schedules_keep_reached}
use Rattle.reg_core_laws.proofs.laws.reached.Goals as goal

pub returns-clause-is_sound : goal.returns-clause-is_sound
returns-clause-is_sound g c = λ signer. reached_is_sound (g.S.SignsCrls.signed signer)

pub returns-clause-created : goal.returns-clause-created
returns-clause-created g c = λ signer. created_reached (g.S.SignsCrls.signed signer)

pub returns-clause-kept : goal.returns-clause-kept
returns-clause-kept g c = λ signer. keeps_reached (g.S.SignsCrls.signed signer)

pub returns-clause-scheduled : goal.returns-clause-scheduled
returns-clause-scheduled g c = λ signer. schedules_keep_reached (g.S.SignsCrls.signed signer)
