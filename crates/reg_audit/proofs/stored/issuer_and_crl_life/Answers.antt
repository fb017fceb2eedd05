use Rattle.std.proofs.Common.{ap, ◌∙◌, arith}
use Rattle.sqlite.specs.Held.{state}
use Rattle.sqlite.specs.State.{HasCleanDisk}
use Rattle.reg_core.specs.Policy.{Terms}
use Rattle.reg_store_tables.proofs.PublicLaws.{looked_then, shows_register, shows_until, stays_shows, stays_then, stays_register}
use Rattle.reg_audit.proofs.stored.issuer_and_crl_life.Goals as goal

pub returns-clause-found : goal.returns-clause-found
returns-clause-found g c records shows clean =
    let old = c.args.conn.now in
    let mid = c.issuer.new.conn in
    let was_clean : HasCleanDisk (state g.S.Store mid) = omega (arith, c.policy.ensures.looked.survives.clean) in
    let there = stays_shows g.S.Store old mid records c.issuer.ensures.looked.survives.clean (c.issuer.ensures.looked.same (shows_register g.S.Store old records shows)) shows in
    let policy = c.in_ok-policy.ensures.found records (shows_until _ there) clean in
    (c.in_ok-issuer.ensures.found records (shows_until _ shows) was_clean, c.crl_life.ensures.seconds ∙ ap (λ (terms : Terms). terms.crl_life) policy)

pub returns-clause-looked : goal.returns-clause-looked
returns-clause-looked g c = looked_then c.issuer.ensures.looked c.policy.ensures.looked

pub returns-in_err-policy-clause-looked : goal.returns-in_err-policy-clause-looked
returns-in_err-policy-clause-looked g c = looked_then c.issuer.ensures.looked c.policy.ensures.looked
