use Rattle.std.proofs.Common.{ap, subst, ◌∙◌}
use Rattle.sqlite.specs.Held.{state}
use Rattle.reg_der.specs.Authority.{HasIdentifier, with_identifier}
use Rattle.reg_store_tables.proofs.PublicLaws.{looked_then, shown_on, shows_until, was_clean}
use Rattle.reg_office.proofs.identifiers.identified.Goals as goal

pub returns-in-Ok-clause-found : goal.returns-in-Ok-clause-found
returns-in-Ok-clause-found g c records shows clean =
    let s = g.C.Store in
    let there = shown_on s c.args.tables.now c.next_crl_number.new.tables records c.next_crl_number.ensures.looked.survives.clean c.next_crl_number.ensures.looked.same shows in
    let clean_1 = was_clean (state s c.next_crl_number.new.tables) (state s c.issuer.new.self) c.issuer.ensures.looked.survives.clean clean in
    let first_is = c.in_ok-first.ensures.found records shows clean_1 in
    let issuer_is = c.in_ok-issuer.ensures.found records (shows_until _ there) clean in
    c.in-Ok.ensures.ok ∙ ap (λ i. with_identifier i c.in_ok-first.first c.args.octets) issuer_is ∙ ap (λ n. with_identifier records.issuer n c.args.octets) first_is

pub returns-in-Ok-clause-follows : goal.returns-in-Ok-clause-follows
returns-in-Ok-clause-follows g c records shows clean =
    let s = g.C.Store in
    let there = shown_on s c.args.tables.now c.next_crl_number.new.tables records c.next_crl_number.ensures.looked.survives.clean c.next_crl_number.ensures.looked.same shows in
    let clean_1 = was_clean (state s c.next_crl_number.new.tables) (state s c.issuer.new.self) c.issuer.ensures.looked.survives.clean clean in
    let first_is = c.in_ok-first.ensures.found records shows clean_1 in
    let issuer_is = c.in_ok-issuer.ensures.found records (shows_until _ there) clean in
    subst (λ n. HasIdentifier records.issuer n c.args.octets) first_is (subst (λ i. HasIdentifier i c.in_ok-first.first c.args.octets) issuer_is c.with_key_identifier.ensures.follows)

pub returns-in_err-issuer-clause-looked : goal.returns-in_err-issuer-clause-looked
returns-in_err-issuer-clause-looked g c = looked_then c.next_crl_number.ensures.looked c.issuer.ensures.looked

pub returns-in-Ok-clause-looked : goal.returns-in-Ok-clause-looked
returns-in-Ok-clause-looked g c = looked_then c.next_crl_number.ensures.looked c.issuer.ensures.looked

pub returns-clause-looked : goal.returns-clause-looked
returns-clause-looked g c = looked_then c.next_crl_number.ensures.looked c.issuer.ensures.looked
