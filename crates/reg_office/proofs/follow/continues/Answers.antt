use Rattle.std.proofs.Common.{◌≡◌, refl, sym, ap, ◌∙◌}
use Rattle.reg_core.specs.Issuer.{Issuer}
use Rattle.reg_der.specs.Authority.{key_identifier_at, name_of}
use Rattle.reg_office.proofs.FollowLookUps.{same_issuers}
use Rattle.reg_office.proofs.follow.continues.Goals as goal

pub returns-then-same_stored_name : goal.returns-then-same_stored_name
returns-then-same_stored_name c =
    let own = c.args.own.now in
    let given = c.args.given.now in
    let key : given.key ≡ own.key = sym c.key-2.ensures.key ∙ sym (c.same_octets-same_key.ensures.0 c.if-not-same_key.false) ∙ c.key.ensures.key in
    let stored : given.name ≡ own.name =
    sym c.stored_name-2.ensures.stored_name ∙ sym (c.same_octets-same_stored_name.ensures.0 c.if-same_stored_name.true) ∙ c.stored_name.ensures.stored_name in
    let same : given ≡ own = same_issuers own given stored key in
    (λ is. (ap name_of same, key, λ number one within. ap (λ (it : Issuer). key_identifier_at it number) same), λ same_as. refl)

pub returns : goal.returns
returns c =
    let own = c.args.own.now in
    let given = c.args.given.now in
    let key : given.key ≡ own.key = sym c.key-2.ensures.key ∙ sym (c.same_octets-same_key.ensures.0 c.if-not-same_key.false) ∙ c.key.ensures.key in
    let name : name_of given ≡ name_of own = sym c.name-2.ensures.name ∙ sym (c.same_octets-same_name.ensures.0 c.if-not-same_name.false) ∙ c.name.ensures.name in
    (λ is. (name, key, c.has_same_identifiers.ensures.0 is), λ same_as. c.has_same_identifiers.ensures.1 same_as.2)
