use Rattle.std.proofs.Common.{◌≡◌, ◌++◌, List, ℕ, ap, arith, sym, subst, ◌∙◌}
use Rattle.std.proofs.lemmas.List.{append_assoc}
use Rattle.reg_core.specs.Issuer as core
use Rattle.reg_core.specs.Label.{IsLabel}
use Rattle.reg_der.specs.Authority.{IsIssuer, after_name, identifier_value, name_in, earlier_identifiers, with_identifier}
use Rattle.reg_der.proofs.KeyIdentifiers.{identifiers_follow}
use Rattle.reg_der.proofs.issuer.Issuer.with_key_identifier.Goals as goal

-- what is kept with one key identifier more, over the same text, in the order of its definition
named : (made kept octets was : List ℕ) (own : List ℕ) (first : ℕ) → made ≡ (name_in kept ++ identifier_value first octets) ++ earlier_identifiers first (after_name kept) → kept ≡ was → octets ≡ own
    → made ≡ name_in was ++ (identifier_value first own ++ earlier_identifiers first (after_name was))
named made kept octets was own first is same octets_are =
    is ∙ (λ i. (name_in (same i) ++ identifier_value first (octets_are i)) ++ earlier_identifiers first (after_name (same i)))
    ∙ append_assoc (name_in was) (identifier_value first own) (earlier_identifiers first (after_name was))

pub returns-in_err-name-clause-follows : goal.returns-in_err-name-clause-follows
returns-in_err-name-clause-follows c =
    identifiers_follow c.args.self.now c.args.first c.args.octets (subst IsIssuer c.self.view_is c.self.invariant) (omega (arith, c.ranges.first.fits)) (subst IsLabel c.as_bytes.ensures.bytes c.as_bytes.ensures.label)

pub returns-in_err-key-clause-follows : goal.returns-in_err-key-clause-follows
returns-in_err-key-clause-follows c =
    identifiers_follow c.args.self.now c.args.first c.args.octets (subst IsIssuer c.self.view_is c.self.invariant) (omega (arith, c.ranges.first.fits)) (subst IsLabel c.as_bytes.ensures.bytes c.as_bytes.ensures.label)

pub returns-clause-follows : goal.returns-clause-follows
returns-clause-follows c =
    identifiers_follow c.args.self.now c.args.first c.args.octets (subst IsIssuer c.self.view_is c.self.invariant) (omega (arith, c.ranges.first.fits)) (subst IsLabel c.as_bytes.ensures.bytes c.as_bytes.ensures.label)

pub invariant_of-result : goal.invariant_of-result
invariant_of-result c =
    let follows = identifiers_follow c.args.self.now c.args.first c.args.octets (subst IsIssuer c.self.view_is c.self.invariant) (omega (arith, c.ranges.first.fits)) (subst IsLabel c.as_bytes.ensures.bytes c.as_bytes.ensures.label) in
    let kept : c.deref.result.now ≡ c.args.self.now.name = c.deref.ensures.value ∙ ap (λ (it : core.Issuer). it.name) c.self.view_is in
    let key : c.in_ok-key.key.items ≡ c.args.self.now.key = c.in_ok-key.ensures ∙ c.deref-2.ensures.value ∙ ap (λ (it : core.Issuer). it.key) c.self.view_is in
    let name : c.in_ok-name.name.items ≡ (with_identifier c.args.self.now c.args.first c.args.octets).name = named _ _ _ _ _ c.args.first c.in_ok-name.ensures kept c.as_bytes.ensures.bytes in
    subst IsIssuer (λ i. record { name = sym name i; key = sym key i }) follows.within

pub returns-clause-ok : goal.returns-clause-ok
returns-clause-ok c =
    let kept : c.deref.result.now ≡ c.args.self.now.name = c.deref.ensures.value ∙ ap (λ (it : core.Issuer). it.name) c.self.view_is in
    let key : c.in_ok-key.key.items ≡ c.args.self.now.key = c.in_ok-key.ensures ∙ c.deref-2.ensures.value ∙ ap (λ (it : core.Issuer). it.key) c.self.view_is in
    let name : c.in_ok-name.name.items ≡ (with_identifier c.args.self.now c.args.first c.args.octets).name = named _ _ _ _ _ c.args.first c.in_ok-name.ensures kept c.as_bytes.ensures.bytes in
    λ i. record { name = name i; key = key i }
