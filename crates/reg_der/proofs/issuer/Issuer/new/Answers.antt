use Rattle.reg_der.proofs.KeyIdentifiers.{name_kept}
use Rattle.reg_der.proofs.issuer.Issuer.new.Goals as goal

pub returns-then-is_name-clause-bad_name : goal.returns-then-is_name-clause-bad_name
returns-then-is_name-clause-bad_name c =
    let is = c.is_name.ensures.0 c.if-is_name.true in
    (λ bad named. c.of_stored.ensures.bad_name.0 bad (name_kept c.args.name.now named).0, λ none. absurd (none is))

pub returns-then-is_name-clause-bad_key : goal.returns-then-is_name-clause-bad_key
returns-then-is_name-clause-bad_key c =
    let is = c.is_name.ensures.0 c.if-is_name.true in
    (λ bad. (is, (c.of_stored.ensures.bad_key.0 bad).1), λ none. c.of_stored.ensures.bad_key.1 ((name_kept c.args.name.now is).0, none.1))
