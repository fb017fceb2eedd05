use Rattle.std.proofs.Common.{ap, ◌∙◌}
use Rattle.reg_core.specs.Crls.{number_after}
use Rattle.reg_store_tables.proofs.PublicLaws.{shows_until, some_then}
use Rattle.reg_office.proofs.identifiers.next_crl_number.Goals as goal

pub returns-clause-found : goal.returns-clause-found
returns-clause-found g c records shows clean =
    let latest_is = c.in_ok-latest.ensures.found records (shows_until _ shows) clean in
    some_then c.ok_or.result c.next_number_after.result _ c.ok_or.ensures.value c.next_number_after.ensures (λ number is. is ∙ ap number_after latest_is)
