use Rattle.std.proofs.Common.{ap, arith, ◌∙◌, rules}
use Rattle.std.specs.Prelude.{nat_lt}
use Rattle.std.specs.List.{filter}
use Rattle.reg_core.specs.Due.{earliest}
use Rattle.reg_core.specs.declared.rows.RevocationRow.{RevocationRow}
use Rattle.reg_store_tables.proofs.LookingUp.{finds_then, passed_on}
use Rattle.reg_store_tables.proofs.Staying.{shown_second}
use Rattle.reg_store_tables.proofs.UnlistedLemmas.{unlisted_is}
use Rattle.reg_store_tables.proofs.Written.{rows_few}
use Rattle.reg_store_tables.specs.declared.sizes.Table.TheVariants.{Crls}
use Rattle.reg_store_tables.proofs.tables.Tables.earliest_unlisted.Goals as goal

pub returns-in_err-latest : goal.returns-in_err-latest
returns-in_err-latest g c = rw (← c.self.view_is) (passed_on _ _ (search rules) (λ records written may. may) c.in_err-latest.ensures.finds)

pub returns : goal.returns
returns g c =
    rw (← c.self.view_is) (finds_then c.in_ok-latest.ensures.finds c.earliest_above.ensures
    (λ records written latest may. let few = rows_few records written.sound written.policy Crls in omega arith)
    (λ records shows clean latest at known.
    let shown = (shown_second c.in_ok-latest.ensures.finds.looked c.earliest_above.ensures.looked records shows).tables clean known.0 in
    known.1 ∙ ap (λ n. earliest (filter (λ (row : RevocationRow). nat_lt n row.first) records.revocations)) latest ∙ ap earliest (unlisted_is records shown.rows.crls_numbered)))
