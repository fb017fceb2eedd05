use Rattle.std.proofs.Common.{sym, ap, ◌∙◌}
use Rattle.sqlite_value.specs.Order.{Row, column}
use Rattle.reg_store_tables.proofs.Taking.{same_row}
use Rattle.reg_store_tables.proofs.office.issuer_of.Goals as goal

pub returns-in_err-only-clause-has : goal.returns-in_err-only-clause-has
returns-in_err-only-clause-has c issuer is rows = absurd (c.in_err-only.ensures.others _ (c.deref.ensures.value ∙ rows))

pub returns-clause-read : goal.returns-clause-read
returns-clause-read c issuer rows =
    let row = same_row (sym c.deref.ensures.value ∙ c.in_ok-only.ensures.found) rows in
    c.issuer_in.ensures.read issuer (ap (λ (r : Row). column r 0) row) (ap (λ (r : Row). column r 1) row)

pub returns-clause-has : goal.returns-clause-has
returns-clause-has c issuer is rows =
    let row = same_row (sym c.deref.ensures.value ∙ c.in_ok-only.ensures.found) rows in
    c.issuer_in.ensures.has issuer is (ap (λ (r : Row). column r 0) row) (ap (λ (r : Row). column r 1) row)
