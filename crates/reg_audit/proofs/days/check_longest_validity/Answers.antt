use Rattle.std.proofs.Common.{◌≡◌, ap, ◌∙◌, arith, rules}
use Rattle.sqlite_value.specs.Order.{column}
use Rattle.sqlite_value.specs.declared.value.Value.TheVariants.{Int}
use Rattle.reg_audit.specs.ReadQueries.{other_queries}
use Rattle.reg_audit.specs.ReadableValues.{HasAllowedDays}
use Rattle.reg_audit.specs.declared.sql.AuditQuery.TheVariants.{Office}
use Rattle.reg_audit.proofs.OfficeRows.{days_at, allowed_days}
use Rattle.reg_audit.proofs.days.check_longest_validity.Goals as goal

pub returns-then-has_allowed_days-clause-allowed : goal.returns-then-has_allowed_days-clause-allowed
returns-then-has_allowed_days-clause-allowed c records columns more =
    let read = c.rows_at.ensures.read records columns other_queries Office more (omega arith) in
    let at : column c.office-item.result 6 ≡ Int columns.days = days_at records columns c.rows_at.result.now c.office-item.result read (omega (arith, c.in-len1.len_at_least)) c.office-item.is in
    allowed_days columns c.office-item.result at (c.has_allowed_days.ensures.allowed c.if-has_allowed_days.true)

pub returns-clause-broken : goal.returns-clause-broken
returns-clause-broken c records columns more =
    let read = c.rows_at.ensures.read records columns other_queries Office more (omega arith) in
    let at : column c.office-item.result 6 ≡ Int columns.days = days_at records columns c.rows_at.result.now c.office-item.result read (omega (arith, c.in-len1.len_at_least)) c.office-item.is in
    let no : HasAllowedDays columns → ⊥ = λ days. (let is_allowed = c.has_allowed_days.ensures.others days.0 (at ∙ ap Int days.1) days.2 in let other = c.if-has_allowed_days.false in cc) in
    search rules
