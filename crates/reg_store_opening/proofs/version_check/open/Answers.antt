use Rattle.std.proofs.Common.{◌≡◌, Some, inl, inr, Err, ap, sym, subst, ◌∙◌}
use Rattle.sqlite.specs.Held.{state}
use Rattle.reg_store_migration.specs.Older.{older_schema}
use Rattle.reg_store_tables.specs.declared.fault.StoreFault.TheVariants.{NotARegister}
use Rattle.reg_store_tables.proofs.PublicLaws.{stays_then, moving-was_clean as was_clean}
use Rattle.reg_store_opening.specs.Examined.{HasVersionAndOffice, IsFoundOf}
use Rattle.reg_store_opening.specs.Opens.{IsFailedOpen}
use Rattle.reg_store_opening.proofs.Newer.{newer_survives, opens_current, opens_newer}
use Rattle.reg_store_opening.proofs.Others.{current_there, older_said, older_there, others_there, never_shown, same_schema, same_register}
use Rattle.reg_store_opening.proofs.Unopened.{err_as, fails_to_open, refuses}
use Rattle.reg_store_opening.proofs.version_check.open.Goals as goal

pub returns-in_err-found-clause-unopened : goal.returns-in_err-found-clause-unopened
returns-in_err-found-clause-unopened g c =
    let s = g.S.Store in
    let old = c.args.conn.now in
    let mid = c.examine.new.conn in
    let why = c.in_err-found.field-0.0 in
    let examined = c.in_err-found.ensures in
    err_as (IsFailedOpen s old mid) (λ fault. fault ≡ why) c.from_residual.result c.from_residual.ensures.1 (λ fault is. subst (IsFailedOpen s old mid) (sym is)
    (refuses s old mid why c.examine.ensures.same c.examine.ensures.survives (λ version records within shows clean. examined.shown version records shows clean within) (λ clean newer. examined.newer clean (ap Err newer))
    (λ clean none. inl (examined.none clean (ap Err none))) examined.faults))

pub returns-in_err-check_schema-clause-unopened : goal.returns-in_err-check_schema-clause-unopened
returns-in_err-check_schema-clause-unopened g c =
    let s = g.S.Store in
    let old = c.args.conn.now in
    let mid = c.examine.new.conn in
    let db = (state s old).now in
    let found = c.in_ok-found.ensures in
    let why = c.in_err-check_schema.field-0.0 in
    let other = c.in_err-check_schema.ensures.err in
    err_as (IsFailedOpen s old mid) (λ fault. fault ≡ why) c.from_residual-in_err-check_schema.result c.from_residual-in_err-check_schema.ensures.1 (λ fault is. subst (IsFailedOpen s old mid) (sym (is ∙ other.0))
    (refuses s old mid NotARegister c.examine.ensures.same c.examine.ensures.survives
    (λ version records within shows clean.
    let shown = shows.tables (was_clean (state s old) (state s mid) c.examine.ensures.survives.clean clean) (found.live clean) in
    absurd (never_shown db c.in-Ok.of_schema c.in-Ok.ensures.tables c.in_ok-found.found other.1 version records (found.shown version records shows clean) shown))
    (λ clean newer. absurd (let bad : ⊥ = cc in bad)) (λ clean none. inr (others_there db c.in-Ok.of_schema c.in-Ok.ensures.tables c.in_ok-found.found other.1 (found.ok clean))) (λ filled. let bad : ⊥ = cc in bad)))

pub returns-in_err-migrate-in-Some-clause-unopened : goal.returns-in_err-migrate-in-Some-clause-unopened
returns-in_err-migrate-in-Some-clause-unopened g c =
    let s = g.S.Store in
    let old = c.args.conn.now in
    let mid = c.examine.new.conn in
    let new = c.migrate.new.conn in
    let older = c.in-Some.older in
    let found = c.in_ok-found.ensures in
    let done = c.in_err-migrate-in-Some.ensures.commits in
    let fault = c.from_residual-in_err-migrate-in-Some in
    err_as (IsFailedOpen s old new) _ fault.result fault.ensures.1 (λ why is.
    fails_to_open s old new why is.1 (stays_then (state s old) (state s mid) (state s new) done.survives.clean c.examine.ensures.same done.stays)
    (newer_survives c.examine.ensures.survives c.examine.ensures.same older
    (λ clean. older_said (state s old).now c.in-Ok.of_schema c.in-Ok.ensures.tables c.in_ok-found.found c.in_ok-check_schema.ensures.ok older c.in-Some.is (found.ok clean))
    (λ version records shows clean. subst (IsFoundOf version records) c.in-Some.is (found.shown version records shows clean)) done))

pub returns-in-None-clause-opens : goal.returns-in-None-clause-opens
returns-in-None-clause-opens g c =
    let s = g.S.Store in
    let old = state s c.args.conn.now in
    let mid = state s c.examine.new.conn in
    let found = c.in_ok-found.ensures in
    let schema = current_there old.now c.in-Ok.of_schema c.in-Ok.ensures.tables c.in_ok-found.found c.in_ok-check_schema.ensures.ok c.in-None.is in
    opens_current c.examine.ensures.survives c.examine.ensures.same (same_register old mid c.examine.ensures.same c.schema_version.ensures.settled schema) (λ clean. subst (HasVersionAndOffice old.now) c.in-None.is (found.ok clean))
    (λ version records shows clean. subst (IsFoundOf (Some version) records) c.in-None.is (found.shown (Some version) records shows clean))

pub returns-in_ok-migrate-in-Some-clause-opens : goal.returns-in_ok-migrate-in-Some-clause-opens
returns-in_ok-migrate-in-Some-clause-opens g c =
    let s = g.S.Store in
    let old = state s c.args.conn.now in
    let mid = state s c.examine.new.conn in
    let older = c.in-Some.older in
    let found = c.in_ok-found.ensures in
    let schema = older_there old.now c.in-Ok.of_schema c.in-Ok.ensures.tables c.in_ok-found.found c.in_ok-check_schema.ensures.ok older c.in-Some.is in
    opens_newer c.examine.ensures.survives c.examine.ensures.same older
    (λ clean. older_said old.now c.in-Ok.of_schema c.in-Ok.ensures.tables c.in_ok-found.found c.in_ok-check_schema.ensures.ok older c.in-Some.is (found.ok clean))
    (λ version records shows clean. subst (IsFoundOf version records) c.in-Some.is (found.shown version records shows clean))
    (record { saved = c.examine.ensures.saved; tables = same_schema old mid c.examine.ensures.same c.schema_version.ensures.settled (older_schema older.version) schema })
    c.in_ok-migrate-in-Some.ensures.commits
