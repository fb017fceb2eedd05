use Rattle.std.proofs.Common.{arith, rules}
use Rattle.reg_audit.specs.ReadQueries.{whole, other_queries}
use Rattle.reg_audit.specs.Faults.{EndsAtBrokenRow}
use Rattle.reg_audit.specs.declared.sql.AuditQuery.TheVariants.{Office}
use Rattle.reg_audit.proofs.Completed.{some_shown}
use Rattle.reg_audit.proofs.CountedRows.{subscribers_counted, orders_counted, certificates_counted, requests_counted, revocations_counted, crls_counted, letters_counted, listings_counted}
use Rattle.reg_audit.proofs.Gathered.{on_both}
use Rattle.reg_audit.proofs.TableRows.{subscribers_hold, orders_hold, certificates_hold, requests_hold, revocations_hold, crls_hold, letters_hold, listings_hold}
use Rattle.reg_audit.proofs.complete.check_complete.Goals as goal

pub returns-clause-shown : goal.returns-clause-shown
returns-clause-shown c db are all more =
    let office = c.in_ok-check_office.ensures.hold db are (c.rows_at.ensures.from db other_queries Office more (omega arith)) (c.rows_at-2.ensures.from db other_queries Office more (omega arith)) in
    let subscribers = subscribers_hold db are c.rows_at-3.result.now (c.rows_at-3.ensures.from db whole Office all (omega arith)) c.in_ok-check_by_id.ensures.counted c.in_ok-check_by_id.ensures.stand in
    let orders = orders_hold db are c.rows_at-4.result.now (c.rows_at-4.ensures.from db whole Office all (omega arith)) c.in_ok-check_by_id-2.ensures.counted c.in_ok-check_by_id-2.ensures.stand in
    let certificates = certificates_hold db are c.rows_at-5.result.now c.rows_at-6.result.now (c.rows_at-5.ensures.from db whole Office all (omega arith)) (c.rows_at-6.ensures.from db other_queries Office more (omega arith)) c.in_ok-check_by_rowid.ensures.counted c.in_ok-check_by_rowid.ensures.stand in
    let requests = requests_hold db are c.rows_at-7.result.now (c.rows_at-7.ensures.from db whole Office all (omega arith)) c.in_ok-check_by_id-3.ensures.counted c.in_ok-check_by_id-3.ensures.stand in
    let revocations = revocations_hold db are c.rows_at-8.result.now c.rows_at-9.result.now (c.rows_at-8.ensures.from db whole Office all (omega arith)) (c.rows_at-9.ensures.from db other_queries Office more (omega arith)) c.in_ok-check_by_rowid-2.ensures.counted c.in_ok-check_by_rowid-2.ensures.stand in
    let crls = crls_hold db are c.rows_at-10.result.now (c.rows_at-10.ensures.from db whole Office all (omega arith)) c.in_ok-check_by_id-4.ensures.counted c.in_ok-check_by_id-4.ensures.stand in
    let letters = letters_hold db are c.rows_at-11.result.now c.rows_at-12.result.now (c.rows_at-11.ensures.from db whole Office all (omega arith)) (c.rows_at-12.ensures.from db other_queries Office more (omega arith)) c.in_ok-check_by_rowid-3.ensures.counted c.in_ok-check_by_rowid-3.ensures.stand in
    let counts = c.in_ok-check_counts.ensures.hold db are (c.rows_at-13.ensures.from db whole Office all (omega arith)) (c.rows_at-14.ensures.from db other_queries Office more (omega arith)) in
    let of_listings = listings_hold db are c.rows_at-15.result.now c.rows_at-16.result.now (c.rows_at-15.ensures.from db whole Office all (omega arith)) (c.rows_at-16.ensures.from db other_queries Office more (omega arith)) in
    on_both c.check_by_rowid-4.result c.check_by_rowid-4.ensures.counted c.check_by_rowid-4.ensures.stand
    (λ counted stand. some_shown db are office subscribers orders certificates requests revocations crls letters counts (of_listings counted stand))

pub returns-in_err-check_by_id-clause-broken : goal.returns-in_err-check_by_id-clause-broken
returns-in_err-check_by_id-clause-broken c records columns all more =
    let no : EndsAtBrokenRow c.in_err-check_by_id.field-0.0 → ⊥ = c.in_err-check_by_id.ensures.broken (subscribers_counted records columns c.rows_at-3.result.now (c.rows_at-3.ensures.read records columns whole Office all (omega arith))) in search rules

pub returns-in_err-check_by_id-2-clause-broken : goal.returns-in_err-check_by_id-2-clause-broken
returns-in_err-check_by_id-2-clause-broken c records columns all more =
    let no : EndsAtBrokenRow c.in_err-check_by_id-2.field-0.0 → ⊥ = c.in_err-check_by_id-2.ensures.broken (orders_counted records columns c.rows_at-4.result.now (c.rows_at-4.ensures.read records columns whole Office all (omega arith))) in search rules

pub returns-in_err-check_by_rowid-clause-broken : goal.returns-in_err-check_by_rowid-clause-broken
returns-in_err-check_by_rowid-clause-broken c records columns all more =
    let no : EndsAtBrokenRow c.in_err-check_by_rowid.field-0.0 → ⊥ = c.in_err-check_by_rowid.ensures.broken (certificates_counted records columns c.rows_at-6.result.now (c.rows_at-6.ensures.read records columns other_queries Office more (omega arith))) in search rules

pub returns-in_err-check_by_id-3-clause-broken : goal.returns-in_err-check_by_id-3-clause-broken
returns-in_err-check_by_id-3-clause-broken c records columns all more =
    let no : EndsAtBrokenRow c.in_err-check_by_id-3.field-0.0 → ⊥ = c.in_err-check_by_id-3.ensures.broken (requests_counted records columns c.rows_at-7.result.now (c.rows_at-7.ensures.read records columns whole Office all (omega arith))) in search rules

pub returns-in_err-check_by_rowid-2-clause-broken : goal.returns-in_err-check_by_rowid-2-clause-broken
returns-in_err-check_by_rowid-2-clause-broken c records columns all more =
    let no : EndsAtBrokenRow c.in_err-check_by_rowid-2.field-0.0 → ⊥ = c.in_err-check_by_rowid-2.ensures.broken (revocations_counted records columns c.rows_at-9.result.now (c.rows_at-9.ensures.read records columns other_queries Office more (omega arith))) in search rules

pub returns-in_err-check_by_id-4-clause-broken : goal.returns-in_err-check_by_id-4-clause-broken
returns-in_err-check_by_id-4-clause-broken c records columns all more =
    let no : EndsAtBrokenRow c.in_err-check_by_id-4.field-0.0 → ⊥ = c.in_err-check_by_id-4.ensures.broken (crls_counted records columns c.rows_at-10.result.now (c.rows_at-10.ensures.read records columns whole Office all (omega arith))) in search rules

pub returns-in_err-check_by_rowid-3-clause-broken : goal.returns-in_err-check_by_rowid-3-clause-broken
returns-in_err-check_by_rowid-3-clause-broken c records columns all more =
    let no : EndsAtBrokenRow c.in_err-check_by_rowid-3.field-0.0 → ⊥ = c.in_err-check_by_rowid-3.ensures.broken (letters_counted records columns c.rows_at-12.result.now (c.rows_at-12.ensures.read records columns other_queries Office more (omega arith))) in search rules

pub returns-clause-broken : goal.returns-clause-broken
returns-clause-broken c records columns all more = c.check_by_rowid-4.ensures.broken (listings_counted records columns c.rows_at-16.result.now (c.rows_at-16.ensures.read records columns other_queries Office more (omega arith)))
