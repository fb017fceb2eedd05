use Rattle.std.proofs.Common.{rules}
use Rattle.std.specs.BTreeMap.{get}
use Rattle.std.specs.Ordering.{nat_cmp}
use Rattle.reg_core.specs.Reached.{ReachedRows}
use Rattle.reg_audit.specs.Read.{AreCrls, AreRevocations, IsLastSet}
use Rattle.reg_audit.proofs.Fits.{crls_read, last_set_read, revocations_read, rows_reached}
use Rattle.reg_audit.proofs.rows.check_rows.Goals as goal

pub returns-in_err-check_last_set-clause-broken : goal.returns-in_err-check_last_set-clause-broken
returns-in_err-check_last_set-clause-broken c records are =
    let to : ReachedRows records → IsLastSet c.args.rows.now = last_set_read c.args.rows.now records are in
    search rules

pub returns-in_err-check_crls-clause-broken : goal.returns-in_err-check_crls-clause-broken
returns-in_err-check_crls-clause-broken c records are =
    let to : ReachedRows records → AreCrls c.args.rows.now.cap c.args.rows.now.last c.args.rows.now.crls.now = λ reached. crls_read c.args.rows.now records are reached.crls in
    search rules

pub returns-in_err-revocations-clause-broken : goal.returns-in_err-revocations-clause-broken
returns-in_err-revocations-clause-broken c records are =
    let to : ReachedRows records → AreRevocations (get nat_cmp c.in_ok-certificates.certificates) c.args.rows.now = revocations_read c.args.rows.now records are (get nat_cmp c.in_ok-certificates.certificates) c.in_ok-certificates.ensures.found in
    search rules

pub returns-clause-ok : goal.returns-clause-ok
returns-clause-ok c records are =
    let subscribers = c.in_ok-check_subscribers.ensures.ok in
    let orders = c.in_ok-check_orders.ensures.ok subscribers.sound.numbered in
    let certificates = c.in_ok-certificates.ensures.ok orders.sound.numbered in
    let requests = c.in_ok-check_requests.ensures.ok c.args.rows.now.certificates.now c.in_ok-certificates.ensures.found in
    rows_reached c.args.rows.now records are (get nat_cmp c.in_ok-certificates.certificates) c.in_ok-certificates.ensures.found c.in_ok-check_last.ensures.ok c.in_ok-check_last_set.ensures.ok subscribers orders certificates requests c.in_ok-check_crls.ensures.ok
    (c.in_ok-revocations.ensures.ok requests.sound.numbered)
