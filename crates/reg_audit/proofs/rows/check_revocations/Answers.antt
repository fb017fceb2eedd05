use Rattle.std.proofs.Common.{◌≡◌, ℕ, List, Option, sym, subst, rules}
use Rattle.std.specs.BTreeMap.{get}
use Rattle.std.specs.List.{AllByRecursion}
use Rattle.std.specs.Ordering.{nat_cmp}
use Rattle.reg_core.specs.Records.{revocation_in}
use Rattle.reg_core.specs.declared.rows.RequestRow.{RequestRow}
use Rattle.reg_core.specs.declared.rows.RevocationRow.{RevocationRow}
use Rattle.reg_core_laws.proofs.PublicLaws.{all_weaker}
use Rattle.reg_audit.specs.Read.{AreRevocations, IsBefore}
use Rattle.reg_audit.proofs.rows.check_revocations.Goals as goal

-- no request was received after what one look-up finds, where another finds the same
befores : (one other : ℕ → Option RevocationRow) (requests : List RequestRow) → ((key : ℕ) → one key ≡ other key)
    → AllByRecursion (λ (row : RequestRow). IsBefore row (one row.serial)) requests → AllByRecursion (λ (row : RequestRow). IsBefore row (other row.serial)) requests
befores one other requests same all =
    all_weaker (λ (row : RequestRow). IsBefore row (one row.serial)) (λ (row : RequestRow). IsBefore row (other row.serial)) (λ row. subst (λ o. IsBefore row o) (same row.serial)) requests all

pub returns-in_err-no_request_after_revocation-clause-broken : goal.returns-in_err-no_request_after_revocation-clause-broken
returns-in_err-no_request_after_revocation-clause-broken c numbered =
    let found = get nat_cmp c.in_ok-revocations.revocations in
    let no : AreRevocations (λ key. get nat_cmp c.args.certificates.now key) c.args.rows.now → AllByRecursion (λ (row : RequestRow). IsBefore row (found row.serial)) c.args.rows.now.requests.now =
    λ are. befores (λ key. revocation_in c.args.rows.now.revocations.now key) found c.args.rows.now.requests.now (λ key. sym (c.in_ok-revocations.ensures.found key)) are.none_after in
    search rules

pub returns-clause-ok : goal.returns-clause-ok
returns-clause-ok c numbered = record {
  serials_differ = c.in_ok-revocations.ensures.differ;
  requests_differ = c.in_ok-revocations_by_request.ensures.differ;
  each = c.in_ok-revocations_fit.ensures.ok numbered;
  moments_never_decrease = c.in_ok-moments_never_decrease.ensures.ok;
  firsts_never_decrease = c.in_ok-firsts_never_decrease.ensures.ok;
  none_after = befores (get nat_cmp c.in_ok-revocations.revocations) (λ key. revocation_in c.args.rows.now.revocations.now key) c.args.rows.now.requests.now c.in_ok-revocations.ensures.found c.in_ok-no_request_after_revocation.ensures.ok;
}
