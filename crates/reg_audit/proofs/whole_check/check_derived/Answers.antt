use Rattle.std.proofs.Common.{◌≡◌, ℕ, sym, ap, subst, ◌∙◌, rules}
use Rattle.std.specs.BTreeMap.{get}
use Rattle.std.specs.List.Sorted.{IsPermutation}
use Rattle.std.specs.Ordering.{nat_cmp}
use Rattle.reg_core.specs.Status.{counts}
use Rattle.reg_store_tables.specs.Kept.{Kept}
use Rattle.reg_audit.specs.DerivedAsRead.{found_counts}
use Rattle.reg_audit.specs.CheckFaults.{IsBroken}
use Rattle.reg_audit.proofs.Fits.{crls_read}
use Rattle.reg_audit.proofs.Following.{counts_made, letters_follow, letters_back, letters_differ, listed_follow, listed_back, listed_differ}
use Rattle.reg_audit.proofs.Results.{on_ok, if_err}
use Rattle.reg_audit.proofs.whole_check.check_derived.Goals as goal

pub returns-in_err-check_counts-clause-broken : goal.returns-in_err-check_counts-clause-broken
returns-in_err-check_counts-clause-broken c index records are sound columns held =
    let revocations = λ (key : ℕ). get nat_cmp c.args.found.now.revocations key in
    let letters = c.deref.ensures.value ∙ c.in_ok-letters.ensures.made in
    let no : IsBroken c.in_err-check_counts.field-0.0 → Kept columns records → ⊥ = λ is kept. c.in_err-check_counts.ensures.broken is (held.counts ∙ kept.counts ∙ sym (counts_made c.args.rows.now records are sound revocations index.revocations) ∙ sym (ap found_counts letters)) in
    search rules

pub returns-in_err-same_rows-clause-broken : goal.returns-in_err-same_rows-clause-broken
returns-in_err-same_rows-clause-broken c index records are sound columns held =
    let revocations = λ (key : ℕ). get nat_cmp c.args.found.now.revocations key in
    let made = c.in_ok-letters.ensures.made in
    let differ = subst (Rattle.reg_core.specs.Sound.KeysDiffer (λ (row : Rattle.reg_audit.specs.declared.derived_rows.Standing.Standing). row.serial)) (sym made) (letters_differ c.args.rows.now records are sound revocations index.revocations) in
    let no : IsBroken c.in_err-same_rows.field-0.0 → Kept columns records → ⊥ =
    λ is kept. c.in_err-same_rows.ensures.broken differ is
    (subst (λ l. IsPermutation l c.args.derived.now.letters.now) (sym made) (letters_back c.args.rows.now records are sound revocations index.revocations c.args.derived.now.letters.now columns.letters held.letters kept.letters)) in
    search rules

pub returns-clause-ok : goal.returns-clause-ok
returns-clause-ok c index records are sound columns held =
    let revocations = λ (key : ℕ). get nat_cmp c.args.found.now.revocations key in
    let certificates = λ (key : ℕ). get nat_cmp c.args.found.now.certificates key in
    let crls = crls_read c.args.rows.now records are sound.crls in
    let made = c.in_ok-letters.ensures.made in
    let listed_made = c.in_ok-listed.ensures.made crls.numbered crls.updates_never_decrease in
    let letters = letters_follow c.args.rows.now records are sound revocations index.revocations c.args.derived.now.letters.now columns.letters held.letters (subst (λ l. IsPermutation l c.args.derived.now.letters.now) made c.in_ok-same_rows.ensures.ok) in
    let same : columns.counts ≡ counts records records.last = sym held.counts ∙ c.in_ok-check_counts.ensures.ok ∙ ap found_counts (c.deref.ensures.value ∙ made) ∙ counts_made c.args.rows.now records are sound revocations index.revocations in
    on_ok c.same_rows-2.result c.same_rows-2.ensures.ok
    (λ same_listed. record {
      letters = letters;
      counts = same;
      listed = listed_follow c.args.rows.now records are sound certificates index.certificates c.args.derived.now.listed.now columns.listed held.listed (subst (λ l. IsPermutation l c.args.derived.now.listed.now) listed_made same_listed);
    })

pub returns-clause-broken : goal.returns-clause-broken
returns-clause-broken c index records are sound columns held =
    let certificates = λ (key : ℕ). get nat_cmp c.args.found.now.certificates key in
    let crls = crls_read c.args.rows.now records are sound.crls in
    let made = c.in_ok-listed.ensures.made crls.numbered crls.updates_never_decrease in
    let differ = subst (Rattle.reg_core.specs.Sound.KeysDiffer (λ (row : Rattle.reg_audit.specs.declared.derived_rows.Listed.Listed). row.serial)) (sym made) (listed_differ c.args.rows.now records are sound certificates index.certificates) in
    if_err c.same_rows-2.result (c.same_rows-2.ensures.broken differ)
    (λ fault no is kept. no is (subst (λ l. IsPermutation l c.args.derived.now.listed.now) (sym made) (listed_back c.args.rows.now records are sound certificates index.certificates c.args.derived.now.listed.now columns.listed held.listed kept.listed)))
