use Rattle.std.proofs.Common.{◌≡◌, ◌≤◌, length, map, filter, subst, rules}
use Rattle.std.specs.List.Sorted.{IsPermutation}
use Rattle.std.proofs.lemmas.List.Sorted.{IsNonDecreasingBy-from_sort_by_key}
use Rattle.reg_core.specs.Crls.{EntriesAscend}
use Rattle.reg_core.specs.declared.rows.Entry.{Entry}
use Rattle.reg_audit.specs.Crls.{lists_row, listed_entry}
use Rattle.reg_audit.proofs.Contents.{entries_ascend, entries_few}
use Rattle.reg_audit.proofs.crls.entries_of.Goals as goal

pub returns-then-len-gt-MOST_ENTRIES-clause-broken : goal.returns-then-len-gt-MOST_ENTRIES-clause-broken
returns-then-len-gt-MOST_ENTRIES-clause-broken c differ few is =
    let entries = c.sort_unstable_by_key.new.self.items in
    let same : IsPermutation (map listed_entry (filter (lists_row c.args.number) c.args.listed.now)) entries = subst (λ l. IsPermutation l entries) c.in_ok-entries.ensures.made c.sort_unstable_by_key.ensures.permutation in
    let most : length entries ≤ 1000000 = entries_few c.args.number c.args.listed.now entries same few in
    search rules

pub returns-then-not-ascends-clause-broken : goal.returns-then-not-ascends-clause-broken
returns-then-not-ascends-clause-broken c differ few is =
    let entries = c.sort_unstable_by_key.new.self.items in
    let same : IsPermutation (map listed_entry (filter (lists_row c.args.number) c.args.listed.now)) entries = subst (λ l. IsPermutation l entries) c.in_ok-entries.ensures.made c.sort_unstable_by_key.ensures.permutation in
    let rises = IsNonDecreasingBy-from_sort_by_key (λ (entry : Entry). entry.serial) entries c.sort_unstable_by_key.ensures.sorted (λ a r q k. search rules) in
    let up : EntriesAscend entries = entries_ascend c.args.number c.args.listed.now entries same differ rises in
    let here : EntriesAscend c.deref.result.now = subst EntriesAscend (Rattle.std.proofs.Common.sym c.deref.ensures.value) up in
    search rules
