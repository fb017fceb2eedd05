use Rattle.std.proofs.Common.{◌≡◌, sym, subst, ◌∙◌, rules}
use Rattle.std.specs.List.Sorted.{IsPermutation}
use Rattle.std.proofs.lemmas.List.Sorted.{IsNonDecreasingBy-from_sort_by_key}
use Rattle.reg_audit.proofs.Sorted.{same_in_order, in_one_order}
use Rattle.reg_audit.proofs.derived_rows.same_rows.Goals as goal

pub returns-in-None-clause-ok : goal.returns-in-None-clause-ok
returns-in-None-clause-ok g c =
    let wanted = c.sort_unstable_by_key.new.self.items in
    let held = c.sort_unstable_by_key-2.new.self.items in
    let to_held : IsPermutation c.args.rows.now held = subst (λ l. IsPermutation l held) c.in_ok-stored.ensures.items c.sort_unstable_by_key-2.ensures.permutation in
    let is : held ≡ wanted = sym c.deref.ensures.value ∙ c.in-None.ensures ∙ c.deref-2.ensures.value in
    same_in_order g.T.HasSerial.serial c.args.wanted.items c.args.rows.now wanted held c.sort_unstable_by_key.ensures.permutation to_held is

pub returns-clause-broken : goal.returns-clause-broken
returns-clause-broken g c differ is same =
    let wanted = c.sort_unstable_by_key.new.self.items in
    let held = c.sort_unstable_by_key-2.new.self.items in
    let to_held : IsPermutation c.args.rows.now held = subst (λ l. IsPermutation l held) c.in_ok-stored.ensures.items c.sort_unstable_by_key-2.ensures.permutation in
    let up_wanted = IsNonDecreasingBy-from_sort_by_key g.T.HasSerial.serial wanted c.sort_unstable_by_key.ensures.sorted (λ a r q k. search rules) in
    let up_held = IsNonDecreasingBy-from_sort_by_key g.T.HasSerial.serial held c.sort_unstable_by_key-2.ensures.sorted (λ a r q k. search rules) in
    c.in-Some.ensures (c.deref.ensures.value ∙ in_one_order g.T.HasSerial.serial c.args.wanted.items c.args.rows.now wanted held differ c.sort_unstable_by_key.ensures.permutation to_held up_wanted up_held same ∙ sym c.deref-2.ensures.value)
