use Rattle.std.proofs.Common.{◌≡◌, List, ℕ, is_some, take}
use Rattle.std.specs.BTreeSet.{contains}
use Rattle.std.specs.Ordering.{nat_cmp}
use Rattle.std.specs.Cmp.Lexicographic.{slice_cmp}
use Rattle.reg_core.specs.Records.{subscriber_named}
use Rattle.reg_core.specs.Sound.{KeysDiffer}
use Rattle.reg_core.specs.declared.rows.SubscriberRow.{SubscriberRow}
use denote.Ref.{Bor}
use Rattle.reg_audit.proofs.index.names_differ.Given as goal

abbrev pub invariant-loop-row_index : goal.invariant-loop-row_index
invariant-loop-row_index l = record {
  differ : KeysDiffer (λ (row : SubscriberRow). row.name) (take l.row_index l.subscribers);
  found : (name : Bor (List ℕ)) → contains (λ (x y : Bor (List ℕ)). slice_cmp nat_cmp x.now y.now) l.names name ≡ is_some (subscriber_named (take l.row_index l.subscribers) name.now);
}
