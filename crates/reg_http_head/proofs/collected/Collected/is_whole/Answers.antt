use Rattle.std.proofs.Common.{◌≤◌, ◌<◌, arith, length}
use Rattle.std.proofs.Math.Logic.{∥∥₁_map}
use Rattle.std.proofs.lemmas.Bool.{leb-true, leb-false}
use Rattle.reg_http_head.specs.Bytes.{collected_bytes}
use Rattle.reg_http_head.proofs.CollectLemmas.{known_of_all, whole_of_refused, whole_of_needs, unfinished_of_no_end, unfinished_of_needs}
use Rattle.reg_http_head.proofs.collected.Collected.is_whole.Goals as goal

pub invariant_of-self : goal.invariant_of-self
invariant_of-self c = record {
  is_known = ∥∥₁_map (rw c.as_slice.ensures.value at c.scan_all-self.ensures) (known_of_all c.args.self.now.bytes.items c.scan_all-self.result);
}

pub returns-in-NoHeadEnd-clause-unfinished : goal.returns-in-NoHeadEnd-clause-unfinished
returns-in-NoHeadEnd-clause-unfinished c is =
    ∥∥₁_map (rw (c.as_slice.ensures.value, c.in-NoHeadEnd.is) at c.scan_all-self.ensures) (λ scan_all. unfinished_of_no_end (collected_bytes c.args.self.now) c.in-NoHeadEnd.field-0 scan_all)

pub returns-in-Refused-clause-whole : goal.returns-in-Refused-clause-whole
returns-in-Refused-clause-whole c is =
    ∥∥₁_map (rw (c.as_slice.ensures.value, c.in-Refused.is) at c.scan_all-self.ensures) (λ scan_all. whole_of_refused (collected_bytes c.args.self.now) c.in-Refused.field-0 c.in-Refused.field-1 scan_all.1)

pub returns-in-Valid-clause-whole : goal.returns-in-Valid-clause-whole
returns-in-Valid-clause-whole c is =
    let there : c.in-Valid.head.needed ≤ length c.args.self.now.bytes.items = omega (arith, leb-true c.in-Valid.head.needed c.len.result is, c.len.ensures) in
    ∥∥₁_map (rw (c.as_slice.ensures.value, c.in-Valid.is) at c.scan_all-self.ensures) (λ needs. whole_of_needs (collected_bytes c.args.self.now) c.in-Valid.head needs there)

pub returns-in-Valid-clause-unfinished : goal.returns-in-Valid-clause-unfinished
returns-in-Valid-clause-unfinished c is =
    let short : length c.args.self.now.bytes.items < c.in-Valid.head.needed = omega (arith, leb-false c.in-Valid.head.needed c.len.result is, c.len.ensures) in
    ∥∥₁_map (rw (c.as_slice.ensures.value, c.in-Valid.is) at c.scan_all-self.ensures) (λ needs. unfinished_of_needs (collected_bytes c.args.self.now) c.in-Valid.head needs short)
