use Rattle.std.proofs.Common.{arith, length, ◌<◌, inl, refl}
use Rattle.std.proofs.Math.Logic.{∥∥₁_map}
use Rattle.reg_http_head.specs.Bytes.{collected_bytes}
use Rattle.reg_http_head.proofs.CollectLemmas.{at_most, holds_refused, unfinished_of_no_end, unfinished_of_needs}
use Rattle.reg_http_head.proofs.collected.Collected.request.Goals as goal

pub returns-in-NoHeadEnd-clause-err : goal.returns-in-NoHeadEnd-clause-err
returns-in-NoHeadEnd-clause-err c = inl (
  refl,
  ∥∥₁_map (rw (c.as_slice-bytes.ensures.value, c.in-NoHeadEnd.is) at c.scan_all.ensures) (unfinished_of_no_end (collected_bytes c.args.self.now) c.in-NoHeadEnd.field-0),
)

pub returns-in-Refused-clause-ok : goal.returns-in-Refused-clause-ok
returns-in-Refused-clause-ok c =
    ∥∥₁_map (rw (c.as_slice-bytes.ensures.value, c.in-Refused.is) at c.scan_all.ensures)
    (λ scan_all. holds_refused (collected_bytes c.args.self.now) c.in-Refused.field-0 c.in-Refused.status scan_all.1)

pub request_at-requires-clause-head : goal.request_at-requires-clause-head
request_at-requires-clause-head c = rw c.in-Valid.is at c.scan_all.ensures

pub request_at-requires-clause-ordered : goal.request_at-requires-clause-ordered
request_at-requires-clause-ordered c = at_most _ _ (rw c.in-Valid.is at c.scan_all.ensures) (λ needs. omega (arith, needs.needed_is))

pub returns-in-Valid-2-clause-err : goal.returns-in-Valid-2-clause-err
returns-in-Valid-2-clause-err c =
    let short : length c.args.self.now.bytes.items < c.in-Valid.head.needed = omega (arith, c.if-head-bytes.false, c.as_slice-bytes.ensures.len) in
    inl (
      refl,
      ∥∥₁_map (rw (c.as_slice-bytes.ensures.value, c.in-Valid.is) at c.scan_all.ensures)
          (λ needs. unfinished_of_needs (collected_bytes c.args.self.now) c.in-Valid.head needs short),
    )
