use Rattle.std.proofs.Math.Logic.{∥∥₁_map}
use Rattle.reg_http_head.proofs.CollectLemmas.{holds_slices}
use Rattle.reg_http_head.proofs.collected.request_at.Goals as goal

pub method_in-requires : goal.method_in-requires
method_in-requires c = ∥∥₁_map c.requires.head (λ needs. (needs.head, needs.stands))

pub target_in-requires : goal.target_in-requires
target_in-requires c = ∥∥₁_map c.requires.head (λ needs. (needs.head, needs.stands))

pub returns-in-Ok-clause-ok : goal.returns-in-Ok-clause-ok
returns-in-Ok-clause-ok c =
    ∥∥₁_map c.requires.head
    (holds_slices c.args.bytes.now c.in-Ok.method c.target_in.result.now c.args.head c.in-Ok.ensures c.target_in.ensures c.requires.whole)
