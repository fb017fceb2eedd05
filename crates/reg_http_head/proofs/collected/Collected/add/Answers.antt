use Rattle.std.proofs.Math.Logic.{∥∥₁_map}
use Rattle.reg_http_head.proofs.CollectLemmas.{known_of_added}
use Rattle.reg_http_head.proofs.collected.Collected.add.Goals as goal

pub invariant_of-self : goal.invariant_of-self
invariant_of-self c = record {
  is_known =
      ∥∥₁_map c.args.self.now.is_known
      (known_of_added c.args.self.now.bytes.items c.args.more.now c.extend_from_slice.new.self.items c.args.self.now.known _ c.extend_from_slice.ensures.items);
}
