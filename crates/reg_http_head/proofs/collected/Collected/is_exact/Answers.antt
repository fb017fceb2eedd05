use Rattle.std.proofs.Common.{◌≡◌, arith, length}
use Rattle.std.proofs.Math.Logic.{∥∥₁_map}
use Rattle.std.proofs.lemmas.Bool.Decides.{nat_tests}
use Rattle.reg_http_head.specs.Bytes.{collected_bytes}
use Rattle.reg_http_head.proofs.CollectLemmas.{exact_of_needs}
use Rattle.reg_http_head.proofs.collected.Collected.is_exact.Goals as goal

pub returns-in-Valid : goal.returns-in-Valid
returns-in-Valid c is =
    let all : c.in-Valid.head.needed ≡ length c.args.self.now.bytes.items = grind (arith, nat_tests, is, c.len.ensures) in
    ∥∥₁_map (rw c.in-Valid.is at c.args.self.now.is_known) (λ needs. exact_of_needs (collected_bytes c.args.self.now) c.in-Valid.head needs all)
