use Rattle.std.proofs.Common.{arith, ◌≡◌}
use Rattle.reg_http_head.proofs.CollectLemmas.{refused_long}
use Rattle.reg_http_head.proofs.scan_state.search_rest.Goals as goal

pub returns-in-None : goal.returns-in-None
returns-in-None c =
    let full : c.min-limit.result ≡ 8192 = c.if-limit-eq-LONGEST_HEAD.true in
    refused_long c.args.bytes.now (omega (arith, full, c.min-limit.ensures)) (λ n below. c.in-None.ensures n (omega (arith, below, full)))
