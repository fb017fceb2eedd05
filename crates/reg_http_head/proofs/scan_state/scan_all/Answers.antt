use Rattle.std.proofs.lemmas.Grind.{not_there}
use Rattle.reg_http_head.specs.Collected.{Knows}
use Rattle.reg_http_head.specs.declared.scan_state.ScanState.{ScanState}
use Rattle.reg_http_head.proofs.scan_state.scan_all.Goals as goal

pub search_rest-requires : goal.search_rest-requires
search_rest-requires c n below ends =
    let P : ScanState → Type 0 = λ k. ∥ Knows c.args.bytes.now k ∥₁ in
    not_there (rw c.in-NoHeadEnd.is at c.requires) (λ known. known.1 n below ends)
