-- A head that ends before its bytes do.
use Rattle.std.proofs.Common.{◌≡◌, ◌≢◌, ℕ, ◌≤◌, List, [], length, drop, ap, arith, length-drop}
use Rattle.httparse.specs.Grammar.{RequestHead, ReadsRequest}
use Rattle.httparse.proofs.GrammarLemmas.{request_unique}

-- where a head ends earlier, no head is the whole of the bytes
pub no_whole_head : (bytes : List ℕ) (h : RequestHead) (end : ℕ) → ReadsRequest bytes h (drop end bytes) → end ≤ length bytes → end ≢ length bytes
    → (k : RequestHead) → ¬ (ReadsRequest bytes k [])
no_whole_head bytes h end reads within shorter k whole =
    let rest : length (drop end bytes) ≡ 0 = ap length (request_unique bytes h k (drop end bytes) [] reads whole).1 in
    shorter (omega (arith, rest, length-drop end bytes, within))
