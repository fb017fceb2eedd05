use Rattle.std.proofs.Common.{◌≡◌, ℕ, ◌+◌, ◌-◌, ◌≤◌, ◌<◌, List, ◌++◌, length, take, drop, get_or, Fits, w8, ap, ◌∙◌, subst, sym, zero-add, arith}
use Rattle.std.proofs.Math.ListN.{replicate}
use Rattle.std.specs.List.{All}
use Rattle.std.proofs.lemmas.List.{get_or_default}
use Rattle.reg_core.proofs.Padded.{padded, take-padded, length-padded, padded_from_fillers, padded_behind}
use Rattle.reg_core.specs.Label.{IsLabel}

-- The items of a slice of bytes are below 256.
pub bytes_of_slice : (text : List ℕ) → ((i : ℕ) → Fits w8 (get_or text i 0)) → All (λ byte. byte < 256) text
bytes_of_slice text fits k d within = rw (get_or_default text k d 0 within) (omega (arith, fits k))

-- What two texts leave, written one behind the other over zeros.
pub written_behind
    : (first second before after : List ℕ)
    → before ≡ first ++ drop (0 + length first) (replicate 64 0)
    → after ≡ take (length first) before ++ second ++ drop (length first + length second) before
    → after ≡ padded 0 64 (first ++ second)
written_behind first second before after wrote_first wrote_second =
    let start : before ≡ padded 0 64 first = (rw zero-add at wrote_first) ∙ padded_from_fillers 0 64 first in
    wrote_second
    ∙ ap (λ row. take (length first) row ++ second ++ drop (length first + length second) row) start
    ∙ padded_behind 0 64 first second

-- What a row of a label's fields keeps.
pub label_holds
    : (text row : List ℕ) (len : ℕ)
    → IsLabel text
    → len ≡ length text
    → row ≡ padded 0 64 text
    → (len ≤ 64) × (length row ≡ 64) × IsLabel (take len row) × (row ≡ take len row ++ replicate (64 - len) 0)
label_holds text row len label counted is_padded =
    let taken : take len row ≡ text = ap (λ n. take n row) counted ∙ ap (take (length text)) is_padded ∙ take-padded 0 64 text in (
      omega (arith, label.at_most_64),
      ap length is_padded ∙ length-padded 0 64 text label.at_most_64,
      subst IsLabel (sym taken) label,
      rw (taken, counted) is_padded,
    )
