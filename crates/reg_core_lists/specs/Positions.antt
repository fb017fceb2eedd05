-- Positions in the changes feed and their text.
use Rattle.std.specs.Prelude.{ℕ, ◌+◌, Bool, ◌==◌, List, [], ◌∷◌, ◌++◌, take, drop, decimal, Option, Some, option_map, option_and_then}
use Rattle.std.specs.List.{position}
use Rattle.std.specs.Result.{result_ok}
use Rattle.hex.specs.Hex.{decode_sized, encode_lower}
use Rattle.reg_core.specs.Number.{number_of}
use Rattle.reg_core.specs.Sequence.{◌>>=◌}
use Rattle.reg_core_lists.specs.FeedLines.{issuer_line}
use Rattle.reg_core_lists.specs.declared.positions.Declines.{Declines}
use Rattle.reg_core_lists.specs.declared.positions.Positions.{Positions}
use Rattle.reg_core_lists.specs.declared.positions.RowCounts.{RowCounts}

-- whether a byte is a dot
abbrev pub is_dot : ℕ → Bool
is_dot byte = byte == 46

-- the number before the first dot, and the text after it; `None` without a dot, or if the text before it is no number
unfoldable pub number_and_rest : List ℕ → Option (ℕ × List ℕ)
number_and_rest text =
    position is_dot text
    >>= λ end. number_of (take end text)
    >>= λ number. Some (number, drop (end + 1) text)

-- the counts, and the text after them
unfoldable pub counts_read : List ℕ → Option (RowCounts × List ℕ)
counts_read text =
    number_and_rest text
    >>= λ subscribers. number_and_rest subscribers.1
    >>= λ orders. number_and_rest orders.1
    >>= λ certificates. number_and_rest certificates.1
    >>= λ requests. number_and_rest requests.1
    >>= λ revocations. number_and_rest revocations.1
    >>= λ crls. Some (
      record {
        subscribers = subscribers.0;
        orders = orders.0;
        certificates = certificates.0;
        requests = requests.0;
        revocations = revocations.0;
        crls = crls.0;
      },
      crls.1,
    )

-- how many requests are declined and the highest id of one, and the text after them
unfoldable pub declines_read : List ℕ → Option (Declines × List ℕ)
declines_read text =
    number_and_rest text
    >>= λ count. number_and_rest count.1
    >>= λ last. Some (record { count = count.0; last = last.0 }, last.1)

-- the positions that a text writes, if it writes any: eight numbers and 64 hexadecimal digits, with dots between them
unfoldable pub positions_of_text : List ℕ → Option Positions
positions_of_text text =
    counts_read text
    >>= λ counts. declines_read counts.1
    >>= λ declines. result_ok (decode_sized declines.1 32)
    >>= λ digest. Some (record { counts = counts.0; declines = declines.0; digest = digest })

-- a number and a dot (46)
abbrev pub part_text : ℕ → List ℕ
part_text number = decimal number ++ 46 ∷ []

unfoldable pub row_counts_text : RowCounts → List ℕ
row_counts_text counts =
    part_text counts.subscribers ++ part_text counts.orders ++ part_text counts.certificates
    ++ part_text counts.requests ++ part_text counts.revocations ++ part_text counts.crls

unfoldable pub declines_text : Declines → List ℕ
declines_text declines = part_text declines.count ++ part_text declines.last

-- the text of positions
unfoldable pub positions_text : Positions → List ℕ
positions_text positions =
    row_counts_text positions.counts ++ declines_text positions.declines ++ encode_lower positions.digest

-- the first lines of the text whose digest positions have: the issuer's Name and key, and the counts
unfoldable pub window_head : List ℕ → List ℕ → RowCounts → List ℕ
window_head name key counts = issuer_line name key ++ row_counts_text counts ++ 10 ∷ []
