use Rattle.std.proofs.Common.{◌≡◌, ℕ, ◌≤◌, List, length, take, sym, arith, length-take}
use Rattle.std.proofs.lemmas.List.{take_all}
use Rattle.reg_desk_service.proofs.log_lines.first_bytes.Goals as goal

-- as many as are taken
front_length : (xs : List ℕ) (n : ℕ) → n ≤ length xs → n ≡ length (take n xs)
front_length xs n few = omega (arith, few, length-take n xs)

-- all are taken where there are no more
front_all : (xs : List ℕ) (n : ℕ) → length xs ≤ n → xs ≡ take n xs
front_all xs n few = sym (take_all n xs few)

pub slice_bounds-result-end : goal.slice_bounds-result-end
slice_bounds-result-end c = front_length c.args.text.now 256 (omega (arith, c.if-text-gt-MOST_QUOTED.true))

pub returns-else-text-gt-MOST_QUOTED : goal.returns-else-text-gt-MOST_QUOTED
returns-else-text-gt-MOST_QUOTED c = front_all c.args.text.now 256 (omega (arith, c.if-text-gt-MOST_QUOTED.false))
