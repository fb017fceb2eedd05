-- The declined requests, found in parts: each part has the ids after the last one of the part before.
use Rattle.std.proofs.Common.{◌≡◌, ◌∙◌, ◌+◌, ◌-◌, ◌<◌, ◌≤◌, ℕ, zero, suc, Bool, true, false, List, [], ◌∷◌, ◌++◌, length, map, filter, take, drop, unwrap_or, inl, inr, refl, sym, ap, subst, arith, length-append}
use Rattle.std.specs.Prelude.{nat_lt, cond}
use Rattle.std.specs.List.{slice_get}
use Rattle.std.proofs.lemmas.Bool.{cases_Bool}
use Rattle.std.proofs.lemmas.Bool.Decides.{nat_tests}
use Rattle.std.proofs.lemmas.List.{take_all}
use Rattle.reg_core.specs.Records.{Records}
use Rattle.reg_core.specs.Sound.{NumberedFrom, SoundRows}
use Rattle.reg_core.specs.declared.rows.RequestRow.{RequestRow}
use Rattle.reg_core_lists.specs.Feed.{declines_after, no_declines}
use Rattle.reg_core_lists.specs.declared.positions.Declines.{Declines}
use Rattle.reg_office_api.specs.Follows.{declines_of_records}

-- numbers above another one, each above the one before
abbrev Rise : ℕ → List ℕ → Type 0
Rise low [] = Unit {0}
Rise low (x ∷ xs) = (low < x) × Rise x xs

-- the last of them
abbrev last_of : ℕ → List ℕ → ℕ
last_of low [] = low
last_of low (x ∷ xs) = last_of x xs

-- there is a last one, so any other number will do for none
last_some : (low none x : ℕ) (xs : List ℕ) → unwrap_or (slice_get (x ∷ xs) (length (x ∷ xs) - 1)) none ≡ last_of low (x ∷ xs)
last_some low none x [] = refl
last_some low none x (y ∷ xs) =
    let further : length (x ∷ y ∷ xs) - 1 ≡ suc (length (y ∷ xs) - 1) = omega arith in
    ap (λ n. unwrap_or (slice_get (x ∷ y ∷ xs) n) none) further ∙ last_some x none y xs

-- as it is written in positions
last_is : (low : ℕ) (xs : List ℕ) → unwrap_or (slice_get xs (length xs - 1)) low ≡ last_of low xs
last_is low [] = refl
last_is low (x ∷ xs) = last_some low low x xs

last_above : (low : ℕ) (xs : List ℕ) → Rise low xs → low ≤ last_of low xs
last_above low [] rise = omega arith
last_above low (x ∷ xs) rise = let above = last_above x xs rise.1 in let first = rise.0 in omega arith

last_join : (low : ℕ) (xs ys : List ℕ) → last_of (last_of low xs) ys ≡ last_of low (xs ++ ys)
last_join low [] ys = refl
last_join low (x ∷ xs) ys = last_join x xs ys

rise_taken : (n low : ℕ) (xs : List ℕ) → Rise low xs → Rise low (take n xs)
rise_taken zero low xs rise = tt
rise_taken (suc n) low [] rise = tt
rise_taken (suc n) low (x ∷ xs) rise = (rise.0, rise_taken n x xs rise.1)

below : (m n : ℕ) → m < n → nat_lt m n ≡ true
below m n less = grind (arith, nat_tests)

not_below : (m n : ℕ) → n ≤ m → nat_lt m n ≡ false
not_below m n most = grind (arith, nat_tests)

-- all of them are above
all_pass : (low at : ℕ) (xs : List ℕ) → low ≤ at → Rise at xs → filter (nat_lt low) xs ≡ xs
all_pass low at [] most rise = refl
all_pass low at (x ∷ xs) most rise =
    let first = rise.0 in
    let passes : nat_lt low x ≡ true = below low x (omega arith) in
    let rest : filter (nat_lt low) xs ≡ xs = all_pass low x xs (omega arith) rise.1 in
    ap (λ (b : Bool). cond b (x ∷ filter (nat_lt low) xs) (filter (nat_lt low) xs)) passes ∙ ap (λ (l : List ℕ). x ∷ l) rest

-- those above the last of the first ones are the others
others_pass : (n low : ℕ) (xs : List ℕ) → Rise low xs → filter (nat_lt (last_of low (take n xs))) xs ≡ drop n xs
others_pass zero low xs rise = all_pass low low xs (omega arith) rise
others_pass (suc n) low [] rise = refl
others_pass (suc n) low (x ∷ xs) rise =
    let above = last_above x (take n xs) (rise_taken n x xs rise.1) in
    let stopped : nat_lt (last_of x (take n xs)) x ≡ false = not_below (last_of x (take n xs)) x above in
    let last = last_of x (take n xs) in
    ap (λ (b : Bool). cond b (x ∷ filter (nat_lt last) xs) (filter (nat_lt last) xs)) stopped ∙ others_pass n x xs rise.1

abbrev nothing : List ℕ
nothing = []

-- the first ones, and those after them
part_more : (n most : ℕ) (xs : List ℕ) → take (n + length (take most (drop n xs))) xs ≡ take n xs ++ take most (drop n xs)
part_more zero most xs = (let same : 0 + length (take most xs) ≡ length (take most xs) = omega arith in ap (λ n. take n xs) same ∙ take_own most xs)
  where
    take_own : (most : ℕ) (xs : List ℕ) → take (length (take most xs)) xs ≡ take most xs
    take_own zero xs = refl
    take_own (suc most) [] = refl
    take_own (suc most) (x ∷ xs) = ap (λ l. x ∷ l) (take_own most xs)
part_more (suc n) most [] = take_all (suc n + length (take most (drop (suc n) nothing))) nothing (omega arith) ∙ sym (take_all most nothing (omega arith))
part_more (suc n) most (x ∷ xs) =
    let here : suc n + length (take most (drop n xs)) ≡ suc (n + length (take most (drop n xs))) = omega arith in
    ap (λ m. take m (x ∷ xs)) here ∙ ap (λ l. x ∷ l) (part_more n most xs)

-- a part that is not full is the last one
part_last : (n most : ℕ) (xs : List ℕ) → length (take most (drop n xs)) < most → length xs ≤ n + length (take most (drop n xs))
part_last zero zero xs few = absurd (omega arith)
part_last zero (suc most) [] few = omega arith
part_last zero (suc most) (x ∷ xs) few = let rest = part_last zero most xs (omega arith) in omega arith
part_last (suc n) most [] few = omega arith
part_last (suc n) most (x ∷ xs) few = let rest = part_last n most xs few in omega arith

-- ---- declines

-- more ids after others
declines_join : (declines : Declines) (xs ys : List ℕ) → declines_after (declines_after declines xs) ys ≡ declines_after declines (xs ++ ys)
declines_join declines xs ys i = record {
  count = (let both : declines.count + length xs + length ys ≡ declines.count + length (xs ++ ys) = omega (arith, length-append xs ys) in both) i;
  last = (last_is (unwrap_or (slice_get xs (length xs - 1)) declines.last) ys ∙ ap (λ n. last_of n ys) (last_is declines.last xs) ∙ last_join declines.last xs ys ∙ sym (last_is declines.last (xs ++ ys))) i;
}

-- the ids of the declined requests rise
ids_rise : (from low : ℕ) (rows : List RequestRow) → low < from → NumberedFrom (λ row. row.id) from rows → Rise low (map (λ (row : RequestRow). row.id) (filter (λ (row : RequestRow). row.declined) rows))
ids_rise from low [] above numbered = tt
ids_rise from low (row ∷ rows) above numbered = elim (cases_Bool row.declined) [
  | inl is ↦ rw is (subst (λ n. low < n) (sym numbered.0) above, ids_rise (from + 1) row.id rows (let same = numbered.0 in omega (arith, same)) numbered.1)
  | inr not ↦ rw not (ids_rise (from + 1) low rows (omega arith) numbered.1)
]

-- the declines of some first ids of these
pub record AreFirst (all : List ℕ) (declines : Declines) : Type 0 where
  pub count : ℕ
  pub are : declines ≡ declines_after no_declines (take count all)

abbrev pub declined_ids : Records → List ℕ
declined_ids records = map (λ (row : RequestRow). row.id) (filter (λ (row : RequestRow). row.declined) records.requests)

pub first_none : (records : Records) (declines : Declines) → declines ≡ no_declines → AreFirst (declined_ids records) declines
first_none records declines is = record { count = 0; are = is }

-- the ids of the next part
part_is : (records : Records) (declines : Declines) (found : List ℕ) → SoundRows records → (first : AreFirst (declined_ids records) declines) → found ≡ take 1000 (filter (nat_lt declines.last) (declined_ids records))
    → found ≡ take 1000 (drop first.count (declined_ids records))
part_is records declines found sound first is =
    let all = declined_ids records in
    let last : declines.last ≡ last_of 0 (take first.count all) = ap (λ (d : Declines). d.last) first.are ∙ last_is 0 (take first.count all) in
    is ∙ ap (λ n. take 1000 (filter (nat_lt n) all)) last ∙ ap (take 1000) (others_pass first.count 0 all (ids_rise 1 0 records.requests (omega arith) sound.requests.numbered))

-- and with them
pub first_more : (records : Records) (declines reached : Declines) (found : List ℕ) → SoundRows records → AreFirst (declined_ids records) declines → found ≡ take 1000 (filter (nat_lt declines.last) (declined_ids records))
    → reached ≡ declines_after declines found → AreFirst (declined_ids records) reached
first_more records declines reached found sound first is reached_is =
    let all = declined_ids records in
    let part = part_is records declines found sound first is in
    record {
      count = first.count + length found;
      are = reached_is ∙ ap (λ (d : Declines). declines_after d found) first.are ∙ declines_join no_declines (take first.count all) found
          ∙ ap (declines_after no_declines) (ap (λ l. take first.count all ++ l) part ∙ sym (part_more first.count 1000 all) ∙ ap (λ l. take (first.count + length l) all) (sym part));
    }

-- a part with fewer than 1,000 ids is the last one
pub first_all : (records : Records) (declines reached : Declines) (found : List ℕ) → SoundRows records → AreFirst (declined_ids records) declines → found ≡ take 1000 (filter (nat_lt declines.last) (declined_ids records))
    → reached ≡ declines_after declines found → length found < 1000 → reached ≡ declines_of_records records
unfolding first_more
first_all records declines reached found sound first is reached_is few =
    let all = declined_ids records in
    let part = part_is records declines found sound first is in
    let more = first_more records declines reached found sound first is reached_is in
    let within : length all ≤ first.count + length found = subst (λ l. length all ≤ first.count + length l) (sym part) (part_last first.count 1000 all (subst (λ l. length l < 1000) part few)) in
    more.are ∙ ap (declines_after no_declines) (take_all (first.count + length found) all within)
