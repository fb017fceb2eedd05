-- The ids of declined requests, and those of them up to a last one.
use Rattle.std.proofs.Common.{◌≡◌, ◌∙◌, ◌<◌, ◌≤◌, ◌+◌, ◌-◌, ℕ, zero, suc, Bool, true, false, ◌==◌, ◌&&◌, ◌||◌, List, [], ◌∷◌, ◌++◌, length, map, filter, take, inl, inr, refl, sym, ap, subst, arith, length-append}
use Rattle.std.specs.Prelude.{cond, nat_le, nat_lt, unwrap_or}
use Rattle.std.specs.List.{list_any, slice_get}
use Rattle.std.proofs.lemmas.Bool.{cases_Bool}
use Rattle.std.proofs.lemmas.Bool.Decides.{nat_tests}
use Rattle.std.proofs.lemmas.List.{take_all}
use Rattle.std.proofs.lemmas.List.Folds.{list_any-append}
use Rattle.reg_core.specs.Sound.{NumberedFrom}
use Rattle.reg_core.specs.declared.rows.RequestRow.{RequestRow}
use Rattle.reg_core_laws.specs.Extends.{IsSameRequest, OnlyAddedOrDeclined}
use Rattle.reg_core_lists.specs.Feed.{declines_after, declines_from, no_declines}
use Rattle.reg_core_lists.specs.declared.positions.Declines.{Declines}

abbrev pub declined_ids : List RequestRow → List ℕ
declined_ids rows = map (λ row. row.id) (filter (λ row. row.declined) rows)

abbrev pub has_id : ℕ → List ℕ → Bool
has_id id ids = list_any (λ x. x == id) ids

abbrev pub up_to : ℕ → List ℕ → List ℕ
up_to last ids = filter (λ id. nat_le id last) ids

-- ---- numbers that rise

abbrev pub Rise : ℕ → List ℕ → Type 0
Rise low [] = Unit {0}
Rise low (x ∷ xs) = (low < x) × Rise x xs

abbrev pub last_of : ℕ → List ℕ → ℕ
last_of low [] = low
last_of low (x ∷ xs) = last_of x xs

last_some : (low none x : ℕ) (xs : List ℕ) → unwrap_or (slice_get (x ∷ xs) (length (x ∷ xs) - 1)) none ≡ last_of low (x ∷ xs)
last_some low none x [] = refl
last_some low none x (y ∷ xs) =
    let further : length (x ∷ y ∷ xs) - 1 ≡ suc (length (y ∷ xs) - 1) = omega arith in
    ap (λ n. unwrap_or (slice_get (x ∷ y ∷ xs) n) none) further ∙ last_some x none y xs

-- as positions have it
last_is : (low : ℕ) (xs : List ℕ) → unwrap_or (slice_get xs (length xs - 1)) low ≡ last_of low xs
last_is low [] = refl
last_is low (x ∷ xs) = last_some low low x xs

rise_lower : (low lower : ℕ) (xs : List ℕ) → lower ≤ low → Rise low xs → Rise lower xs
rise_lower low lower [] most rise = tt
rise_lower low lower (x ∷ xs) most rise = (let first = rise.0 in omega (arith, first), rise.1)

last_join : (low : ℕ) (xs ys : List ℕ) → last_of (last_of low xs) ys ≡ last_of low (xs ++ ys)
last_join low [] ys = refl
last_join low (x ∷ xs) ys = last_join x xs ys

rise_taken : (n low : ℕ) (xs : List ℕ) → Rise low xs → Rise low (take n xs)
rise_taken zero low xs rise = tt
rise_taken (suc n) low [] rise = tt
rise_taken (suc n) low (x ∷ xs) rise = (rise.0, rise_taken n x xs rise.1)

last_above : (low : ℕ) (xs : List ℕ) → Rise low xs → low ≤ last_of low xs
last_above low [] rise = omega arith
last_above low (x ∷ xs) rise = let above = last_above x xs rise.1 in let first = rise.0 in omega arith

-- all of them are above
all_above : (low at : ℕ) (xs : List ℕ) → low ≤ at → Rise at xs → filter (nat_lt low) xs ≡ xs
all_above low at [] most rise = refl
all_above low at (x ∷ xs) most rise =
    let first = rise.0 in
    let passes : nat_lt low x ≡ true = grind (arith, nat_tests) in
    ap (λ (b : Bool). cond b (x ∷ filter (nat_lt low) xs) (filter (nat_lt low) xs)) passes ∙ ap (λ (l : List ℕ). x ∷ l) (all_above low x xs (omega arith) rise.1)

none_up_to : (low at : ℕ) (xs : List ℕ) → low ≤ at → Rise at xs → up_to low xs ≡ []
none_up_to low at [] most rise = refl
none_up_to low at (x ∷ xs) most rise =
    let first = rise.0 in
    let fails : nat_le x low ≡ false = grind (arith, nat_tests) in
    ap (λ (b : Bool). cond b (x ∷ up_to low xs) (up_to low xs)) fails ∙ none_up_to low x xs (omega arith) rise.1

-- those up to the last of the first ones
first_up_to : (n low : ℕ) (xs : List ℕ) → Rise low xs → up_to (last_of low (take n xs)) xs ≡ take n xs
first_up_to zero low xs rise = none_up_to low low xs (omega arith) rise
first_up_to (suc n) low [] rise = refl
first_up_to (suc n) low (x ∷ xs) rise =
    let last = last_of x (take n xs) in
    let above : x ≤ last = last_above x (take n xs) (rise_taken n x xs rise.1) in
    let passes : nat_le x last ≡ true = grind (arith, nat_tests) in
    ap (λ (b : Bool). cond b (x ∷ up_to last xs) (up_to last xs)) passes ∙ ap (λ (l : List ℕ). x ∷ l) (first_up_to n x xs rise.1)

-- those up to the last of the next ones are those before, and the next ones
next_up_to : (n from low : ℕ) (xs : List ℕ) → Rise low xs
    → up_to (last_of from (take n (filter (nat_lt from) xs))) xs ≡ up_to from xs ++ take n (filter (nat_lt from) xs)
next_up_to zero from low [] rise = refl
next_up_to (suc n) from low [] rise = refl
next_up_to n from low (x ∷ xs) rise = elim (cases_Bool (nat_lt from x)) [
  | inl is ↦
      let above : from < x = grind (arith, nat_tests) in
      let all : filter (nat_lt from) (x ∷ xs) ≡ x ∷ xs = all_above from from (x ∷ xs) (omega arith) (above, rise.1) in
      let none : up_to from (x ∷ xs) ≡ [] = none_up_to from from (x ∷ xs) (omega arith) (above, rise.1) in
      ap (λ (l : List ℕ). up_to (last_of from (take n l)) (x ∷ xs)) all ∙ first_up_to n from (x ∷ xs) (above, rise.1)
      ∙ (λ i. (sym none) i ++ take n ((sym all) i))
  | inr not ↦
      let below : x ≤ from = grind (arith, nat_tests) in
      let skipped : filter (nat_lt from) (x ∷ xs) ≡ filter (nat_lt from) xs = ap (λ (b : Bool). cond b (x ∷ filter (nat_lt from) xs) (filter (nat_lt from) xs)) not in
      let last = last_of from (take n (filter (nat_lt from) xs)) in
      let higher : from ≤ last = last_above from (take n (filter (nat_lt from) xs)) (rise_taken n from (filter (nat_lt from) xs) (rise_kept from x xs rise.1)) in
      let first : nat_le x last ≡ true = grind (arith, nat_tests) in
      let second : nat_le x from ≡ true = grind (arith, nat_tests) in
      ap (λ (l : List ℕ). up_to (last_of from (take n l)) (x ∷ xs)) skipped
      ∙ ap (λ (b : Bool). cond b (x ∷ up_to last xs) (up_to last xs)) first
      ∙ ap (λ (l : List ℕ). x ∷ l) (next_up_to n from x xs rise.1)
      ∙ (λ i. cond ((sym second) i) (x ∷ up_to from xs) (up_to from xs) ++ take n ((sym skipped) i))
]
  where
    rise_kept : (from low : ℕ) (xs : List ℕ) → Rise low xs → Rise from (filter (nat_lt from) xs)
    rise_kept from low [] rise = tt
    rise_kept from low (x ∷ xs) rise = elim (cases_Bool (nat_lt from x)) [
      | inl is ↦
          let above : from < x = grind (arith, nat_tests) in
          subst (Rise from) (sym (all_above from from (x ∷ xs) (omega arith) (above, rise.1))) (above, rise.1)
      | inr not ↦
          subst (Rise from) (sym (ap (λ (b : Bool). cond b (x ∷ filter (nat_lt from) xs) (filter (nat_lt from) xs)) not)) (rise_kept from x xs rise.1)
    ]

-- a list is what is up to a number, and what is above it
all_up_to : (from low : ℕ) (xs : List ℕ) → Rise low xs → up_to from xs ++ filter (nat_lt from) xs ≡ xs
all_up_to from low [] rise = refl
all_up_to from low (x ∷ xs) rise = elim (cases_Bool (nat_lt from x)) [
  | inl is ↦
      let above : from < x = grind (arith, nat_tests) in
      let all : filter (nat_lt from) (x ∷ xs) ≡ x ∷ xs = all_above from from (x ∷ xs) (omega arith) (above, rise.1) in
      let none : up_to from (x ∷ xs) ≡ [] = none_up_to from from (x ∷ xs) (omega arith) (above, rise.1) in
      (λ i. none i ++ all i)
  | inr not ↦
      let below : x ≤ from = grind (arith, nat_tests) in
      let skipped : filter (nat_lt from) (x ∷ xs) ≡ filter (nat_lt from) xs = ap (λ (b : Bool). cond b (x ∷ filter (nat_lt from) xs) (filter (nat_lt from) xs)) not in
      let first : nat_le x from ≡ true = grind (arith, nat_tests) in
      (λ i. cond (first i) (x ∷ up_to from xs) (up_to from xs) ++ skipped i) ∙ ap (λ (l : List ℕ). x ∷ l) (all_up_to from x xs rise.1)
]

-- a number is up to another one or above it
below_or_above : (from id : ℕ) (xs : List ℕ) → has_id id xs ≡ true → has_id id (up_to from xs ++ filter (nat_lt from) xs) ≡ true
below_or_above from id xs has = list_any-append (λ x. x == id) (up_to from xs) (filter (nat_lt from) xs) ∙ go xs has
  where
    go : (xs : List ℕ) → has_id id xs ≡ true → (has_id id (up_to from xs) || has_id id (filter (nat_lt from) xs)) ≡ true
    go [] has = has
    go (x ∷ xs) has = grind (arith, nat_tests, go xs)

-- what is among numbers, or behind them
joined : (id : ℕ) (first ids had : List ℕ) → (has_id id first ≡ true → has_id id had ≡ true) → has_id id (first ++ ids) ≡ true → has_id id (had ++ ids) ≡ true
joined id first ids had has among =
    let one : (has_id id first || has_id id ids) ≡ true = sym (list_any-append (λ x. x == id) first ids) ∙ among in
    list_any-append (λ x. x == id) had ids ∙ (let both : (has_id id had || has_id id ids) ≡ true = grind (arith, has, one) in both)

-- ---- requests

ids_rise : (from low : ℕ) (rows : List RequestRow) → low < from → NumberedFrom (λ row. row.id) from rows → Rise low (declined_ids rows)
ids_rise from low [] above numbered = tt
ids_rise from low (row ∷ rows) above numbered = elim (cases_Bool row.declined) [
  | inl is ↦ rw is (subst (λ n. low < n) (sym numbered.0) above, ids_rise (from + 1) row.id rows (let same = numbered.0 in omega (arith, same)) numbered.1)
  | inr not ↦ rw not (ids_rise (from + 1) low rows (omega arith) numbered.1)
]

-- they are counted as positions count them
pub counted_ids : (last : ℕ) (rows : List RequestRow) → length (filter (λ row. row.declined && nat_le row.id last) rows) ≡ length (up_to last (declined_ids rows))
counted_ids last [] = refl
counted_ids last (row ∷ rows) = grind (arith, counted_ids last rows)

-- what stays of a request, and whether it is declined
same_id : (row next : RequestRow) → IsSameRequest row next → next.id ≡ row.id
same_id row next (inl is) = ap (λ (r : RequestRow). r.id) is
same_id row next (inr is) = ap (λ (r : RequestRow). r.id) is

still_declined : (row next : RequestRow) → IsSameRequest row next → row.declined ≡ true → next.declined ≡ true
still_declined row next (inl is) declined = ap (λ (r : RequestRow). r.declined) is ∙ declined
still_declined row next (inr is) declined = ap (λ (r : RequestRow). r.declined) is

-- there are no fewer later
more_ids : (last : ℕ) (rows after : List RequestRow) → OnlyAddedOrDeclined rows after
    → length (up_to last (declined_ids rows)) ≤ length (up_to last (declined_ids after))
more_ids last [] after added = omega arith
more_ids last (row ∷ rows) [] added = absurd added
more_ids last (row ∷ rows) (next ∷ others) (same, added) =
    let id = same_id row next same in
    let stays = still_declined row next same in
    grind (arith, id, stays, more_ids last rows others added)

none_left : {A : Type 0} (xs : List A) → length xs ≡ 0 → xs ≡ []
none_left [] none = refl
none_left (x ∷ xs) none = absurd (omega (arith, none))

-- if there are as many, they are the same
same_ids : (last : ℕ) (rows after : List RequestRow) → OnlyAddedOrDeclined rows after
    → length (up_to last (declined_ids after)) ≡ length (up_to last (declined_ids rows))
    → up_to last (declined_ids after) ≡ up_to last (declined_ids rows)
same_ids last [] after added as_many = none_left _ as_many
same_ids last (row ∷ rows) [] added as_many = absurd added
same_ids last (row ∷ rows) (next ∷ others) (same, added) as_many =
    let id = same_id row next same in
    let stays = still_declined row next same in
    let more = more_ids last rows others added in
    grind (arith, id, stays, more, as_many, same_ids last rows others added)

-- a declined request stays declined
pub ids_stay : (id : ℕ) (rows after : List RequestRow) → OnlyAddedOrDeclined rows after → has_id id (declined_ids rows) ≡ true → has_id id (declined_ids after) ≡ true
ids_stay id [] after added has = absurd (let bad : ⊥ = cc in bad)
ids_stay id (row ∷ rows) [] added has = absurd added
ids_stay id (row ∷ rows) (next ∷ others) (same, added) has =
    let id_is = same_id row next same in
    let stays = still_declined row next same in
    grind (arith, id_is, stays, has, ids_stay id rows others added)

-- ---- the declines of positions

-- the declines are those of the requests, up to the last of them
abbrev pub AreCounted : List RequestRow → Declines → Type 0
AreCounted requests declines =
    (length (up_to declines.last (declined_ids requests)) ≡ declines.count) × (declines.last ≡ last_of 0 (up_to declines.last (declined_ids requests)))

-- these ids have all those up to the last of the declines
abbrev pub AreHad : List RequestRow → Declines → List ℕ → Type 0
AreHad requests declines had =
    (id : ℕ) → has_id id (up_to declines.last (declined_ids requests)) ≡ true → has_id id had ≡ true

-- the declines that a page continues
pub from_counted : (rows after : List RequestRow) (declines : Declines) (had : List ℕ) → OnlyAddedOrDeclined rows after → NumberedFrom (λ row. row.id) 1 after
    → AreCounted rows declines → AreHad rows declines had
    → AreCounted after (declines_from after declines) × AreHad after (declines_from after declines) had
from_counted rows after declines had added numbered counted has = elim (cases_Bool (length (filter (λ row. row.declined && nat_le row.id declines.last) after) == declines.count)) [
  | inl is ↦
      let as_counted : length (filter (λ (row : RequestRow). row.declined && nat_le row.id declines.last) after) ≡ declines.count = grind (arith, nat_tests) in
      let here : length (up_to declines.last (declined_ids after)) ≡ declines.count = sym (counted_ids declines.last after) ∙ as_counted in
      let same = same_ids declines.last rows after added (here ∙ sym counted.0) in
      rw is ((here, counted.1 ∙ ap (last_of 0) (sym same)), (λ id among. has id (ap (has_id id) (sym same) ∙ among)))
  | inr not ↦
      let none : up_to 0 (declined_ids after) ≡ [] = none_up_to 0 0 (declined_ids after) (omega arith) (ids_rise 1 0 after (omega arith) numbered) in
      rw not ((ap length none, ap (last_of 0) (sym none)), (λ id among. absurd (let bad : ⊥ = cc in bad)))
]

-- and the next ids after them
pub next_counted : (n : ℕ) (requests : List RequestRow) (from : Declines) (ids had : List ℕ) → NumberedFrom (λ row. row.id) 1 requests
    → ids ≡ take n (filter (nat_lt from.last) (declined_ids requests)) → AreCounted requests from → AreHad requests from had
    → AreCounted requests (declines_after from ids) × AreHad requests (declines_after from ids) (had ++ ids)
next_counted n requests from ids had numbered are counted has =
    let all = declined_ids requests in
    let last : (declines_after from ids).last ≡ last_of from.last (take n (filter (nat_lt from.last) all)) = last_is from.last ids ∙ ap (last_of from.last) are in
    let both : up_to (declines_after from ids).last all ≡ up_to from.last all ++ ids =
    ap (λ l. up_to l all) last ∙ next_up_to n from.last 0 all (ids_rise 1 0 requests (omega arith) numbered) ∙ ap (λ l. up_to from.last all ++ l) (sym are) in (
      (
        ap length both ∙ length-append (up_to from.last all) ids ∙ ap (λ n. n + length ids) counted.0,
        last_is from.last ids ∙ ap (λ n. last_of n ids) counted.1 ∙ last_join 0 (up_to from.last all) ids ∙ ap (last_of 0) (sym both),
      ),
      (λ id among. joined id (up_to from.last all) ids had (has id) (ap (has_id id) (sym both) ∙ among)),
    )

-- the positions after all of them
pub all_positions : (requests : List RequestRow) (from : Declines) (ids : List ℕ) → NumberedFrom (λ row. row.id) 1 requests → ids ≡ filter (nat_lt from.last) (declined_ids requests)
    → AreCounted requests from → declines_after from ids ≡ declines_after no_declines (declined_ids requests)
all_positions requests from ids numbered are counted =
    let all = declined_ids requests in
    let whole : up_to from.last all ++ ids ≡ all = ap (λ l. up_to from.last all ++ l) are ∙ all_up_to from.last 0 all (ids_rise 1 0 requests (omega arith) numbered) in
    let size : length (up_to from.last all) + length ids ≡ length all = sym (length-append (up_to from.last all) ids) ∙ ap length whole in
    let first = counted.0 in
    let count : from.count + length ids ≡ 0 + length all = omega (arith, size, first) in
    let last = last_is from.last ids ∙ ap (λ n. last_of n ids) counted.1 ∙ last_join 0 (up_to from.last all) ids ∙ ap (last_of 0) whole ∙ sym (last_is 0 all) in
    λ i. record { count = count i; last = last i }

-- all of them, if the next ids are all that are left
pub all_counted : (requests : List RequestRow) (from : Declines) (ids had : List ℕ) → ids ≡ filter (nat_lt from.last) (declined_ids requests) → AreHad requests from had
    → (id : ℕ) → has_id id (declined_ids requests) ≡ true → has_id id (had ++ ids) ≡ true
all_counted requests from ids had are has id among =
    let all = declined_ids requests in
    joined id (up_to from.last all) ids had (has id) (ap (λ l. has_id id (up_to from.last all ++ l)) are ∙ below_or_above from.last id all among)

-- the declines of the requests themselves
pub own_counted : (rows : List RequestRow) (declines : Declines) → NumberedFrom (λ row. row.id) 1 rows → declines ≡ declines_after no_declines (declined_ids rows)
    → AreCounted rows declines × AreHad rows declines (declined_ids rows)
own_counted rows declines numbered are =
    let all = declined_ids rows in
    let whole : take (length all) all ≡ all = take_all (length all) all (omega arith) in
    let last : declines.last ≡ last_of 0 all = ap (λ (d : Declines). d.last) are ∙ last_is 0 all in
    let count : declines.count ≡ 0 + length all = ap (λ (d : Declines). d.count) are in
    let all_of : up_to declines.last all ≡ all =
    ap (λ n. up_to n all) last ∙ ap (λ l. up_to (last_of 0 l) all) (sym whole) ∙ first_up_to (length all) 0 all (ids_rise 1 0 rows (omega arith) numbered) ∙ whole in
    ((ap length all_of ∙ (let same : length all ≡ declines.count = omega (arith, count) in same), last ∙ ap (last_of 0) (sym all_of)), (λ id among. ap (has_id id) (sym all_of) ∙ among))

-- ---- where an id is

among_taken : (n id : ℕ) (ids : List ℕ) → has_id id (take n ids) ≡ true → has_id id ids ≡ true
among_taken zero id ids has = absurd (let bad : ⊥ = cc in bad)
among_taken (suc n) id [] has = has
among_taken (suc n) id (x ∷ xs) has = grind (arith, has, among_taken n id xs)

among_filtered : (test : ℕ → Bool) (id : ℕ) (ids : List ℕ) → has_id id (filter test ids) ≡ true → has_id id ids ≡ true
among_filtered test id [] has = has
among_filtered test id (x ∷ xs) has = grind (arith, has, among_filtered test id xs)

-- an id of a part
pub taken_among : (n id from : ℕ) (ids all : List ℕ) → ids ≡ take n (filter (nat_lt from) all) → has_id id ids ≡ true → has_id id all ≡ true
taken_among n id from ids all are has = among_filtered (nat_lt from) id all (among_taken n id (filter (nat_lt from) all) (ap (has_id id) (sym are) ∙ has))

pub either : (b c holds : Bool) → (b || c) ≡ true → (b ≡ true → holds ≡ true) → (c ≡ true → holds ≡ true) → holds ≡ true
either true c holds one first second = first refl
either false true holds one first second = second refl
either false false holds one first second = absurd (let bad : ⊥ = cc in bad)

-- in the first ids, or in those after them
pub one_of : (id : ℕ) (ids more : List ℕ) (holds : Bool) → has_id id (ids ++ more) ≡ true → (has_id id ids ≡ true → holds ≡ true) → (has_id id more ≡ true → holds ≡ true) → holds ≡ true
one_of id ids more holds has first second = either (has_id id ids) (has_id id more) holds (sym (list_any-append (λ x. x == id) ids more) ∙ has) first second
