-- The last listing of a revocation, found by halves.
use Rattle.std.proofs.Common.{◌≡◌, ◌<◌, ◌≤◌, ◌+◌, ◌&&◌, ℕ, zero, suc, Bool, true, false, cond, not, List, [], ◌∷◌, length, find, get_or, slice_get, None, Some, option_map, refl, sym, ap, ◌∙◌, arith}
use Rattle.std.specs.Prelude.{nat_le, nat_lt}
use Rattle.std.specs.List.{AllByRecursion}
use Rattle.std.specs.List.Sorted.{IsPartitionedBy, IsPartitionPoint}
use Rattle.std.proofs.lemmas.Bool.Decides.{nat_tests}
use Rattle.reg_core.specs.Sound.{NumberedFrom, NeverDecreases}
use Rattle.reg_core.specs.declared.rows.CrlRow.{CrlRow}
use Rattle.reg_store_migration.specs.Refilled.{last_in}

-- a CRL from a number on whose thisUpdate is past a moment
abbrev pub can_be_last_listing : ℕ → ℕ → CrlRow → Bool
can_be_last_listing first not_after crl = nat_le first crl.number && nat_lt not_after crl.this_update

-- a later CRL has a greater number, and its thisUpdate is no earlier
later_number : (from : ℕ) (crls : List CrlRow) → NumberedFrom (λ (crl : CrlRow). crl.number) from crls → (i : ℕ) (d : CrlRow) → i < length crls → (get_or crls i d).number ≡ from + i
later_number from [] numbered i d within = absurd (omega arith)
later_number from (crl ∷ crls) numbered zero d within = let is = numbered.0 in omega arith
later_number from (crl ∷ crls) numbered (suc i) d within = let rest = later_number (from + 1) crls numbered.1 i d (omega arith) in omega arith

each_later : (low : ℕ) (crls : List CrlRow) → AllByRecursion (λ (later : CrlRow). low ≤ later.this_update) crls → (i : ℕ) (d : CrlRow) → i < length crls → low ≤ (get_or crls i d).this_update
each_later low [] all i d within = absurd (omega arith)
each_later low (crl ∷ crls) all zero d within = all.0
each_later low (crl ∷ crls) all (suc i) d within = each_later low crls all.1 i d (omega arith)

later_update : (crls : List CrlRow) → NeverDecreases (λ (crl : CrlRow). crl.this_update) crls → (i j : ℕ) (d : CrlRow) → i ≤ j → j < length crls → (get_or crls i d).this_update ≤ (get_or crls j d).this_update
later_update [] never i j d le within = absurd (omega arith)
later_update (crl ∷ crls) never zero zero d le within = omega arith
later_update (crl ∷ crls) never zero (suc j) d le within = each_later crl.this_update crls never.0 j d (omega arith)
later_update (crl ∷ crls) never (suc i) zero d le within = absurd (omega arith)
later_update (crl ∷ crls) never (suc i) (suc j) d le within = later_update crls never.1 i j d (omega arith) (omega arith)

past_on : (first not_after n m u v : ℕ) → n ≤ m → u ≤ v → not (nat_le first m && nat_lt not_after v) ≡ true → not (nat_le first n && nat_lt not_after u) ≡ true
past_on first not_after n m u v le rise h = grind (arith, nat_tests)

pub past_parted : (first not_after : ℕ) (crls : List CrlRow) → NumberedFrom (λ (crl : CrlRow). crl.number) 1 crls → NeverDecreases (λ (crl : CrlRow). crl.this_update) crls → IsPartitionedBy (λ crl. not (can_be_last_listing first not_after crl)) crls
past_parted first not_after crls numbered never i j d le within h =
    let lower = later_number 1 crls numbered i d (omega arith) in
    let upper = later_number 1 crls numbered j d within in
    past_on first not_after (get_or crls i d).number (get_or crls j d).number (get_or crls i d).this_update (get_or crls j d).this_update (omega arith) (later_update crls never i j d le within) h

-- the first that passes stands where those that do not pass end
find_there : {A : Type 0} (p : A → Bool) (xs : List A) (at : ℕ) → at ≤ length xs → ((k : ℕ) (d : A) → k < at → k < length xs → not (p (get_or xs k d)) ≡ true) → ((d : A) → at < length xs → not (p (get_or xs at d)) ≡ false)
    → find p xs ≡ slice_get xs at
find_there p [] at within before here = refl
find_there p (x ∷ xs) zero within before here =
    let passes : p x ≡ true = not_false (p x) (here x (omega arith)) in ap (λ b. cond b (Some x) (find p xs)) passes
  where
    not_false : (b : Bool) → not b ≡ false → b ≡ true
    not_false true h = refl
    not_false false h = absurd (cc)
find_there p (x ∷ xs) (suc at) within before here =
    let fails : p x ≡ false = not_true (p x) (before zero x (omega arith) (omega arith)) in
    ap (λ b. cond b (Some x) (find p xs)) fails
    ∙ find_there p xs at (omega arith) (λ k d lower short. before (suc k) d (omega arith) (omega arith)) (λ d short. here d (omega arith))
  where
    not_true : (b : Bool) → not b ≡ true → b ≡ false
    not_true true h = absurd (cc)
    not_true false h = refl

pub last_there : (first not_after : ℕ) (crls : List CrlRow) (at : ℕ) → at ≤ length crls → IsPartitionPoint (λ crl. not (can_be_last_listing first not_after crl) ≡ true) (λ crl. not (can_be_last_listing first not_after crl) ≡ false) crls at
    → option_map (λ (crl : CrlRow). crl.number) (slice_get crls at) ≡ last_in crls first not_after
last_there first not_after crls at within point =
    sym (ap (option_map (λ (crl : CrlRow). crl.number)) (find_there (can_be_last_listing first not_after) crls at within (λ k d lower short. point.0 k d (omega arith) lower) (λ d short. point.1 at d (omega arith) short)))

pub none_there : {A : Type 0} (xs : List A) (at : ℕ) → length xs ≤ at → slice_get xs at ≡ None
none_there [] at past = refl
none_there (x ∷ xs) zero past = absurd (omega arith)
none_there (x ∷ xs) (suc at) past = none_there xs at (omega arith)
