-- Lists: what holds of each row, look-ups, filters and numbers, as rows are added at the end.
use Rattle.std.proofs.Common.{◌≡◌, ◌≢◌, ℕ, zero, suc, ◌+◌, ◌<◌, ◌≤◌, Bool, cond, not, ◌||◌, ◌==◌, List, [], ◌∷◌, ◌++◌, length, map, filter, find, Option, Some, None, option_map, is_some, IfSome, IsTrue, IsFalse, IsSome, IsSomeAnd, refl, ◌∙◌, arith}
use Rattle.std.specs.List.{AllByRecursion, list_any}
use Rattle.std.proofs.lemmas.Bool.Decides.{nat_tests}
use Rattle.reg_core.specs.Sound.{NumberedFrom, KeysDiffer, NeverDecreases}

-- WHAT HOLDS OF EACH ROW

pub all_append : {Row : Type 0} (P : Row → Type 0) (rows more : List Row) → AllByRecursion P rows → AllByRecursion P more → AllByRecursion P (rows ++ more)
all_append P [] more all others = others
all_append P (row ∷ rows) more all others = (all.0, all_append P rows more all.1 others)

pub all_push : {Row : Type 0} (P : Row → Type 0) (rows : List Row) (row : Row) → AllByRecursion P rows → P row → AllByRecursion P (rows ++ row ∷ [])
all_push P rows row all here = all_append P rows (row ∷ []) all (here, tt)

pub all_front : {Row : Type 0} (P : Row → Type 0) (rows more : List Row) → AllByRecursion P (rows ++ more) → AllByRecursion P rows
all_front P [] more all = tt
all_front P (row ∷ rows) more all = (all.0, all_front P rows more all.1)

pub all_back : {Row : Type 0} (P : Row → Type 0) (rows more : List Row) → AllByRecursion P (rows ++ more) → AllByRecursion P more
all_back P [] more all = all
all_back P (row ∷ rows) more all = all_back P rows more all.1

-- of two facts a third follows
pub all_join : {Row : Type 0} (P Q R : Row → Type 0) → ((row : Row) → P row → Q row → R row) → (rows : List Row) → AllByRecursion P rows
    → AllByRecursion Q rows → AllByRecursion R rows
all_join P Q R joined [] all others = tt
all_join P Q R joined (row ∷ rows) all others = (joined row all.0 others.0, all_join P Q R joined rows all.1 others.1)

pub all_weaker : {Row : Type 0} (P Q : Row → Type 0) → ((row : Row) → P row → Q row) → (rows : List Row) → AllByRecursion P rows → AllByRecursion Q rows
all_weaker P Q weaker rows all = all_join P P Q (λ row here again. weaker row here) rows all all

-- what holds of any row at all
pub all_any : {Row : Type 0} (P : Row → Type 0) → ((row : Row) → P row) → (rows : List Row) → AllByRecursion P rows
all_any P each [] = tt
all_any P each (row ∷ rows) = (each row, all_any P each rows)

pub all_map : {Row Other : Type 0} (P : Other → Type 0) (f : Row → Other) (rows : List Row) → AllByRecursion (λ row. P (f row)) rows
    → AllByRecursion P (map f rows)
all_map P f [] all = tt
all_map P f (row ∷ rows) all = (all.0, all_map P f rows all.1)

-- LOOK-UPS

-- what holds of each row holds of the one that is found
pub all_found : {Row : Type 0} (P : Row → Type 0) (test : Row → Bool) (rows : List Row) (row : Row) → find test rows ≡ Some row → AllByRecursion P rows → P row
all_found P test [] row found all = cc
all_found P test (first ∷ rest) row found all = grind (arith, all_found P test rest row)

-- the row that is found passes
pub find_passes : {Row : Type 0} (test : Row → Bool) (rows : List Row) (row : Row) → find test rows ≡ Some row → IsTrue (test row)
find_passes test [] row found = cc
find_passes test (first ∷ rest) row found = grind (arith, find_passes test rest row)

-- where nothing is found, no row passes
pub none_passes : {Row : Type 0} (test : Row → Bool) (rows : List Row) → find test rows ≡ None → AllByRecursion (λ row. IsFalse (test row)) rows
none_passes test [] none = tt
none_passes test (first ∷ rest) none = grind (arith, none_passes test rest)

-- where no row passes, nothing is found
pub find_none : {Row : Type 0} (test : Row → Bool) (rows : List Row) → AllByRecursion (λ row. IsFalse (test row)) rows → find test rows ≡ None
find_none test [] all = refl
find_none test (first ∷ rest) all = rw all.0 (find_none test rest all.1)

-- a look-up among rows and more: the first row that passes among the rows, else among those that follow
pub find_append : {Row : Type 0} (test : Row → Bool) (rows more : List Row)
    → find test (rows ++ more) ≡ cond (is_some (find test rows)) (find test rows) (find test more)
find_append test [] more = refl
find_append test (first ∷ rest) more = grind (arith, find_append test rest more)

-- a row that was found is found where more rows follow
pub find_front : {Row : Type 0} (test : Row → Bool) (rows more : List Row) (row : Row) → find test rows ≡ Some row → find test (rows ++ more) ≡ Some row
find_front test rows more row found = grind (arith, find_append test rows more)

-- where nothing was found, the look-up goes on in the rows that follow
pub find_back : {Row : Type 0} (test : Row → Bool) (rows more : List Row) → find test rows ≡ None → find test (rows ++ more) ≡ find test more
find_back test rows more none = grind (arith, find_append test rows more)

-- rows that do not pass change no look-up
pub find_past : {Row : Type 0} (test : Row → Bool) (rows more : List Row) → AllByRecursion (λ row. IsFalse (test row)) more
    → find test (rows ++ more) ≡ find test rows
find_past test rows more all = grind (arith, find_append test rows more, find_none test more all)

-- two tests that agree at each row find the same
pub find_same : {Row : Type 0} (p q : Row → Bool) (rows : List Row) → AllByRecursion (λ row. p row ≡ q row) rows → find p rows ≡ find q rows
find_same p q [] all = refl
find_same p q (first ∷ rest) all = cc (all.0, find_same p q rest all.1)

-- a look-up among changed rows, where the change does not touch what is tested
pub find_map : {Row : Type 0} (test : Row → Bool) (f : Row → Row) → ((row : Row) → test (f row) ≡ test row) → (rows : List Row)
    → find test (map f rows) ≡ option_map f (find test rows)
find_map test f same [] = refl
find_map test f same (first ∷ rest) = grind (arith, same first, find_map test f same rest)

-- rows with one more are some
pub pushed_some : {Row : Type 0} (rows : List Row) (row : Row) → (rows ++ row ∷ []) ≢ []
pushed_some [] row none = cc
pushed_some (first ∷ rest) row none = cc

-- FILTERS

-- two tests that agree at each row keep the same rows
pub filter_same : {Row : Type 0} (p q : Row → Bool) (rows : List Row) → AllByRecursion (λ row. p row ≡ q row) rows → filter p rows ≡ filter q rows
filter_same p q [] all = refl
filter_same p q (first ∷ rest) all = cc (all.0, filter_same p q rest all.1)

-- a test that no row passes keeps nothing
pub filter_none : {Row : Type 0} (test : Row → Bool) (rows : List Row) → AllByRecursion (λ row. IsFalse (test row)) rows → filter test rows ≡ []
filter_none test [] all = refl
filter_none test (first ∷ rest) all = rw all.0 (filter_none test rest all.1)

-- a test that each row passes keeps all
pub filter_all : {Row : Type 0} (test : Row → Bool) (rows : List Row) → AllByRecursion (λ row. IsTrue (test row)) rows → filter test rows ≡ rows
filter_all test [] all = refl
filter_all test (first ∷ rest) all = cc (all.0, filter_all test rest all.1)

-- what holds of each row holds of those that are kept
pub all_kept : {Row : Type 0} (P : Row → Type 0) (test : Row → Bool) (rows : List Row) → AllByRecursion P rows → AllByRecursion P (filter test rows)
all_kept P test [] all = tt
all_kept P test (first ∷ rest) all = grind (arith, all_kept P test rest all.1)

-- each row that is kept passes
pub kept_pass : {Row : Type 0} (test : Row → Bool) (rows : List Row) → AllByRecursion (λ row. IsTrue (test row)) (filter test rows)
kept_pass test [] = tt
kept_pass test (first ∷ rest) = grind (arith, kept_pass test rest)

-- WHETHER ANY PASSES

pub any_append : {Row : Type 0} (test : Row → Bool) (rows more : List Row) → list_any test (rows ++ more) ≡ (list_any test rows || list_any test more)
any_append test [] more = refl
any_append test (first ∷ rest) more = grind (arith, any_append test rest more)

-- a row that passes, at the end
pub any_last : {Row : Type 0} (test : Row → Bool) (rows : List Row) (row : Row) → IsTrue (test row) → IsTrue (list_any test (rows ++ row ∷ []))
any_last test rows row passes = grind (arith, any_append test rows (row ∷ []))

-- where no row passes, none does
pub any_none : {Row : Type 0} (test : Row → Bool) (rows : List Row) → AllByRecursion (λ row. IsFalse (test row)) rows → IsFalse (list_any test rows)
any_none test [] all = refl
any_none test (first ∷ rest) all = cc (all.0, any_none test rest all.1)

pub none_any : {Row : Type 0} (test : Row → Bool) (rows : List Row) → IsFalse (list_any test rows) → AllByRecursion (λ row. IsFalse (test row)) rows
none_any test [] none = tt
none_any test (first ∷ rest) none = grind (arith, none_any test rest)

-- rows that do not pass change nothing
pub any_past : {Row : Type 0} (test : Row → Bool) (rows more : List Row) → AllByRecursion (λ row. IsFalse (test row)) more
    → list_any test (rows ++ more) ≡ list_any test rows
any_past test rows more all = grind (arith, any_append test rows more, any_none test more all)

-- two tests that agree at each row
pub any_same : {Row : Type 0} (p q : Row → Bool) (rows : List Row) → AllByRecursion (λ row. p row ≡ q row) rows → list_any p rows ≡ list_any q rows
any_same p q [] all = refl
any_same p q (first ∷ rest) all = cc (all.0, any_same p q rest all.1)

-- NUMBERS, KEYS AND VALUES THAT DO NOT FALL

pub numbered_push : {Row : Type 0} (number : Row → ℕ) (from : ℕ) (rows : List Row) (row : Row) → NumberedFrom number from rows
    → number row ≡ from + length rows → NumberedFrom number from (rows ++ row ∷ [])
numbered_push number from [] row numbered next = (omega arith, tt)
numbered_push number from (first ∷ rest) row numbered next = (numbered.0, numbered_push number (from + 1) rest row numbered.1 (omega arith))

pub numbered_above : {Row : Type 0} (number : Row → ℕ) (from : ℕ) (rows : List Row) → NumberedFrom number from rows
    → AllByRecursion (λ row. from ≤ number row) rows
numbered_above number from [] numbered = tt
numbered_above number from (first ∷ rest) numbered =
    (omega (arith, numbered.0), all_weaker _ _ (λ row least. omega arith) rest (numbered_above number (from + 1) rest numbered.1))

pub numbered_below : {Row : Type 0} (number : Row → ℕ) (from : ℕ) (rows : List Row) → NumberedFrom number from rows
    → AllByRecursion (λ row. number row < from + length rows) rows
numbered_below number from [] numbered = tt
numbered_below number from (first ∷ rest) numbered =
    (omega (arith, numbered.0), all_weaker _ _ (λ row below. omega arith) rest (numbered_below number (from + 1) rest numbered.1))

pub numbered_map : {Row : Type 0} (number : Row → ℕ) (f : Row → Row) → ((row : Row) → number (f row) ≡ number row) → (from : ℕ) (rows : List Row)
    → NumberedFrom number from rows → NumberedFrom number from (map f rows)
numbered_map number f same from [] numbered = tt
numbered_map number f same from (first ∷ rest) numbered = (same first ∙ numbered.0, numbered_map number f same (from + 1) rest numbered.1)

pub keys_push : {Row Key : Type 0} (key : Row → Key) (rows : List Row) (row : Row) → KeysDiffer key rows
    → AllByRecursion (λ other. key other ≢ key row) rows → KeysDiffer key (rows ++ row ∷ [])
keys_push key [] row differ new = (tt, tt)
keys_push key (first ∷ rest) row differ new = (all_push _ rest row differ.0 new.0, keys_push key rest row differ.1 new.1)

pub falls_push : {Row : Type 0} (value : Row → ℕ) (rows : List Row) (row : Row) → NeverDecreases value rows
    → AllByRecursion (λ other. value other ≤ value row) rows → NeverDecreases value (rows ++ row ∷ [])
falls_push value [] row never new = (tt, tt)
falls_push value (first ∷ rest) row never new = (all_push _ rest row never.0 new.0, falls_push value rest row never.1 new.1)

-- a change of rows that leaves the value
pub falls_map : {Row : Type 0} (value : Row → ℕ) (f : Row → Row) → ((row : Row) → value (f row) ≡ value row) → (rows : List Row)
    → NeverDecreases value rows → NeverDecreases value (map f rows)
falls_map value f same [] never = tt
falls_map value f same (first ∷ rest) never =
    (all_map _ f rest (all_weaker _ _ (λ later le. omega (arith, le, same first, same later)) rest never.0), falls_map value f same rest never.1)

pub keys_kept : {Row Key : Type 0} (key : Row → Key) (test : Row → Bool) (rows : List Row) → KeysDiffer key rows → KeysDiffer key (filter test rows)
keys_kept key test [] differ = tt
keys_kept key test (first ∷ rest) differ =
    grind (arith, all_kept (λ other. key first ≢ key other) test rest differ.0, keys_kept key test rest differ.1)

-- under keys that differ each row is the one that its key finds
pub each_found : {Row : Type 0} (key : Row → ℕ) (rows : List Row) → KeysDiffer key rows
    → AllByRecursion (λ row. find (λ other. key other == key row) rows ≡ Some row) rows
each_found key [] differ = tt
each_found key (first ∷ rest) differ = (
  grind (arith, nat_tests),
  all_join _ _ _ (λ row differs found. grind (arith, nat_tests)) rest differ.0 (each_found key rest differ.1),
)

-- without the row of one key at most one row is missing
one_out : {Row : Type 0} (key : Row → ℕ) (out : ℕ) (rows : List Row) → KeysDiffer key rows
    → length rows ≤ suc (length (filter (λ row. not (key row == out)) rows))
one_out key out [] differ = omega arith
one_out key out (first ∷ rest) differ =
    grind (arith, nat_tests, others_kept, one_out key out rest differ.1)
  where
    others_kept : key first ≡ out → filter (λ row. not (key row == out)) rest ≡ rest
    others_kept is = filter_all _ rest (all_weaker _ _ (λ row differs. grind (arith, nat_tests)) rest differ.0)

-- rows whose keys differ and are m numbers are no more than m
pub few_keys : {Row : Type 0} (key : Row → ℕ) (from m : ℕ) (rows : List Row) → KeysDiffer key rows → AllByRecursion (λ row. from ≤ key row) rows
    → AllByRecursion (λ row. key row < from + m) rows → length rows ≤ m
few_keys key from zero [] differ above below = omega arith
few_keys key from zero (first ∷ rest) differ above below = absurd (omega (arith, above.0, below.0))
few_keys key from (suc m) rows differ above below =
    let out = λ (row : _). not (key row == from + m) in
    let lower : AllByRecursion (λ row. key row < from + m) (filter out rows) =
    all_join _ _ _ (λ row less passes. grind (arith, nat_tests)) (filter out rows)
    (all_kept (λ row. key row < from + suc m) out rows below) (kept_pass out rows) in
    omega (arith, one_out key (from + m) rows differ, few_keys key from m (filter out rows) (keys_kept key out rows differ) (all_kept _ out rows above) lower)

-- LOOK-UPS BY A NUMBER

-- the row that a key finds has the key
pub key_found : {Row : Type 0} (key : Row → ℕ) (rows : List Row) (target : ℕ) (row : Row) → find (λ other. key other == target) rows ≡ Some row
    → key row ≡ target
key_found key rows target row found = grind (arith, nat_tests, find_passes (λ other. key other == target) rows row found)

-- a key that finds no row is none of theirs
pub key_new : {Row : Type 0} (key : Row → ℕ) (rows : List Row) (target : ℕ) → find (λ other. key other == target) rows ≡ None
    → AllByRecursion (λ row. key row ≢ target) rows
key_new key rows target none = all_weaker _ _ (λ row fails. grind (arith, nat_tests)) rows (none_passes _ rows none)

-- where its key is free, a row that comes behind is found by it, and no other look-up changes
pub key_pushed : {Row : Type 0} (key : Row → ℕ) (rows : List Row) (row : Row) (target : ℕ) → find (λ other. key other == key row) rows ≡ None
    → find (λ other. key other == target) (rows ++ row ∷ []) ≡ cond (key row == target) (Some row) (find (λ other. key other == target) rows)
key_pushed key [] row target free = refl
key_pushed key (first ∷ rest) row target free = grind (arith, nat_tests, key_pushed key rest row target)

-- OPTIONS

-- what is there
pub some_of : {Value : Type 0} (value : Option Value) → IsSome value → (known : Value) × (value ≡ Some known)
some_of None some = cc
some_of (Some known) some = (known, refl)

pub some_and_of : {Value : Type 0} (P : Value → Type 0) (value : Option Value) → IsSomeAnd value P → (known : Value) × (value ≡ Some known) × P known
some_and_of P None some = absurd some
some_and_of P (Some known) some = (known, refl, some)

-- what holds of a value that is there
pub some_at : {Value : Type 0} (P : Value → Type 0) (value : Option Value) (known : Value) → value ≡ Some known → IsSomeAnd value P → P known
some_at P value known is some = rw is at some

pub some_here : {Value : Type 0} (value : Option Value) (known : Value) → value ≡ Some known → IsSome value
some_here value known is = rw is

pub some_and_here : {Value : Type 0} (P : Value → Type 0) (value : Option Value) (known : Value) → value ≡ Some known → P known → IsSomeAnd value P
some_and_here P value known is here = rw is here

pub some_weaker : {Value : Type 0} (P Q : Value → Type 0) → ((known : Value) → P known → Q known) → (value : Option Value) → IsSomeAnd value P
    → IsSomeAnd value Q
some_weaker P Q weaker None some = absurd some
some_weaker P Q weaker (Some known) some = weaker known some

-- a look-up that found a row finds one where more rows follow
pub some_front : {Row : Type 0} (test : Row → Bool) (rows more : List Row) → IsSome (find test rows) → IsSome (find test (rows ++ more))
some_front test rows more some = grind (arith, find_append test rows more)

-- and the same of the row
pub some_and_front : {Row : Type 0} (P : Row → Type 0) (test : Row → Bool) (rows more : List Row) → IsSomeAnd (find test rows) P
    → IsSomeAnd (find test (rows ++ more)) P
some_and_front P test rows more some = grind (arith, find_append test rows more)

-- what is there with a property is there
pub some_and_some : {Value : Type 0} (P : Value → Type 0) (value : Option Value) → IsSomeAnd value P → IsSome value
some_and_some P None some = absurd some
some_and_some P (Some known) some = refl

-- where nothing was found, all holds of it
pub if_some_none : {Value : Type 0} (P : Value → Type 0) (value : Option Value) → value ≡ None → IfSome value P
if_some_none P value none = rw none tt

-- what holds of what a look-up finds, and of the row that comes behind, holds of what it finds among both
pub if_some_push : {Row : Type 0} (P : Row → Type 0) (test : Row → Bool) (rows : List Row) (row : Row) → IfSome (find test rows) P → P row
    → IfSome (find test (rows ++ row ∷ [])) P
if_some_push P test rows row old here = grind (arith, find_append test rows (row ∷ []))
