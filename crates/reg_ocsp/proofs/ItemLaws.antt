-- Items of any kind, read one after another.
use Rattle.std.proofs.Common.{◌≡◌, ℕ, zero, suc, ◌<◌, ◌≤◌, List, [], ◌∷◌, ◌++◌, length, map, Option, Some, refl, sym, ap, subst, ◌∙◌, arith}
use Rattle.std.specs.List.{flat_map, AllByRecursion}
use Rattle.std.proofs.lemmas.List.{length-append}
use Rattle.reg_core.specs.Integer.{IsBytes}
use Rattle.reg_core.specs.Sequence.{◌>>=◌}
use Rattle.reg_der.specs.ValueReading.{Takes}
use Rattle.reg_der.proofs.PublicLaws.{bind_same, bind_then, some_is}
use Rattle.reg_der.specs.TaggedValues.{items_at, all_at}

-- an item was taken from the front: its tree, which is spelled and seen so
pub record TakesItem {T V : Type 0} (spell : T → List ℕ) (view : T → V) (Fits : T → Type 0) (bytes : List ℕ) (seen : V) (rest : List ℕ) : Type 0 where
  pub tree : T
  pub fits : Fits tree
  pub taken : Takes bytes (spell tree) rest
  pub same : seen ≡ view tree

-- a reader of one item, and the trees that it reads
pub record Reads {T V : Type 0} (item : List ℕ → Option (V × List ℕ)) (spell : T → List ℕ) (view : T → V) (Fits : T → Type 0) : Type 0 where
  pub takes : (bytes : List ℕ) (x : V × List ℕ) → IsBytes bytes → item bytes ≡ Some x → TakesItem spell view Fits bytes x.0 x.1
  pub again : (t : T) (rest : List ℕ) → Fits t → length (spell t) ≤ 65536 → item (spell t ++ rest) ≡ Some (view t, rest)
  pub some : (t : T) → 1 ≤ length (spell t)

-- items to the end
pub record TakesAll {T V : Type 0} (spell : T → List ℕ) (view : T → V) (Fits : T → Type 0) (bytes : List ℕ) (seen : List V) : Type 0 where
  pub trees : List T
  pub fits : AllByRecursion Fits trees
  pub spelled : bytes ≡ flat_map spell trees
  pub same : seen ≡ map view trees

abbrev then_items : {V : Type 0} → (List ℕ → Option (V × List ℕ)) → ℕ → V × List ℕ → Option (List V)
then_items item fuel x = items_at item fuel x.1 >>= λ xs. Some (x.0 ∷ xs)

abbrev with_first : {V : Type 0} → V → List V → Option (List V)
with_first x xs = Some (x ∷ xs)

pub items_none : {V : Type 0} (item : List ℕ → Option (V × List ℕ)) (fuel : ℕ) → items_at item fuel [] ≡ Some []
items_none item zero = refl
items_none item (suc fuel) = refl

pub items_step : {V : Type 0} (item : List ℕ → Option (V × List ℕ)) (fuel : ℕ) (bytes : List ℕ) → 1 ≤ length bytes → items_at item (suc fuel) bytes ≡ (item bytes >>= then_items item fuel)
items_step item fuel [] some = absurd (omega arith)
items_step item fuel (first ∷ rest) some = refl

taken_shorter : {T V : Type 0} (item : List ℕ → Option (V × List ℕ)) (spell : T → List ℕ) (view : T → V) (Fits : T → Type 0) → Reads item spell view Fits
    → (bytes : List ℕ) (x : V × List ℕ) → IsBytes bytes → item bytes ≡ Some x → (length x.1 < length bytes) × IsBytes x.1
taken_shorter item spell view Fits reads bytes x each e =
    let t = reads.takes bytes x each e in
    let some = reads.some t.tree in
    (omega (arith, ap length t.taken.parts, length-append (spell t.tree) x.1), t.taken.each)

same_more : {V : Type 0} {x y : V} {xs ys : List V} → x ≡ y → xs ≡ ys → x ∷ xs ≡ y ∷ ys
same_more e es = cc

abbrev some_list : {V : Type 0} → List V → Option (List V)
some_list xs = Some xs

items_take_none : {T V : Type 0} (item : List ℕ → Option (V × List ℕ)) (spell : T → List ℕ) (view : T → V) (Fits : T → Type 0) (xs : List V) → some_list [] ≡ some_list xs → TakesAll spell view Fits [] xs
items_take_none item spell view Fits xs e = subst (λ (ys : List _). TakesAll spell view Fits [] ys) (some_is [] xs e) (record { trees = []; fits = tt; spelled = refl; same = refl })

pub items_take : {T V : Type 0} (item : List ℕ → Option (V × List ℕ)) (spell : T → List ℕ) (view : T → V) (Fits : T → Type 0) → Reads item spell view Fits
    → (fuel : ℕ) (bytes : List ℕ) (xs : List V) → IsBytes bytes → items_at item fuel bytes ≡ Some xs → TakesAll spell view Fits bytes xs
items_take item spell view Fits reads zero [] xs each e = items_take_none item spell view Fits xs e
items_take item spell view Fits reads zero (first ∷ rest) xs each e = absurd cc
items_take item spell view Fits reads (suc fuel) [] xs each e = items_take_none item spell view Fits xs e
items_take item spell view Fits reads (suc fuel) (first ∷ rest) xs each e =
    bind_then (item (first ∷ rest)) (then_items item fuel) xs e (λ x read then.
    bind_then (items_at item fuel x.1) (with_first x.0) xs then (λ others read_others made.
    let t = reads.takes (first ∷ rest) x each read in
    let ts = items_take item spell view Fits reads fuel x.1 others t.taken.each read_others in
    subst (λ (ys : List _). TakesAll spell view Fits (first ∷ rest) ys) (some_is (x.0 ∷ others) xs made)
    (record {
      trees = t.tree ∷ ts.trees;
      fits = (t.fits, ts.fits);
      spelled = t.taken.parts ∙ ap (λ (r : List ℕ). spell t.tree ++ r) ts.spelled;
      same = same_more t.same ts.same;
    })))

-- fuel for each byte is enough
pub items_room : {T V : Type 0} (item : List ℕ → Option (V × List ℕ)) (spell : T → List ℕ) (view : T → V) (Fits : T → Type 0) → Reads item spell view Fits
    → (a b : ℕ) (bytes : List ℕ) → IsBytes bytes → length bytes ≤ a → length bytes ≤ b → items_at item a bytes ≡ items_at item b bytes
items_room item spell view Fits reads a b [] each la lb = items_none item a ∙ sym (items_none item b)
items_room item spell view Fits reads zero b (first ∷ rest) each la lb = absurd (omega arith)
items_room item spell view Fits reads (suc a) zero (first ∷ rest) each la lb = absurd (omega arith)
items_room item spell view Fits reads (suc a) (suc b) (first ∷ rest) each la lb =
    bind_same (item (first ∷ rest)) (then_items item a) (then_items item b) (λ x read.
    let less = taken_shorter item spell view Fits reads (first ∷ rest) x each read in
    let shorter = less.0 in
    ap (λ (o : Option (List _)). o >>= with_first x.0) (items_room item spell view Fits reads a b x.1 less.1 (omega arith) (omega arith)))

pub items_again : {T V : Type 0} (item : List ℕ → Option (V × List ℕ)) (spell : T → List ℕ) (view : T → V) (Fits : T → Type 0) → Reads item spell view Fits
    → (ts : List T) (fuel : ℕ) → AllByRecursion Fits ts → length (flat_map spell ts) ≤ fuel → length (flat_map spell ts) ≤ 65536 → items_at item fuel (flat_map spell ts) ≡ Some (map view ts)
items_again item spell view Fits reads [] fuel fits room small = items_none item fuel
items_again item spell view Fits reads (t ∷ ts) zero fits room small =
    let some = reads.some t in
    absurd (omega (arith, length-append (spell t) (flat_map spell ts)))
items_again item spell view Fits reads (t ∷ ts) (suc fuel) fits room small =
    let some = reads.some t in
    let len = length-append (spell t) (flat_map spell ts) in
    let first = reads.again t (flat_map spell ts) fits.0 (omega arith) in
    let others = items_again item spell view Fits reads ts fuel fits.1 (omega arith) (omega arith) in
    items_step item fuel (spell t ++ flat_map spell ts) (omega arith) ∙ rw (first, others) refl

-- ---- the steps of a loop

pub all_step : {T V : Type 0} (item : List ℕ → Option (V × List ℕ)) (spell : T → List ℕ) (view : T → V) (Fits : T → Type 0) → Reads item spell view Fits
    → (bytes : List ℕ) (x : V) (rest : List ℕ) → IsBytes bytes → 1 ≤ length bytes → item bytes ≡ Some (x, rest) → all_at item bytes ≡ (all_at item rest >>= with_first x)
all_step item spell view Fits reads [] x rest each some read = absurd (omega arith)
all_step item spell view Fits reads (first ∷ after) x rest each some read =
    let less = taken_shorter item spell view Fits reads (first ∷ after) (x, rest) each read in
    let shorter = less.0 in
    rw read (ap (λ (o : Option (List _)). o >>= with_first x) (items_room item spell view Fits reads (length after) (length rest) rest less.1 (omega arith) (omega arith)))
