-- Lemmas on a buffer that is read into.
use Rattle.std.proofs.Common.{◌≡◌, ℕ, ◌≤◌, ◌+◌, List, [], ◌++◌, length, take, sym, subst, ap, ◌∙◌, arith, append-nil, append_assoc, length-append, add-zero}
use Rattle.std.specs.declared.option.Option.{Option}
use Rattle.std.specs.Io.KnownBytes.{Consumes, Keeps}
use Rattle.std.proofs.KnownBytes.{Consumes-nil, Consumes-trans, Consumes-kept}
use Rattle.std.proofs.Math.Seq.{take-append-add}
use Rattle.std.proofs.lemmas.List.{take-append-le, length-take-le, take_all, take-take}
use Rattle.std.proofs.lemmas.Slice.{take-put_mid_below}
use borrow.Rule.Slice.PartMut.{put_mid, post_of}
use Rattle.reg_io.specs.Fill.{Fills}

-- after a read of n bytes into `buf[a..]`, which left ys there: the first a bytes stayed, and the n bytes follow
pub filled : (a k n : ℕ) (xs ys : List ℕ) → a ≤ length xs → n ≤ length ys → take (a + n) (put_mid a k xs ys) ≡ take a xs ++ take n ys
filled a k n xs ys fits short =
    let front : length (take a xs) ≡ a = length-take-le a xs fits in
    ap (λ m. take (m + n) (put_mid a k xs ys)) (sym front)
    ∙ take-append-add (take a xs) (ys ++ post_of a k xs) n
    ∙ ap (λ l. take a xs ++ l) (take-append-le n ys (post_of a k xs) short)

-- before anything is read
pub fills_start : (input : Option (List ℕ)) (buffer : List ℕ) (buffered : ℕ) → buffered ≤ length buffer → Fills input input buffer buffer buffered []
fills_start input buffer buffered fits = record {
  consumed = Consumes-nil input;
  within = omega arith;
  stands = ap (λ n. take n buffer) (add-zero buffered) ∙ sym (append-nil (take buffered buffer));
}

-- one more reading, behind all that is held by then
pub fills_more : (input middle left : Option (List ℕ)) (before between after : List ℕ) (buffered now : ℕ) (took more : List ℕ)
    → Fills input middle before between buffered took → now ≡ buffered + length took → Fills middle left between after now more
    → Fills input left before after buffered (took ++ more)
fills_more input middle left before between after buffered now took more first count next =
    let joined : length (took ++ more) ≡ length took + length more = length-append took more in
    let all : buffered + length (took ++ more) ≡ now + length more = omega arith in
    record {
      consumed = Consumes-trans input middle left took more first.consumed next.consumed;
      within = omega (arith, next.within);
      stands =
          ap (λ n. take n after) all ∙ next.stands
          ∙ ap (λ n. take n between ++ more) count
          ∙ ap (λ l. l ++ more) first.stands
          ∙ append_assoc (take buffered before) took more;
    }

-- one read of n bytes into `buf[now..]`, which left ys there
pub fills_read : (input left : Option (List ℕ)) (before ys : List ℕ) (now k n : ℕ) → now ≤ length before → n ≤ length ys
    → length (put_mid now k before ys) ≡ length before → now + length ys ≤ length before
    → Consumes input left (take n ys) → Fills input left before (put_mid now k before ys) now (take n ys)
fills_read input left before ys now k n fits short same room consumed =
    let count : length (take n ys) ≡ n = length-take-le n ys short in
    record {
      consumed = consumed;
      within = omega arith;
      stands = ap (λ m. take (now + m) (put_mid now k before ys)) count ∙ filled now k n before ys fits short;
    }

-- the fronts of what was held before are what they were
pub held_stays : (input left : Option (List ℕ)) (before after : List ℕ) (buffered n : ℕ) (took : List ℕ) → Fills input left before after buffered took
    → n ≤ buffered → buffered ≤ length before → take n after ≡ take n before
held_stays input left before after buffered n took fills below fits =
    let front : length (take buffered before) ≡ buffered = length-take-le buffered before fits in
    sym (take-take n (buffered + length took) after (omega arith))
    ∙ ap (take n) fills.stands
    ∙ take-append-le n (take buffered before) took (omega arith)
    ∙ take-take n buffered before below

-- what a reading has done so far: the first `filled` bytes of the buffer are those that were held and what was taken
pub record SoFar (input left : Option (List ℕ)) (before after : List ℕ) (buffered filled : ℕ) : Type 0 where
  pub took : List ℕ
  pub fills : Fills input left before after buffered took
  pub count : filled ≡ buffered + length took

pub so_far_start : (input : Option (List ℕ)) (buffer : List ℕ) (buffered : ℕ) → buffered ≤ length buffer → SoFar input input buffer buffer buffered buffered
so_far_start input buffer buffered fits = record { took = []; fills = fills_start input buffer buffered fits; count = sym (add-zero buffered) }

-- a read of n bytes into `buf[now..]`, which left ys there
pub so_far_more : (input middle left : Option (List ℕ)) (before between ys : List ℕ) (buffered now k n : ℕ)
    → SoFar input middle before between buffered now → n ≤ length ys → now + length ys ≡ length between → length (put_mid now k between ys) ≡ length between
    → Consumes middle left (take n ys) → SoFar input left before (put_mid now k between ys) buffered (now + n)
so_far_more input middle left before between ys buffered now k n so_far short room same consumed =
    let read = fills_read middle left between ys now k n (omega arith) short same (omega arith) consumed in
    let count : length (take n ys) ≡ n = length-take-le n ys short in
    record {
      took = so_far.took ++ take n ys;
      fills = fills_more input middle left before between (put_mid now k between ys) buffered now so_far.took (take n ys) so_far.fills so_far.count read;
      count = omega (arith, so_far.count, length-append so_far.took (take n ys));
    }

-- all of the buffer was read
pub so_far_full : (input left : Option (List ℕ)) (before after : List ℕ) (filled : ℕ) → SoFar input left before after 0 filled → length after ≤ filled
    → Consumes input left after
so_far_full input left before after filled so_far full =
    subst (Consumes input left) (sym so_far.fills.stands ∙ take_all (0 + length so_far.took) after (omega (arith, so_far.count))) so_far.fills.consumed

-- a read that failed, which left ys in `buf[now..]`
pub so_far_kept : (input middle left : Option (List ℕ)) (before between ys : List ℕ) (buffered now k : ℕ)
    → SoFar input middle before between buffered now → now ≤ length between → length (put_mid now k between ys) ≡ length between
    → Keeps middle left → SoFar input left before (put_mid now k between ys) buffered now
so_far_kept input middle left before between ys buffered now k so_far fits same keeps = record {
  took = so_far.took;
  fills = record {
    consumed = Consumes-kept input middle left so_far.took so_far.fills.consumed keeps;
    within = omega (arith, so_far.fills.within);
    stands =
        ap (λ n. take n (put_mid now k between ys)) (sym so_far.count)
        ∙ take-put_mid_below now k between ys now (omega arith) fits
        ∙ ap (λ n. take n between) so_far.count ∙ so_far.fills.stands;
  };
  count = so_far.count;
}
