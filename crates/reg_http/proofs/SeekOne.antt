-- What a router finds, one row after the other, where no two rows can catch one path.
use Rattle.std.proofs.Common.{◌≡◌, ℕ, zero, suc, ◌-◌, ◌<◌, List, [], ◌∷◌, ◌++◌, length, Option, Some, None, is_some, option_and_then, Bool, true, false, cond, ltb, ◌&&◌, refl, ap, subst, ◌∙◌, arith, ◌==◌, All}
use Rattle.std.proofs.lemmas.Bool.Decides.{nat_tests}
use Rattle.std.proofs.lemmas.Bool.{and_parts}
use Rattle.std.proofs.lemmas.List.Elements.{All-head, All-tail}
use Rattle.matchit.specs.Rows.{RowsOf}
use Rattle.matchit.specs.Seek.{own, step, or_else, seek, param_step, has_slash}
use Rattle.reg_http.specs.Routes.{Ending, here, one, rest, path_after, ended, left, mark}

-- two patterns part at two bytes, or one ends before the other
abbrev pub apart : List ℕ → List ℕ → Bool
apart [] [] = false
apart [] (y ∷ u) = true
apart (x ∷ t) [] = true
apart (x ∷ t) (y ∷ u) = ltb x 256 && (ltb y 256 && cond (x == y) (apart t u) true)

-- each token of these is a byte
abbrev pub all_bytes : List ℕ → Bool
all_bytes [] = true
all_bytes (x ∷ t) = ltb x 256 && all_bytes t

abbrev pub is_byte : ℕ → Type 0
is_byte b = b < 256

module _ {K : Type 0} where
  -- a pattern parts from each row
  abbrev pub apart_all : List ℕ → RowsOf K → Bool
  apart_all t [] = true
  apart_all t ((u, key) ∷ rs) = apart t u && apart_all t rs

  pub seek_nothing_param : (p : List ℕ) → (param_step {K = K} [] p).1 ≡ []
  unfolding param_step
  seek_nothing_param p =
      elim (has_slash p) as (λ v. (cond {A = ℕ × RowsOf K} v (0, []) (length p, [])).1 ≡ []) [
        | true ↦ refl
        | false ↦ refl
      ]

  -- no rows catch nothing
  pub seek_nothing : (k : ℕ) (p : List ℕ) → seek {K = K} k [] p ≡ None
  unfolding seek
  seek_nothing k [] = refl
  seek_nothing (suc k) (b ∷ p) = seek_nothing k p
  seek_nothing zero (b ∷ p) =
      simp (seek_nothing 0 p, seek_nothing_param (b ∷ p), seek_nothing (((param_step {K = K} [] (b ∷ p)).0) - 1) p)

  -- a skip over the whole path
  pub seek_past : (rs : RowsOf K) (p : List ℕ) → seek (length p) rs p ≡ own rs
  unfolding seek
  seek_past rs [] = refl
  seek_past rs (b ∷ p) = seek_past rs p

  -- one row that ends in a parameter
  pub seek_param : (key : K) (b : ℕ) (p : List ℕ)
      → seek ((param_step (([], key) ∷ []) (b ∷ p)).0 - 1) (param_step (([], key) ∷ []) (b ∷ p)).1 p ≡ cond (has_slash (b ∷ p)) None (Some key)
  unfolding param_step
  seek_param key b p = by (has_slash (b ∷ p))
    where
      by : (v : Bool)
          → seek ((cond {A = ℕ × RowsOf K} v (0, []) (length (b ∷ p), ([], key) ∷ [])).0 - 1) (cond {A = ℕ × RowsOf K} v (0, []) (length (b ∷ p), ([], key) ∷ [])).1 p
          ≡ cond v None (Some key)
      by true = seek_nothing 0 p
      by false =
          let e : length (b ∷ p) - 1 ≡ length p = omega arith in
          ap (λ (n : ℕ). seek n (([], key) ∷ []) p) e ∙ seek_past (([], key) ∷ []) p

  -- rows of which none goes on
  pub none_goes_on : (x : ℕ) (t : List ℕ) (rs : RowsOf K) → ltb x 256 ≡ false → apart_all (x ∷ t) rs ≡ true → (y : ℕ) → step y rs ≡ []
  none_goes_on x t [] high apart_from y = refl
  none_goes_on x t (([], key) ∷ rs) high apart_from y = none_goes_on x t rs high apart_from y
  none_goes_on x t ((z ∷ u, key) ∷ rs) high apart_from y =
      let (here_apart, more) = and_parts (apart (x ∷ t) (z ∷ u)) (apart_all (x ∷ t) rs) apart_from in
      let (low, parts) = and_parts (ltb x 256) (ltb z 256 && cond (x == z) (apart t u) true) here_apart in
      absurd (cc)

  pub apart_step : (x : ℕ) (t : List ℕ) (rs : RowsOf K) → apart_all (x ∷ t) rs ≡ true → apart_all t (step x rs) ≡ true
  apart_step x t [] apart_from = refl
  apart_step x t (([], key) ∷ rs) apart_from = apart_step x t rs apart_from
  apart_step x t ((z ∷ u, key) ∷ rs) apart_from =
      let (here_apart, more) = and_parts (apart (x ∷ t) (z ∷ u)) (apart_all (x ∷ t) rs) apart_from in
      let (low, parts) = and_parts (ltb x 256) (ltb z 256 && cond (x == z) (apart t u) true) here_apart in
      let (low_too, same) = and_parts (ltb z 256) (cond (x == z) (apart t u) true) parts in
      by (z == x) refl (apart_step x t rs more) same
    where
      by : (v : Bool) → (z == x) ≡ v → apart_all t (step x rs) ≡ true → cond (x == z) (apart t u) true ≡ true
          → apart_all t (cond v ((u, key) ∷ step x rs) (step x rs)) ≡ true
      by true e next same =
          let turned : (x == z) ≡ true = grind (arith, nat_tests) in
          let parted : apart t u ≡ true = rw turned at same in
          rw (parted, next) refl
      by false e next same = next

  -- a row that goes on with a byte
  pub static_step : (x b : ℕ) (w : List ℕ) (e : Ending) (key : K) (rs : RowsOf K) (p : List ℕ) (others : Option K) (v : Bool)
      → (v ≡ true → seek 0 ((w ++ mark e, key) ∷ step b rs) p ≡ cond (is_some (left w e p)) (Some key) (seek 0 (step b rs) p))
      → or_else (seek 0 (cond v ((w ++ mark e, key) ∷ step b rs) (step b rs)) p) others
      ≡ cond (is_some (option_and_then (ended e) (cond v (path_after w p) None))) (Some key) (or_else (seek 0 (step b rs) p) others)
  static_step x b w e key rs p others true next = ap (λ (found : Option K). or_else found others) (next refl) ∙ by (is_some (left w e p))
    where
      by : (v : Bool) → or_else (cond v (Some key) (seek 0 (step b rs) p)) others ≡ cond v (Some key) (or_else (seek 0 (step b rs) p) others)
      by true = refl
      by false = refl
  static_step x b w e key rs p others false next = refl

  -- what a row that ends in a parameter takes
  pub param_takes : (key : K) (text : List ℕ) (v : Bool) → or_else (cond v None (Some key)) None ≡ cond (is_some (cond v None (Some text))) (Some key) None
  param_takes key text true = refl
  param_takes key text false = refl

  -- One row more: it catches its paths, and any other path goes on to the other rows.
  pub seek_one : (w : List ℕ) (e : Ending) (key : K) (rs : RowsOf K) (path : List ℕ) → All is_byte path → all_bytes w ≡ true
      → apart_all (w ++ mark e) rs ≡ true → seek 0 ((w ++ mark e, key) ∷ rs) path ≡ cond (is_some (left w e path)) (Some key) (seek 0 rs path)
  unfolding seek
  seek_one [] here key rs [] small bytes parts = refl
  seek_one [] here key rs (b ∷ p) small bytes parts = refl
  seek_one [] one key rs [] small bytes parts = refl
  seek_one [] one key rs (b ∷ p) small bytes parts =
      let none = none_goes_on 256 [] rs refl parts in
      let low : b < 256 = All-head is_byte b p small in
      let other : (256 == b) ≡ false = grind (arith, nat_tests) in
      rw (
        other,
        none b,
        none 256,
        none 257,
        seek_nothing 0 p,
        seek_param key b p,
        seek_nothing_param (b ∷ p),
        seek_nothing ((param_step {K = K} [] (b ∷ p)).0 - 1) p,
      )
      (param_takes key (b ∷ p) (has_slash (b ∷ p)))
  seek_one [] rest key rs [] small bytes parts = refl
  seek_one [] rest key rs (b ∷ p) small bytes parts =
      let none = none_goes_on 257 [] rs refl parts in
      let low : b < 256 = All-head is_byte b p small in
      let other : (257 == b) ≡ false = grind (arith, nat_tests) in
      rw (other, none b, none 256, seek_nothing 0 p, seek_nothing_param (b ∷ p), seek_nothing ((param_step {K = K} [] (b ∷ p)).0 - 1) p) refl
  seek_one (x ∷ w) e key rs [] small bytes parts = refl
  seek_one (x ∷ w) e key rs (b ∷ p) small bytes parts =
      let (low_test, more) = and_parts (ltb x 256) (all_bytes w) bytes in
      let low : x < 256 = grind (arith, nat_tests) in
      let not_param : (x == 256) ≡ false = grind (arith, nat_tests) in
      let not_rest : (x == 257) ≡ false = grind (arith, nat_tests) in
      rw (not_param, not_rest)
      (static_step x b w e key rs p _ (x == b) (λ same.
      seek_one w e key (step b rs) p (All-tail is_byte b p small) more
      (let equal : x ≡ b = grind (arith, nat_tests) in
      let P : ℕ → Type 0 = λ y. apart_all (w ++ mark e) (step y rs) ≡ true in
      subst P equal (apart_step x (w ++ mark e) rs parts))))
