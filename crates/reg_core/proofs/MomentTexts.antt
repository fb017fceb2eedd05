-- Which moment a text shows: what `Moment::read` answers is `moment_of`, and the text of a moment shows that moment alone.
use Rattle.std.proofs.Common.{◌≡◌, ℕ, zero, suc, ◌<◌, Bool, true, false, cond, List, Option, Some, None, IfSome, refl, sym, ap, ◌∙◌, subst, arith, inl, inr}
use Rattle.std.specs.Prelude.{bytes_eq}
use Rattle.std.specs.Option.{option_or}
use Rattle.std.proofs.lemmas.Bool.{cases_order, false≢true}
use Rattle.std.proofs.lemmas.Slice.Eq.{bytes_eq-Decides}
use Rattle.reg_core.specs.Calendar.{IsMoment, first_below, moment_of, moment_text}
use Rattle.reg_core.proofs.Moments.{moment_text_injective}

-- ---- the first number below a bound that passes a test

below_some : (test : ℕ → Bool) (n m : ℕ) → first_below test n ≡ Some m → (m < n) × (test m ≡ true)
unfolding first_below
below_some test zero m e = cc e
below_some test (suc n) m e = by (first_below test n) (test n) refl refl e (below_some test n m)
  where
    by : (o : Option ℕ) (b : Bool) → first_below test n ≡ o → test n ≡ b → option_or o (cond b (Some n) None) ≡ Some m
        → (first_below test n ≡ Some m → (m < n) × (test m ≡ true)) → (m < suc n) × (test m ≡ true)
    by (Some k) b is tested e more =
        let r = more (is ∙ e) in
        let below : m < n = r.0 in
        (omega arith, r.1)
    by None true is tested e more =
        let same : n ≡ m = cc in
        (omega arith, subst (λ k. test k ≡ true) same tested)
    by None false is tested e more = cc e

below_none : (test : ℕ → Bool) (n : ℕ) → first_below test n ≡ None → (m : ℕ) → m < n → test m ≡ false
unfolding first_below
below_none test zero e m below = absurd (omega arith)
below_none test (suc n) e m below = by (first_below test n) (test n) refl refl e (below_none test n)
  where
    by : (o : Option ℕ) (b : Bool) → first_below test n ≡ o → test n ≡ b → option_or o (cond b (Some n) None) ≡ None
        → (first_below test n ≡ None → (k : ℕ) → k < n → test k ≡ false) → test m ≡ false
    by (Some k) b is tested e more = cc e
    by None true is tested e more = cc e
    by None false is tested e more =
        elim (cases_order m n) [
          | inl same ↦ subst (λ k. test k ≡ false) (sym same) tested
          | inr (inl less) ↦ more is m less
          | inr (inr above) ↦ absurd (omega arith)
        ]

-- ---- moments

abbrev is_text_of : List ℕ → ℕ → Bool
is_text_of text m = bytes_eq text (moment_text m)

reads_below : (n : ℕ) (r : Option ℕ) (text : List ℕ) → IfSome r (λ m. (m < n) × (text ≡ moment_text m))
    → ((m : ℕ) → m < n → text ≡ moment_text m → r ≡ Some m) → r ≡ first_below (is_text_of text) n
reads_below n r text found only = by (first_below (is_text_of text) n) refl r found only
  where
    by : (o : Option ℕ) → first_below (is_text_of text) n ≡ o → (r : Option ℕ) → IfSome r (λ m. (m < n) × (text ≡ moment_text m))
        → ((m : ℕ) → m < n → text ≡ moment_text m → r ≡ Some m) → r ≡ o
    by (Some m) is r found only =
        let at = below_some (is_text_of text) n m is in
        only m at.0 ((bytes_eq-Decides text (moment_text m)).0 at.1)
    by None is None found only = refl
    by None is (Some m) found only =
        let never = below_none (is_text_of text) n is m found.0 in
        let always = (bytes_eq-Decides text (moment_text m)).1 found.1 in
        absurd (false≢true (sym never ∙ always))

-- what `Moment::read` answers is the moment whose text it is
pub reads_moment : (r : Option ℕ) (text : List ℕ) → IfSome r (λ m. IsMoment m × (text ≡ moment_text m))
    → ((m : ℕ) → IsMoment m → text ≡ moment_text m → r ≡ Some m) → r ≡ moment_of text
unfolding moment_of
reads_moment r text found only = reads_below 253402300800 r text found only

pub moment_of-some : (text : List ℕ) (m : ℕ) → moment_of text ≡ Some m → IsMoment m × (text ≡ moment_text m)
unfolding moment_of
moment_of-some text m e =
    let at = below_some (is_text_of text) 253402300800 m e in
    (at.0, (bytes_eq-Decides text (moment_text m)).0 at.1)

text_below : (n m : ℕ) → ((k : ℕ) → k < n → moment_text m ≡ moment_text k → k ≡ m) → m < n → first_below (is_text_of (moment_text m)) n ≡ Some m
text_below n m one below = by (first_below (is_text_of (moment_text m)) n) refl
  where
    by : (o : Option ℕ) → first_below (is_text_of (moment_text m)) n ≡ o → o ≡ Some m
    by (Some k) is =
        let at = below_some (is_text_of (moment_text m)) n k is in
        ap (λ j. Some j) (one k at.0 ((bytes_eq-Decides (moment_text m) (moment_text k)).0 at.1))
    by None is =
        let never = below_none (is_text_of (moment_text m)) n is m below in
        let always = (bytes_eq-Decides (moment_text m) (moment_text m)).1 refl in
        absurd (false≢true (sym never ∙ always))

pub moment_of-text : (m : ℕ) → IsMoment m → moment_of (moment_text m) ≡ Some m
unfolding moment_of
moment_of-text m is = text_below 253402300800 m (λ k below same. sym (moment_text_injective m k is below same)) is
