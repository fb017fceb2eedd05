-- The date and time that the digits of a text write.
use Rattle.std.proofs.Common.{◌≡◌, false, not, ℕ, ◌+◌, ◌*◌, ◌/◌, ◌%◌, List, [], ◌∷◌, length, get_or, refl, ◌∙◌, arith}
use Rattle.std.specs.Prelude.{codes}
use Rattle.std.specs.Str.{bytes_eq}
use Rattle.std.proofs.lemmas.Bool.Decides.{nat_tests}
use Rattle.reg_core.specs.declared.calendar.Civil.{Civil}
use Rattle.reg_core.specs.Calendar.{HasDigits, Spells, date_time}

-- a list of 20 numbers is written out by its places
twenty : (xs : List ℕ) → length xs ≡ 20 → xs ≡ get_or xs 0 0 ∷ get_or xs 1 0 ∷ get_or xs 2 0 ∷ get_or xs 3 0 ∷ get_or xs 4 0 ∷ get_or xs 5 0 ∷ get_or xs 6 0 ∷ get_or xs 7 0 ∷ get_or xs 8 0 ∷ get_or xs 9 0 ∷ get_or xs 10 0 ∷ get_or xs 11 0 ∷ get_or xs 12 0 ∷ get_or xs 13 0 ∷ get_or xs 14 0 ∷ get_or xs 15 0 ∷ get_or xs 16 0 ∷ get_or xs 17 0 ∷ get_or xs 18 0 ∷ get_or xs 19 0 ∷ []
twenty (a ∷ b ∷ c ∷ d ∷ e ∷ f ∷ g ∷ h ∷ i ∷ j ∷ k ∷ l ∷ m ∷ n ∷ o ∷ p ∷ q ∷ r ∷ s ∷ t ∷ []) len = refl
twenty (a ∷ b ∷ c ∷ d ∷ e ∷ f ∷ g ∷ h ∷ i ∷ j ∷ k ∷ l ∷ m ∷ n ∷ o ∷ p ∷ q ∷ r ∷ s ∷ t ∷ u ∷ us) len = absurd (omega arith)
twenty xs len = absurd (omega arith)

-- what the test of the signs says
signs_are : (a b c d e f : ℕ) → false ≡ not (bytes_eq (a ∷ b ∷ c ∷ d ∷ e ∷ f ∷ []) (codes "--T::Z")) → (a ≡ 45) × (b ≡ 45) × (c ≡ 84) × (d ≡ 58) × (e ≡ 58) × (f ≡ 90)
signs_are a b c d e f h = grind (arith, nat_tests)

pair_is : (a b c d : ℕ) → (a ∷ b ∷ []) ≡ (c ∷ d ∷ []) → (a ≡ c) × (b ≡ d)
pair_is a b c d e = (cc, cc)

-- signs and digits in their places are the text of the parts
pub spelled : (xs : List ℕ) (x y m d h n s : ℕ) → length xs ≡ 20
    → false ≡ not (bytes_eq (get_or xs 4 0 ∷ get_or xs 7 0 ∷ get_or xs 10 0 ∷ get_or xs 13 0 ∷ get_or xs 16 0 ∷ get_or xs 19 0 ∷ []) (codes "--T::Z"))
    → Spells xs 0 x → Spells xs 2 y → Spells xs 5 m → Spells xs 8 d → Spells xs 11 h → Spells xs 14 n → Spells xs 17 s
    → let c : Civil = record { year = x * 100 + y; month = m; day = d; hour = h; minute = n; second = s } in HasDigits c × (xs ≡ date_time c)
unfolding date_time
spelled xs x y m d h n s len apart ex ey em ed eh en es =
    let high : (x * 100 + y) / 100 ≡ x = omega arith in
    let low : (x * 100 + y) % 100 ≡ y = omega arith in
    let signs = signs_are (get_or xs 4 0) (get_or xs 7 0) (get_or xs 10 0) (get_or xs 13 0) (get_or xs 16 0) (get_or xs 19 0) apart in
    let px = pair_is _ _ _ _ ex.1 in
    let py = pair_is _ _ _ _ ey.1 in
    let pm = pair_is _ _ _ _ em.1 in
    let pd = pair_is _ _ _ _ ed.1 in
    let ph = pair_is _ _ _ _ eh.1 in
    let pn = pair_is _ _ _ _ en.1 in
    let ps = pair_is _ _ _ _ es.1 in (
      record { year = omega arith; month = em.0; day = ed.0; hour = eh.0; minute = en.0; second = es.0 },
      rw (high, low) (twenty xs len ∙ (λ i. px.0 i ∷ px.1 i ∷ py.0 i ∷ py.1 i ∷ signs.0 i ∷ pm.0 i ∷ pm.1 i ∷ signs.1 i ∷ pd.0 i ∷ pd.1 i ∷ signs.2 i ∷ ph.0 i ∷ ph.1 i ∷ signs.3 i ∷ pn.0 i ∷ pn.1 i ∷ signs.4 i ∷ ps.0 i ∷ ps.1 i ∷ signs.5 i ∷ [])),
    )
