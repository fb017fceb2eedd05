-- The next CRL of the changes feed, by two look-ups.
use Rattle.std.proofs.Common.{◌≡◌, ◌==◌, ℕ, zero, suc, List, [], ◌∷◌, map, take, drop, Option, Some, None, refl, sym, ap, subst, ◌∙◌}
use Rattle.std.specs.Prelude.{option_map, unwrap_or}
use Rattle.std.specs.List.{AllByRecursion, find, slice_get}
use Rattle.reg_core.specs.Crls.{row_of}
use Rattle.reg_core.specs.Records.{Crl, crl_in}
use Rattle.reg_core.specs.Sound.{NumberedFrom}
use Rattle.reg_core.specs.declared.rows.CrlRow.{CrlRow}
use Rattle.reg_core.specs.AscendingRows.{past}
use Rattle.reg_core.proofs.PublicLaws.{find_self, numbers_differ, past_drop}

some_is : {A : Type 0} (x y : A) → Some x ≡ Some y → x ≡ y
some_is {A = A} x y is = ap (λ (o : Option A). unwrap_or o x) is

-- the first item after the first ones
dropped : {A : Type 0} (n : ℕ) (xs : List A) → slice_get (take 1 (drop n xs)) 0 ≡ slice_get xs n
dropped zero [] = refl
dropped zero (x ∷ xs) = refl
dropped (suc n) [] = refl
dropped (suc n) (x ∷ xs) = dropped n xs

mapped : {A B : Type 0} (f : A → B) (xs : List A) → slice_get (map f xs) 0 ≡ option_map f (slice_get xs 0)
mapped f [] = refl
mapped f (x ∷ xs) = refl

all_at : {A : Type 0} (P : A → Type 0) (n : ℕ) (xs : List A) (x : A) → AllByRecursion P xs → slice_get xs n ≡ Some x → P x
all_at P n [] x all at = absurd (let bad : ⊥ = cc in bad)
all_at P zero (y ∷ ys) x all at = subst P (some_is y x at) all.0
all_at P (suc n) (y ∷ ys) x all at = all_at P n ys x all.1 at

module _ (crls : List Crl) (n : ℕ) (rows : List CrlRow) (numbered : NumberedFrom (λ (crl : Crl). crl.number) 1 crls)
    (are : rows ≡ map row_of (take 1 (past (λ (crl : Crl). crl.number) n crls))) where
  first_is : slice_get rows 0 ≡ option_map row_of (slice_get crls n)
  first_is =
      ap (λ (l : List CrlRow). slice_get l 0) (are ∙ ap (λ (l : List Crl). map row_of (take 1 l)) (past_drop (λ (crl : Crl). crl.number) n crls numbered))
      ∙ mapped row_of (take 1 (drop n crls)) ∙ ap (option_map row_of) (dropped n crls)

  none_of : (found : Option Crl) → None ≡ option_map row_of found → None ≡ found
  none_of None is = refl
  none_of (Some crl) is = absurd (let bad : ⊥ = cc in bad)

  -- no CRL follows
  pub next_none : slice_get rows 0 ≡ None → None ≡ slice_get crls n
  next_none none = none_of (slice_get crls n) (sym none ∙ first_is)

  -- the row of the next CRL, and the DER at its number
  pub next_is : (row : CrlRow) (der : List ℕ) → slice_get rows 0 ≡ Some row → Some der ≡ option_map (λ (crl : Crl). crl.bytes) (crl_in crls row.number)
      → Some (record { number = row.number; this_update = row.this_update; bytes = der }) ≡ slice_get crls n
  next_is row der first bytes = go (slice_get crls n) refl (sym first ∙ first_is)
    where
      go : (found : Option Crl) → slice_get crls n ≡ found → Some row ≡ option_map row_of found
          → Some (record { number = row.number; this_update = row.this_update; bytes = der }) ≡ found
      go None at is = absurd (let bad : ⊥ = cc in bad)
      go (Some crl) at is =
          let same : row ≡ row_of crl = some_is row (row_of crl) is in
          let found : Some crl ≡ crl_in crls crl.number =
          all_at (λ (a : Crl). Some a ≡ find (λ (b : Crl). b.number == a.number) crls) n crls crl
          (find_self (λ (b : Crl). b.number) crls (numbers_differ (λ (b : Crl). b.number) 1 crls numbered)) at in
          let octets : der ≡ crl.bytes =
          some_is der crl.bytes (bytes ∙ ap (λ (r : CrlRow). option_map (λ (it : Crl). it.bytes) (crl_in crls r.number)) same ∙ ap (option_map (λ (it : Crl). it.bytes)) (sym found)) in
          (λ i. Some (record { number = (same i).number; this_update = (same i).this_update; bytes = octets i }))
