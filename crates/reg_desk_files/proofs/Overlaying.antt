-- What calls leave of a file as a database meets it.
use Rattle.std.proofs.Common.{◌≡◌, ℕ, List, Option, None, Result, Ok, Err, refl, sym, subst}
use Rattle.sqlite_disk.specs.Disk.{CountsFault, CountsFaultIf, Cut, Follows, Torn}
use Rattle.reg_desk_files.specs.Overlaid.{bytes_with}

-- a call that fails is counted, also where that is not asked
pub counts_if : {T E : Type 0} (P : Type 0) (result : Result T E) (old new : ℕ) → CountsFault result old new → CountsFaultIf P result old new
counts_if P (Ok x) old new counted = counted
counts_if P (Err e) old new counted = (λ _. counted.0, counted.1)

-- a stop leaves what a write left
pub torn_follows : (at n : ℕ) (old new : List ℕ) → Torn at n old new → Follows (Torn at n) (λ left. left ≡ old) (λ left. left ≡ new)
torn_follows at n old new torn = λ left is. (old, refl, subst (λ (b : List ℕ). Torn at n old b) (sym is) torn)

-- and what a change of the length left
pub cut_follows : (n : ℕ) (old new : List ℕ) → Cut n old new → Follows (Cut n) (λ left. left ≡ old) (λ left. left ≡ new)
cut_follows n old new cut = λ left is. (old, refl, subst (λ (b : List ℕ). Cut n old b) (sym is) cut)

-- where no file is read, what becomes of the bytes in memory becomes of what a database meets
module _ {F : Type 0} (bytes : F → List ℕ) (below : Option F) (none : below ≡ None) where
  pub kept_as : (P : List ℕ → List ℕ → Type 0) (old new : List ℕ) → P old new → P (bytes_with bytes below old) (bytes_with bytes below new)
  kept_as P old new holds = subst (λ (b : Option F). P (bytes_with bytes b old) (bytes_with bytes b new)) (sym none) holds
