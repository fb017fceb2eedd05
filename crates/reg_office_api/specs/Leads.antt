-- A call of an office as a step of the records that the office keeps.
use Rattle.std.specs.Prelude.{◌≡◌}

-- A call of an office, which is `s` before and `t` after it, as a step of the records that the office keeps. If the disk is clean
-- after the call (`is_clean`: so far the disk has returned what was written to it), it was clean before. In that case, for any signers and
-- records of which `stands` holds before the call, the step leads to records of which `stands` holds after the call, for the same signers.
abbrev pub Leads : {S I R : Type 0} → (S → Type 0) → (I → S → R → Type 0)
    → (I → R → R → Type 0) → S → S → Type 0
Leads {I = I} {R = R} is_clean stands step s t =
    (is_clean t → is_clean s)
    × ((identity : I) (before : R) → stands identity s before → is_clean t
    → (after : R) × step identity before after × stands identity t after)

-- a call that does not change the records, and for whose result `IsSo` holds of them
abbrev pub Looks : {S I R : Type 0} → (S → Type 0) → (I → S → R → Type 0) → (R → Type 0) → S → S → Type 0
Looks is_clean stands IsSo s t =
    Leads is_clean stands (λ identity before after. IsSo before × (after ≡ before)) s t
