-- The fields of a line, looked at one after the other.
use Rattle.std.proofs.Common.{◌≡◌, ℕ, suc, ◌+◌, ◌<◌, true, List, ◌∷◌, length, drop, get_or, Option, Some, sym, ap, ◌∙◌, add-one, drop-cons}
use Rattle.std.specs.Prelude.{if◌then◌else◌}
use Rattle.reg_desk_service.specs.Syntax.{first_wrong, is_well_formed}
use Rattle.reg_desk_service.specs.declared.syntax.CommandField.{CommandField}
use Rattle.reg_desk_service.specs.declared.syntax.WrongField.{WrongField}
use Rattle.reg_desk_service.specs.declared.syntax.WrongField.TheVariants.{Malformed}

-- what is wrong from a field on, where there is one more that is wanted
from_here : (wanted : List CommandField) (fields next : List (List ℕ)) (at : ℕ) (d : CommandField) (text : List ℕ) → at < length wanted → fields ≡ text ∷ next
    → first_wrong (drop at wanted) fields ≡ (if is_well_formed (get_or wanted at d) text then first_wrong (drop (suc at) wanted) next else Some (Malformed (get_or wanted at d)))
from_here wanted fields next at d text within are =
    ap (λ l. first_wrong l fields) (drop-cons wanted at d within) ∙ ap (first_wrong (get_or wanted at d ∷ drop (suc at) wanted)) are

-- it has its form
pub goes_on : (wanted : List CommandField) (fields next : List (List ℕ)) (at : ℕ) (d : CommandField) (text : List ℕ) (whole : Option WrongField) → at < length wanted
    → fields ≡ text ∷ next → is_well_formed (get_or wanted at d) text ≡ true → first_wrong (drop at wanted) fields ≡ whole
    → first_wrong (drop (at + 1) wanted) next ≡ whole
goes_on wanted fields next at d text whole within are written so =
    ap (λ k. first_wrong (drop k wanted) next) (add-one at)
    ∙ sym (from_here wanted fields next at d text within are
    ∙ ap (λ b. if b then first_wrong (drop (suc at) wanted) next else Some (Malformed (get_or wanted at d))) written) ∙ so
