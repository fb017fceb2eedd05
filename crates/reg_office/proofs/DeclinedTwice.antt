-- To decline a request again changes no request.
use Rattle.std.proofs.Common.{◌≡◌, ◌≢◌, ◌∙◌, ℕ, ◌+◌, ◌≤◌, true, Bool, cond, ◌==◌, List, [], ◌∷◌, map, Some, inl, inr, refl, sym, ap, ap₂, arith}
use Rattle.std.specs.Prelude.{find}
use Rattle.std.proofs.lemmas.Bool.{cases_Bool}
use Rattle.std.proofs.lemmas.Option.{same_Some}
use Rattle.reg_core.specs.Changes.{declined_if}
use Rattle.reg_core.specs.Records.{Records, request_in}
use Rattle.reg_core.specs.Sound.{NumberedFrom, SoundRows}
use Rattle.reg_core.specs.declared.rows.RequestRow.{RequestRow}
use Rattle.reg_core_laws.proofs.PublicLaws.{equal_numbers, find_here, find_on, other_numbers}

-- a row with another id stays
other_stays : (id : ℕ) (row : RequestRow) → row.id ≢ id → declined_if id row ≡ row
other_stays id row differ = ap (λ (b : Bool). cond b (record row { declined = true }) row) (other_numbers row.id id differ)

-- rows with greater ids stay
later_stay : (from : ℕ) (rows : List RequestRow) (id : ℕ) → NumberedFrom (λ row. row.id) from rows → id + 1 ≤ from → map (declined_if id) rows ≡ rows
later_stay from [] id numbered above = refl
later_stay from (row ∷ rows) id numbered above =
    let differ : row.id ≢ id = λ e. absurd (omega (arith, numbered.0, e)) in
    ap₂ (λ (x : RequestRow) xs. x ∷ xs) (other_stays id row differ) (later_stay (from + 1) rows id numbered.1 (omega arith))

-- the row with the id is declined already
declined_stay : (from : ℕ) (rows : List RequestRow) (id : ℕ) (request : RequestRow) → NumberedFrom (λ row. row.id) from rows → find (λ row. row.id == id) rows ≡ Some request → request.declined ≡ true
    → map (declined_if id) rows ≡ rows
declined_stay from [] id request numbered found declined = refl
declined_stay from (row ∷ rows) id request numbered found declined = elim (cases_Bool (row.id == id)) [
  | inl is ↦
      let here : row ≡ request = same_Some _ _ (sym (find_here (λ (r : RequestRow). r.id == id) row rows is) ∙ found) in
      let stays : declined_if id row ≡ row = ap (λ (b : Bool). cond b (record row { declined = true }) row) is ∙ (λ i. record row { declined = (sym (ap (λ (r : RequestRow). r.declined) here ∙ declined)) i }) in
      ap₂ (λ (x : RequestRow) xs. x ∷ xs) stays (later_stay (from + 1) rows id numbered.1 (let same : row.id ≡ id = equal_numbers row.id id is in omega (arith, numbered.0, same)))
  | inr not ↦
      ap₂ (λ (x : RequestRow) xs. x ∷ xs) (ap (λ (b : Bool). cond b (record row { declined = true }) row) not)
      (declined_stay (from + 1) rows id request numbered.1 (sym (find_on (λ (r : RequestRow). r.id == id) row rows not) ∙ found) declined)
]

pub declined_again : (records : Records) (id : ℕ) (request : RequestRow) → SoundRows records → request_in records.requests id ≡ Some request → request.declined ≡ true
    → map (declined_if id) records.requests ≡ records.requests
declined_again records id request sound found declined = declined_stay 1 records.requests id request sound.requests.numbered found declined

-- three facts, of which the last two came as one
pub three_of : {A B C : Type 0} → A × (B × C) → A × B × C
three_of (first, (second, third)) = (first, second, third)
