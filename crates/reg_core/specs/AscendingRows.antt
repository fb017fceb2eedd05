-- Rows in ascending order of a key, and those above a key.
use Rattle.std.specs.Prelude.{ℕ, List, [], ◌∷◌, filter, cond, nat_lt, Option, unwrap_or}

-- rows with one more, inserted before the first that has a greater key
abbrev pub insert_by_key : {A : Type 0} → (A → ℕ) → A → List A → List A
insert_by_key key row [] = row ∷ []
insert_by_key key row (next ∷ rest) =
    cond (nat_lt (key row) (key next)) (row ∷ next ∷ rest) (next ∷ insert_by_key key row rest)

-- rows in ascending order of a key
abbrev pub in_order : {A : Type 0} → (A → ℕ) → List A → List A
in_order key [] = []
in_order key (row ∷ rest) = insert_by_key key row (in_order key rest)

-- the rows with keys above this one, in ascending order of their keys
abbrev pub past : {A : Type 0} → (A → ℕ) → ℕ → List A → List A
past key after rows = in_order key (filter (λ row. nat_lt after (key row)) rows)

-- the key after which a list by serial numbers continues: 0 if it begins with the first row, because no serial number is 0
abbrev pub key_of : Option ℕ → ℕ
key_of after = unwrap_or after 0
