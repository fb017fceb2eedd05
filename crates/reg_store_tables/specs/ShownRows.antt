-- The record that a row of a statement's result shows.
use Rattle.std.specs.Prelude.{◌≡◌, ◌≤◌, ℕ, ◌+◌, List, [], ◌∷◌, map, length, Option, None, Some}
use Rattle.std.specs.List.{AllByRecursion}
use Rattle.sqlite_value.specs.declared.value.Value.TheVariants.{Blob}
use Rattle.sqlite_value.specs.Order.{Row, column}
use Rattle.sqlite.specs.State.{State}
use Rattle.reg_core.specs.Issuer.{Issuer}
use Rattle.reg_core.specs.declared.command.Counts.{Counts}
use Rattle.reg_core.specs.declared.command.Listing.{Listing}
use Rattle.reg_store_tables.specs.DerivedRows.{number_or_null}
use Rattle.reg_store_tables.specs.Rows.{number}
use Rattle.reg_store_tables.specs.ReadStatements.{Answers}

-- the columns from the one with number `at` on have these values
abbrev pub HasCells : ℕ → Row → Row → Type 0
HasCells at row [] = Unit {0}
HasCells at row (value ∷ values) = (column row at ≡ value) × HasCells (at + 1) row values

-- a row shows the wanted record, and P holds of that
pub record Found {A : Type 0} (P : A → Type 0) (view : A → Row) (wanted : Option A) (row : Row) : Type 0 where
  pub it : A
  pub first : Some it ≡ wanted
  pub holds : P it
  pub shown : row ≡ view it

-- if there is one row, it shows the wanted record; if there is none, no record is wanted
pub record IsRowOf {A : Type 0} (P : A → Type 0) (view : A → Row) (rows : List Row)
    (wanted : Option A) : Type 0 where
  pub none : rows ≡ [] → None ≡ wanted
  pub one : (row : Row) → rows ≡ row ∷ [] → Found P view wanted row

-- `IsRowOf` holds of every result of the statement and the wanted record
abbrev pub ShowsRow : {A : Type 0} → (A → Type 0) → (A → Row) → State → List ℕ → Row → Option A → Type 0
ShowsRow P view s text params wanted =
    (rows : List Row) → Answers s text params rows → IsRowOf P view rows wanted

-- `IsRowOf` holds of every result of the statement and the wanted record, and the result has at most one row
abbrev pub ShowsOneRow : {A : Type 0} → (A → Type 0) → (A → Row) → State → List ℕ → Row → Option A → Type 0
ShowsOneRow P view s text params wanted =
    (rows : List Row) → Answers s text params rows → IsRowOf P view rows wanted × (length rows ≤ 1)

-- every result of the statement is the one row of this record, and P holds of the record
abbrev pub ShowsOnly : {A : Type 0} → (A → Type 0) → (A → Row) → State → List ℕ → Row → A → Type 0
ShowsOnly P view s text params wanted =
    (rows : List Row) → Answers s text params rows → P wanted × (rows ≡ view wanted ∷ [])

-- every result of the statement is the rows of these records, and P holds of each
abbrev pub ShowsAll : {A : Type 0} → (A → Type 0) → (A → Row) → State → List ℕ → Row → List A → Type 0
ShowsAll P view s text params wanted =
    (rows : List Row) → Answers s text params rows → AllByRecursion P wanted × (rows ≡ map view wanted)

abbrev pub shown_number : ℕ → Row
shown_number n = number n ∷ []

abbrev pub shown_terms : ℕ × ℕ × ℕ → Row
shown_terms terms = number terms.0 ∷ number terms.1 ∷ number terms.2 ∷ []

-- the last accepted moment, the issuer, and the life of OCSP responses
abbrev pub shown_ocsp_head : ℕ → Issuer → ℕ → Row
shown_ocsp_head last issuer life = number last ∷ Blob issuer.name ∷ Blob issuer.key ∷ number life ∷ []

abbrev pub shown_counts : Counts → Row
shown_counts counts = number counts.good ∷ number counts.revoked ∷ number counts.expired ∷ []

abbrev pub shown_listing : Listing → Row
shown_listing listing = number listing.first ∷ number_or_null listing.last ∷ []
