-- The one row of the office and of the counts, and the rows of the schedule, from what was read of them.
use Rattle.std.proofs.Common.{◌≡◌, ◌≤◌, ◌&&◌, ℕ, ℤ, pos, Bool, drop, false, not, Some, List, [], ◌∷◌, map, codes, length, get_or, refl, sym, ap, subst, ◌∙◌, arith}
use Rattle.std.specs.List.{AllByRecursion, AllZip}
use Rattle.sqlite_value.specs.Order.{Row, column}
use Rattle.sqlite_value.specs.declared.value.Value.TheVariants.{Int}
use Rattle.sqlite_trees.specs.Objects.{number_in}
use Rattle.sqlite_schema.specs.Rules.{are_present}
use Rattle.sqlite_schema.specs.declared.schema.Column.{Column}
use Rattle.sqlite_schema.specs.declared.schema.Kind.TheVariants as kind
use Rattle.sqlite_sql.specs.Ops.{is_null}
use Rattle.sqlite_sql.specs.Term.{Term, col}
use Rattle.sqlite_tied.specs.Compute.{everything}
use Rattle.sqlite.specs.Effect.{Database}
use Rattle.sqlite.specs.Listing.{understood}
use Rattle.reg_core.specs.Issuer.{Issuer}
use Rattle.reg_core.specs.Policy.{Terms, IsPolicy}
use Rattle.reg_core.specs.Records.{Records}
use Rattle.reg_core.specs.Schedule.{IsDays}
use Rattle.reg_core.specs.declared.command.Counts.{Counts}
use Rattle.reg_store_tables.specs.DerivedRows.{DerivedRows, office_days, stored_counts}
use Rattle.reg_store_tables.specs.ReadStatements.{command_of, shown_step}
use Rattle.reg_store_tables.specs.Rows.{number, version, stored_office, stored_step}
use Rattle.reg_store_tables.specs.Schema.{register_schema, key_column, required, office, kept, longest}
use Rattle.reg_store_tables.proofs.PublicLaws.{selects, as_command, no_limit}
use Rattle.reg_audit.specs.Cells.{HasCells, IsOfSomeRecord}
use Rattle.reg_audit.specs.Complete.{AreTables, AreOffice, AreCounts, IsTermsOf}
use Rattle.reg_audit.specs.ReadQueries.{IsReadFrom, IsReadOf}
use Rattle.reg_store_tables.specs.ShownRows.{shown_counts}
use Rattle.reg_audit.specs.ReadableValues.{HasAllowedDays}
use Rattle.reg_audit.specs.declared.complete.OfficeNumbers.{OfficeNumbers as Found}
use Rattle.reg_audit.specs.declared.sql.AuditQuery.TheVariants.{Counts as OfCounts, CountsRowid, Terms as OfTerms, Steps}
use Rattle.reg_audit.specs.declared.sql.TheConstants.{COUNTS, COUNTS_ROWID, TERMS, STEPS}
use Rattle.reg_audit.proofs.Cells.{and_left, and_right, not_false, is_row, key_null, blob_is, integer_is, cell_typed, some_below}
use Rattle.reg_audit.proofs.Obeyed.{Fits, office_fits, counts_fit, steps_fit}
use Rattle.reg_audit.proofs.Showing.{counts_columns, counts_names, counts_mean, keyed_are, only_is}
use Rattle.reg_audit.proofs.TreeOrder.{by_rowid, seen, HasNumber, reads_tree, numbers_of}

-- the one row that a text shows is of the one row that it reads
one_seen : (view : Row → Row) (tree : List Row) (row : Row) → row ∷ [] ≡ map view tree → (r : Row) × (tree ≡ r ∷ []) × (row ≡ view r)
one_seen view [] row is = absurd (cc)
one_seen view (r ∷ []) row is = (r, refl, cc)
one_seen view (r ∷ other ∷ more) row is = absurd (cc)

-- the one row of a list
pub one_there : (rows : List Row) (row : Row) → length rows ≡ 1 → row ≡ get_or rows 0 row → rows ≡ row ∷ []
one_there [] row one is = absurd (omega (arith, one))
one_there (other ∷ []) row one is = ap (λ (r : Row). r ∷ []) (sym is)
one_there (other ∷ another ∷ more) row one is = absurd (omega (arith, one))

has_number : (row : Row) (n : ℕ) → column row 0 ≡ number n → HasNumber row
has_number row n is = is ∙ ap number (sym (ap number_in is))

-- ---- the office

abbrev terms_columns : List Term
terms_columns = col 1 0 ∷ col 1 2 ∷ col 1 6 ∷ col 1 7 ∷ col 1 8 ∷ col 1 9 ∷ col 1 5 ∷ []

abbrev terms_names : List (List ℕ)
terms_names = codes "one" ∷ codes "version" ∷ codes "crl_life" ∷ codes "ocsp_life" ∷ codes "cap" ∷ codes "last_at" ∷ codes "days" ∷ []

terms_mean : command_of (understood register_schema TERMS.now) ≡ as_command (selects 0 [] terms_columns by_rowid no_limit) terms_names
unfolding understood everything register_schema
terms_mean = refl

-- the one row that was read has the days of what the tables show
pub days_read : (records : Records) (columns : DerivedRows) (rows : List Row) → IsReadOf records columns OfTerms rows → (row : Row) × (rows ≡ row ∷ []) × (column row 6 ≡ Int columns.days)
days_read records columns rows is =
    let shown = is.both.shown.rows in
    let policy = records.policy in
    let row : Row = number 1 ∷ number version ∷ number policy.crl_life ∷ number policy.ocsp_life ∷ number policy.cap ∷ number records.last ∷ Int shown.days ∷ [] in
    let only : rows ≡ row ∷ [] =
    keyed_are (λ (one : Unit {0}). 1) (λ (one : Unit {0}). stored_office shown.days records.issuer policy records.last) (λ (one : Unit {0}). row) (tt ∷ []) (refl, tt) 0 terms_columns TERMS.now terms_names terms_mean is.db refl rows is.reads
    shown.office (λ one. refl) in
    (row, only, sym (ap office_days shown.office) ∙ is.both.kept.days)

-- so has the row that stands first
pub days_at : (records : Records) (columns : DerivedRows) (rows : List Row) (row : Row) → IsReadOf records columns OfTerms rows → 1 ≤ length rows → row ≡ get_or rows 0 row → column row 6 ≡ Int columns.days
days_at records columns rows row is some first =
    let read = days_read records columns rows is in
    let same : row ≡ read.0 = first ∙ ap (λ (l : List Row). get_or l 0 row) read.1 in
    ap (λ (r : Row). column r 6) same ∙ read.2

-- days in that row that a schedule can allow are the office's
pub allowed_days : (columns : DerivedRows) (row : Row) → column row 6 ≡ Int columns.days → (days : ℕ) × (column row 6 ≡ number days) × IsDays days → HasAllowedDays columns
allowed_days columns row at days = (days.0, int_same columns.days (pos days.0) (sym at ∙ days.1), days.2)
  where
    int_same : (left right : ℤ) → Int left ≡ Int right → left ≡ right
    int_same left right same = cc

-- ---- the schedule

abbrev steps_columns : List Term
steps_columns = col 1 0 ∷ col 1 2 ∷ []

abbrev steps_names : List (List ℕ)
steps_names = codes "from_at" ∷ codes "days" ∷ []

steps_mean : command_of (understood register_schema STEPS.now) ≡ as_command (selects 17 [] steps_columns by_rowid no_limit) steps_names
unfolding understood everything register_schema
steps_mean = refl

abbrev pub IsStep : ℕ × ℕ → Row → Type 0
IsStep step row = HasCells 0 row (shown_step step)

steps_number : (steps : List (ℕ × ℕ)) (rows : List Row) → AllZip IsStep steps rows → AllByRecursion HasNumber rows
steps_number [] [] all = tt
steps_number [] (row ∷ rows) all = absurd all
steps_number (step ∷ steps) [] all = absurd all
steps_number (step ∷ steps) (row ∷ rows) all = (has_number row step.0 all.0.0, steps_number steps rows all.1)

is_step : (step : ℕ × ℕ) (row : Row) → Fits (Some 0) longest.columns row → IsStep step (seen steps_columns row) → row ≡ stored_step step
is_step step row fit cells = is_row (Some 0) longest.columns row (stored_step step) fit.typed (refl {a = 3}) (ap is_null cells.1.0) (cells.0, (key_null (key_column (codes "from_at")) (required (codes "days") kind.Integer ∷ []) row fit.typed, cells.1))

steps_stored : (steps : List (ℕ × ℕ)) (tree : List Row) → AllByRecursion (Fits (Some 0) longest.columns) tree → AllZip IsStep steps (map (seen steps_columns) tree) → tree ≡ map stored_step steps
steps_stored [] [] fit all = refl
steps_stored [] (row ∷ tree) fit all = absurd all
steps_stored (step ∷ steps) [] fit all = absurd all
steps_stored (step ∷ steps) (row ∷ tree) fit all =
    let first = is_step step row fit.0 all.0 in let rest = steps_stored steps tree fit.1 all.1 in λ i. first i ∷ rest i

steps_hold : (db : Database) → AreTables db → (rows : List Row) → IsReadFrom db Steps rows → (steps : List (ℕ × ℕ)) → AllZip IsStep steps rows → db.trees 17 ≡ map stored_step steps
steps_hold db are rows reads steps all =
    let table = are.rises.1.1.1.1.1.1.1.1.1.1.0 in
    let numbers = numbers_of 17 steps_columns STEPS.now steps_names steps_mean db refl rows reads (λ row. refl) (steps_number steps rows all) in
    let shown = reads_tree 17 steps_columns STEPS.now steps_names steps_mean db refl rows reads numbers table in
    steps_stored steps (db.trees 17) (steps_fit db are) (subst (AllZip IsStep steps) shown all)

-- ---- both

-- the issuer is whatever the row has, and so are the days, which are looked at apart
record IsOffice (row : Row) (policy : Terms) (last : ℕ) : Type 0 where
  pub days : ℤ
  pub issuer : Issuer
  pub is : row ≡ stored_office days issuer policy last

abbrev office_rest : List Column
office_rest =
    required (codes "version") kind.Integer ∷ required (codes "name") kind.Blob ∷ required (codes "pubkey") kind.Blob ∷ required (codes "days") kind.Integer ∷ required (codes "crl_life") kind.Integer ∷ required (codes "ocsp_life") kind.Integer ∷ required (codes "cap") kind.Integer ∷ required (codes "last_at") kind.Integer ∷ []

is_office : (row : Row) (found : Found) (policy : Terms) → Fits (Some 0) office.columns row
    → HasCells 0 (seen terms_columns row) (number 1 ∷ number 3 ∷ number policy.crl_life ∷ number policy.ocsp_life ∷ number policy.cap ∷ number found.last ∷ []) → IsOffice row policy found.last
is_office row found policy fit cells =
    let behind_days : Bool = are_present (Some 0) 5 (drop 5 office.columns) row in
    let behind_key : Bool = not (is_null (column row 5)) && behind_days in
    let after_name : Bool = not (is_null (column row 4)) && behind_key in
    let behind_version : Bool = not (is_null (column row 3)) && after_name in
    let from_name = and_right (not (is_null (column row 2))) behind_version fit.present in
    let from_key = and_right (not (is_null (column row 3))) after_name from_name in
    let from_days = and_right (not (is_null (column row 4))) behind_key from_key in
    let name_some : is_null (column row 3) ≡ false = not_false (is_null (column row 3)) (and_left (not (is_null (column row 3))) after_name from_name) in
    let key_some : is_null (column row 4) ≡ false = not_false (is_null (column row 4)) (and_left (not (is_null (column row 4))) behind_key from_key) in
    let days_some : is_null (column row 5) ≡ false = not_false (is_null (column row 5)) (and_left (not (is_null (column row 5))) behind_days from_days) in
    let name = blob_is (column row 3) name_some (cell_typed (key_column (codes "one")) office_rest row fit.typed 1 (required (codes "name") kind.Blob) refl (some_below row 3 name_some)) in
    let key = blob_is (column row 4) key_some (cell_typed (key_column (codes "one")) office_rest row fit.typed 2 (required (codes "pubkey") kind.Blob) refl (some_below row 4 key_some)) in
    let days = integer_is (column row 5) days_some (cell_typed (key_column (codes "one")) office_rest row fit.typed 3 (required (codes "days") kind.Integer) refl (some_below row 5 days_some)) in
    let issuer : Issuer = record { name = name.0; key = key.0 } in
    let numbers = cells.1.1 in
    record {
      days = days.0;
      issuer = issuer;
      is = is_row (Some 0) office.columns row (stored_office days.0 issuer policy found.last) fit.typed (refl {a = 10}) (ap is_null numbers.1.1.1.0)
          (cells.0, (key_null (key_column (codes "one")) office_rest row fit.typed, (cells.1.0, (name.1, (key.1, (days.1, numbers))))));
    }

pub office_holds : (db : Database) → AreTables db → (rows steps_rows : List Row) → IsReadFrom db OfTerms rows → IsReadFrom db Steps steps_rows → (found : Found) → IsTermsOf rows found → (steps : List (ℕ × ℕ)) → AllZip IsStep steps steps_rows
    → IsPolicy (record { schedule = steps; crl_life = found.crl_life; ocsp_life = found.ocsp_life; cap = found.cap }) → AreOffice db.trees
office_holds db are rows steps_rows reads reads_steps found terms steps all in_range =
    let policy : Terms = record { schedule = steps; crl_life = found.crl_life; ocsp_life = found.ocsp_life; cap = found.cap } in
    let table = are.rises.0 in
    let number_rows : AllByRecursion HasNumber rows = subst (AllByRecursion HasNumber) (sym terms.only) (has_number terms.row 1 terms.cells.0, tt) in
    let numbers = numbers_of 0 terms_columns TERMS.now terms_names terms_mean db refl rows reads (λ row. refl) number_rows in
    let shown = reads_tree 0 terms_columns TERMS.now terms_names terms_mean db refl rows reads numbers table in
    let one = one_seen (seen terms_columns) (db.trees 0) terms.row (sym terms.only ∙ shown) in
    let fit : Fits (Some 0) office.columns one.0 = (subst (AllByRecursion (Fits (Some 0) office.columns)) one.1 (office_fits db are)).0 in
    let cells = subst (λ (row : Row). HasCells 0 row (number 1 ∷ number 3 ∷ number found.crl_life ∷ number found.ocsp_life ∷ number found.cap ∷ number found.last ∷ [])) one.2 terms.cells in
    let stored = is_office one.0 found policy fit cells in
    record {
      days = stored.days;
      issuer = stored.issuer;
      policy = policy;
      last = found.last;
      office = subst (λ (row : Row). db.trees 0 ≡ row ∷ []) stored.is one.1;
      schedule = steps_hold db are steps_rows reads_steps steps all;
      in_range = in_range;
    }

-- ---- the counts

abbrev one_column : List Term
one_column = col 1 0 ∷ []

abbrev one_name : List (List ℕ)
one_name = codes "one" ∷ []

counts_rowid_mean : command_of (understood register_schema COUNTS_ROWID.now) ≡ as_command (selects 14 [] one_column by_rowid no_limit) one_name
unfolding understood everything register_schema
counts_rowid_mean = refl

pub counts_hold : (db : Database) → AreTables db → (rows rowids : List Row) → IsReadFrom db OfCounts rows → IsReadFrom db CountsRowid rowids → (rowid : Row) → rowids ≡ rowid ∷ [] → column rowid 0 ≡ number 1
    → AllByRecursion (IsOfSomeRecord (λ (it : Counts). Unit {0}) shown_counts) rows → AreCounts (db.trees 14)
counts_hold db are rows rowids reads reads_id rowid only is stand =
    let table = are.rises.1.1.1.1.1.1.1.1.0 in
    let number_rows : AllByRecursion HasNumber rowids = subst (AllByRecursion HasNumber) (sym only) (has_number rowid 1 is, tt) in
    let numbers = numbers_of 14 one_column COUNTS_ROWID.now one_name counts_rowid_mean db refl rowids reads_id (λ row. refl) number_rows in
    let ids = reads_tree 14 one_column COUNTS_ROWID.now one_name counts_rowid_mean db refl rowids reads_id numbers table in
    let one = one_seen (seen one_column) (db.trees 14) rowid (sym only ∙ ids) in
    let row = one.0 in
    let id : column row 0 ≡ number 1 = subst (λ (r : Row). column r 0 ≡ number 1) one.2 is in
    let shown = only_is row (seen counts_columns row) 14 counts_columns COUNTS.now counts_names counts_mean db refl rows reads one.1 refl in
    let stands = (subst (AllByRecursion (IsOfSomeRecord (λ (it : Counts). Unit {0}) shown_counts)) shown stand).0 in
    let fit : Fits (Some 0) kept.columns row = (subst (AllByRecursion (Fits (Some 0) kept.columns)) one.1 (counts_fit db are)).0 in
    let cells = stands.2 in
    let is_stored : row ≡ stored_counts stands.0 =
    is_row (Some 0) kept.columns row (stored_counts stands.0) fit.typed (refl {a = 5}) (ap is_null cells.1.1.0) (id, (key_null (key_column (codes "one")) (required (codes "n_good") kind.Integer ∷ required (codes "n_revoked") kind.Integer ∷ required (codes "n_expired") kind.Integer ∷ []) row fit.typed, cells)) in
    record { counts = stands.0; are = subst (λ (r : Row). db.trees 14 ≡ r ∷ []) is_stored one.1 }
