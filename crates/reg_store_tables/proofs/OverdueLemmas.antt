-- What the statement on the requests that are not declined shows, and which of them are overdue.
use Rattle.std.proofs.Common.{◌≡◌, ◌≤◌, ◌<◌, ◌+◌, ◌++◌, ◌&&◌, ℕ, pos, true, false, Bool, not, cond, Option, Some, None, List, [], ◌∷◌, map, length, take, get_or, codes, refl, sym, ap, ◌∙◌, arith, inl, inr, length-append}
use Rattle.std.specs.Prelude.{◌==◌, is_some, nat_lt}
use Rattle.std.specs.List.{filter, AllByRecursion}
use Rattle.std.proofs.lemmas.Bool.{cases_Bool}
use Rattle.std.proofs.lemmas.List.{length-take, take_more}
use Rattle.sqlite_value.specs.Order.{Row}
use Rattle.sqlite_value.specs.declared.keys.Key.{Key}
use Rattle.sqlite_value.specs.declared.keys.Collation.TheVariants.{Binary}
use Rattle.sqlite_value.specs.declared.value.Value.TheVariants.{Int}
use Rattle.sqlite_sql.specs.Term.{Term, col, lit, op2}
use Rattle.sqlite_sql.specs.Query.{Output}
use Rattle.sqlite_sql.specs.declared.ops.BinaryOp.TheVariants.{Compare}
use Rattle.sqlite_sql.specs.declared.ops.CompareOp.TheVariants.{Eq}
use Rattle.sqlite.specs.Effect.{Database, Reads}
use Rattle.sqlite.specs.Listing.{understood}
use Rattle.sqlite_resolve.specs.Compile.{first}
use Rattle.sqlite_tied.specs.Compute.{everything}
use Rattle.reg_core.specs.Due.{deadline, is_open, overdue, overdue_report}
use Rattle.reg_core.specs.Records.{Records}
use Rattle.reg_core.specs.Serial.{IsSerial}
use Rattle.reg_core.specs.Status.{status, status_by, is_good}
use Rattle.reg_core.specs.declared.command.Overdue.{Overdue}
use Rattle.reg_core.specs.declared.command.Status.{Status}
use Rattle.reg_core.specs.declared.command.Status.TheVariants.{Unknown, Good, Expired, Revoked}
use Rattle.reg_core.specs.declared.rows.CertRow.{CertRow}
use Rattle.reg_core.specs.declared.rows.RequestRow.{RequestRow}
use Rattle.reg_core.specs.declared.rows.RevocationRow.{RevocationRow}
use Rattle.reg_store_tables.specs.Schema.{register_schema}
use Rattle.reg_store_tables.specs.Rows.{number, stored_request}
use Rattle.reg_store_tables.specs.Shows.{IsShownBy}
use Rattle.reg_store_tables.specs.ReadStatements.{command_of, shown_request}
use Rattle.reg_store_tables.specs.declared.sql.TheConstants.{UNDECLINED}
use Rattle.reg_store_tables.proofs.Compares.{and_true, eq_number}
use Rattle.reg_store_tables.proofs.Queries.{selects, no_limit, Given, keyed_given, kept_have}
use Rattle.reg_store_tables.proofs.Selecting.{select_never}
use Rattle.reg_store_tables.proofs.FailingLemmas.{IsSelect, select}
use Rattle.reg_store_tables.proofs.Few.{fewer}
use Rattle.reg_store_tables.proofs.Sorting.{ascending_key, ascends, Rises, sorted_same}
use Rattle.reg_store_tables.proofs.Greatest.{numbered_rises}

abbrev columns : List Term
columns = col 1 0 ∷ col 1 2 ∷ col 1 3 ∷ col 1 4 ∷ col 1 5 ∷ []

abbrev names : List (List ℕ)
names = codes "id" ∷ codes "serial" ∷ codes "ground" ∷ codes "received" ∷ codes "declined" ∷ []

abbrev undeclined_terms : List Term
undeclined_terms = op2 (Compare Eq Binary) (col 1 5) (lit (Int (pos 0))) ∷ []

abbrev by_id : List (Term × Key)
by_id = (col 1 0, ascending_key) ∷ []

pub undeclined_text : IsSelect UNDECLINED.now (selects 7 undeclined_terms columns by_id no_limit) names (λ (_ : Unit {0}). [])
unfolding understood everything register_schema first
undeclined_text =
    select UNDECLINED.now 7 undeclined_terms columns by_id no_limit names (λ (_ : Unit {0}). []) refl (refl, refl) refl (select_never UNDECLINED.now _ _ refl refl refl) (λ it. (omega arith, refl)) (λ it. refl)

abbrev id_of : RequestRow → ℕ
id_of row = row.id

abbrev out : RequestRow → Output
out row = (number row.id ∷ [], shown_request row)

pub flag_is : (declined : Bool) → (cond declined 1 0 == 0) ≡ not declined
flag_is true = refl
flag_is false = refl

abbrev pub undeclined : RequestRow → Bool
undeclined row = not row.declined

kept_above : (p : RequestRow → Bool) (low : ℕ) (xs : List RequestRow) → AllByRecursion (λ row. low < id_of row) xs → AllByRecursion (λ row. low < id_of row) (filter p xs)
kept_above p low xs all = kept_have (λ (row : RequestRow). low < id_of row) p xs all

pub kept_rises : (p : RequestRow → Bool) (xs : List RequestRow) → Rises id_of xs → Rises id_of (filter p xs)
kept_rises p [] rises = tt
kept_rises p (x ∷ xs) rises = elim (cases_Bool (p x)) [
  | inl passed ↦ rw passed (kept_above p (id_of x) xs rises.0, kept_rises p xs rises.1)
  | inr failed ↦ rw failed (kept_rises p xs rises.1)
]

module _ (db : Database) (records : Records) (shown : IsShownBy db records) (rows : List Row) (reads : Reads (command_of (understood register_schema UNDECLINED.now)) db [] rows) where
  undeclined_given : Given undeclined out records.requests (selects 7 undeclined_terms columns by_id no_limit) [] rows
  undeclined_given =
      keyed_given (λ (row : RequestRow). IsSerial row.serial) stored_request undeclined out records.requests shown.rows.request_serials 7 undeclined_terms columns by_id no_limit [] UNDECLINED.now names undeclined_text.means db refl rows reads
      shown.rows.requests (λ row read_row. and_true _ ∙ eq_number (cond row.declined 1 0) 0 ∙ flag_is row.declined) (λ row. refl)

  pub undeclined_are : rows ≡ map shown_request (filter undeclined records.requests)
  undeclined_are =
      let rises = kept_rises undeclined records.requests (numbered_rises id_of 1 records.requests shown.rows.requests_numbered) in
      let to : undeclined_given.to ≡ filter undeclined records.requests = sorted_same id_of (filter undeclined records.requests) undeclined_given.to rises undeclined_given.same (ascends id_of undeclined_given.to undeclined_given.sorted) in
      undeclined_given.shown ∙ ap (map shown_request) to

  pub undeclined_serials : AllByRecursion (λ (row : RequestRow). IsSerial row.serial) (filter undeclined records.requests)
  undeclined_serials = kept_have (λ (row : RequestRow). IsSerial row.serial) undeclined records.requests shown.rows.request_serials

-- a status that is not good is told as that
pub not_good : (s : Status) → (s ≡ Good → ⊥) → false ≡ is_good s
not_good Unknown never = refl
not_good Good never = absurd (never refl)
not_good Expired never = refl
not_good (Revoked at reason) never = refl

-- what has a revocation is not good
pub revoked_not_good : (moment : ℕ) (certificate : Option CertRow) (revocation : Option RevocationRow) → is_some revocation ≡ true → false ≡ is_good (status_by moment certificate revocation)
revoked_not_good moment None revocation some = refl
revoked_not_good moment (Some certificate) (Some revocation) some = refl
revoked_not_good moment (Some certificate) None some = let no : false ≡ true = some in cc

-- both tests, in the order of the code
pub late_is : (good past : Bool) → cond good past false ≡ (good && past)
late_is true past = refl
late_is false past = refl

-- the requests that are overdue are those, of the ones that are not declined, whose certificate is good and deadline past
abbrev pub late : Records → ℕ → RequestRow → Bool
late records now row = is_good (status records row.serial now) && nat_lt (deadline row) now

filter_twice : {A : Type 0} (p q r : A → Bool) → ((x : A) → r x ≡ (p x && q x)) → (xs : List A) → filter q (filter p xs) ≡ filter r xs
filter_twice p q r both [] = refl
filter_twice p q r both (x ∷ xs) = let rest = filter_twice p q r both xs in elim (cases_Bool (p x)) [
  | inl passed ↦
      let same : r x ≡ q x = both x ∙ (λ i. passed i && q x) in
      rw (passed, same) (elim (cases_Bool (q x)) [
        | inl kept ↦ rw kept (ap (λ l. x ∷ l) rest)
        | inr lost ↦ rw lost rest
      ])
  | inr failed ↦ let same : r x ≡ false = both x ∙ (λ i. failed i && q x) in rw (failed, same) rest
]

and_assoc : (a b c : Bool) → ((a && b) && c) ≡ (a && (b && c))
and_assoc true b c = refl
and_assoc false b c = refl

pub overdue_are : (records : Records) (now : ℕ) → filter (late records now) (filter undeclined records.requests) ≡ overdue records now
overdue_are records now =
    filter_twice undeclined (late records now) (λ row. is_open records now row && nat_lt (deadline row) now) (λ row. and_assoc (not row.declined) (is_good (status records row.serial now)) (nat_lt (deadline row) now)) records.requests

-- ---- one request after another

filter_append : {A : Type 0} (p : A → Bool) (xs : List A) (x : A) → filter p (xs ++ x ∷ []) ≡ cond (p x) (filter p xs ++ x ∷ []) (filter p xs)
filter_append p [] x = refl
filter_append p (y ∷ xs) x = let rest = filter_append p xs x in elim (cases_Bool (p y)) [
  | inl passed ↦ rw (passed, rest) (elim (cases_Bool (p x)) [
    | inl kept ↦ rw kept refl
    | inr lost ↦ rw lost refl
  ])
  | inr failed ↦ rw (failed, rest) refl
]

pub with_late : {A : Type 0} (p : A → Bool) (xs : List A) (i : ℕ) (x : A) → i < length xs → x ≡ get_or xs i x → p x ≡ true → filter p (take (i + 1) xs) ≡ filter p (take i xs) ++ x ∷ []
with_late p xs i x within is passed = ap (filter p) (take_more xs i x within ∙ ap (λ y. take i xs ++ y ∷ []) (sym is)) ∙ filter_append p (take i xs) x ∙ rw passed refl

pub without_late : {A : Type 0} (p : A → Bool) (xs : List A) (i : ℕ) (x : A) → i < length xs → x ≡ get_or xs i x → p x ≡ false → filter p (take (i + 1) xs) ≡ filter p (take i xs)
without_late p xs i x within is failed = ap (filter p) (take_more xs i x within ∙ ap (λ y. take i xs ++ y ∷ []) (sym is)) ∙ filter_append p (take i xs) x ∙ rw failed refl

-- no more rows of a prefix are kept than there are
pub front_within : {A : Type 0} (p q : A → Bool) (i : ℕ) (xs : List A) → length (filter p (take i (filter q xs))) ≤ length xs
front_within p q i xs =
    let kept = fewer p (take i (filter q xs)) in
    let front = length-take i (filter q xs) in
    let open_ones = fewer q xs in
    omega arith

same_report : (one other : Overdue) → Some one ≡ Some other → one ≡ other
same_report one other same = cc

-- the requests that are reported are as many as the report counts
pub report_counts : (requests : List RequestRow) (report : Overdue) → Some report ≡ overdue_report requests → report.count ≡ length requests
report_counts [] report is = absurd (cc)
report_counts (request ∷ rest) report is = ap (λ (r : Overdue). r.count) (same_report report (record { count = length (request ∷ rest); first = request.id }) is)

-- ---- how many are open

-- a request whose certificate is good
abbrev pub good_at : Records → ℕ → RequestRow → Bool
good_at records now row = is_good (status records row.serial now)

pub open_are : (records : Records) (now : ℕ) → filter (good_at records now) (filter undeclined records.requests) ≡ filter (is_open records now) records.requests
open_are records now = filter_twice undeclined (good_at records now) (is_open records now) (λ row. refl) records.requests

-- one more of them, and one that is none
pub one_open : (p : RequestRow → Bool) (xs : List RequestRow) (i : ℕ) (x : RequestRow) → i < length xs → x ≡ get_or xs i x → p x ≡ true
    → length (filter p (take (i + 1) xs)) ≡ length (filter p (take i xs)) + 1
one_open p xs i x within is passed = ap length (with_late p xs i x within is passed) ∙ length-append (filter p (take i xs)) (x ∷ [])

pub none_open : (p : RequestRow → Bool) (xs : List RequestRow) (i : ℕ) (x : RequestRow) → i < length xs → x ≡ get_or xs i x → p x ≡ false
    → length (filter p (take (i + 1) xs)) ≡ length (filter p (take i xs))
none_open p xs i x within is failed = ap length (without_late p xs i x within is failed)
