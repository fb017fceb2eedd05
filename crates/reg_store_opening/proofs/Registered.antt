-- What the statements that test the tables read of a register's.
use Rattle.std.specs.List.{filter}
use Rattle.std.proofs.Common.{◌≡◌, inl, inr, ℕ, true, false, List, [], ◌∷◌, map, Option, Result, Ok, Err, MatchResult, IsTrue, refl, sym, ap, subst, ◌∙◌}
use Rattle.sqlite_value.specs.declared.value.Value.TheVariants.{Blob}
use Rattle.sqlite_value.specs.declared.keys.Key.{Key}
use Rattle.sqlite_value.specs.Order.{Row}
use Rattle.sqlite_sql.specs.Term.{Term, col, eval_all}
use Rattle.sqlite_sql.specs.Query.{Output, page}
use Rattle.sqlite_schema.specs.declared.schema.Schema.{Schema}
use Rattle.sqlite_tied.specs.Compute.{everything}
use Rattle.sqlite_typing.specs.Types.{accepts_program}
use Rattle.sqlite.specs.declared.error.Error.{Error}
use Rattle.sqlite.specs.Effect.{Database, Reads, RefusesToRead}
use Rattle.sqlite.specs.Given.{IsPlain}
use Rattle.sqlite.specs.Listing.{understood, reads_listing, IsSourceOf}
use Rattle.sqlite.proofs.Callers.{one_permutation}
use Rattle.reg_core.specs.Records.{Records}
use Rattle.reg_store_tables.specs.ReadStatements.{command_of, shown_step}
use Rattle.reg_store_tables.proofs.PublicLaws.{selects, as_command, no_limit, passes, shows, Given, ascending_key, given, steps_are}
use Rattle.reg_store_tables.specs.Rows.{number, stored_office}
use Rattle.reg_store_tables.specs.Schema.{register_schema}
use Rattle.reg_store_tables.specs.Shows.{IsShownBy}
use Rattle.reg_store_tables.specs.declared.sql.TheConstants.{STEPS}
use Rattle.reg_store_tables.specs.Stays.{IsDatabaseFault}
use Rattle.reg_store_tables.specs.declared.fault.StoreFault.{StoreFault}
use Rattle.reg_store_opening.specs.declared.sql.TheConstants.{OFFICE}
use Rattle.reg_store_opening.specs.VersionAndOffice.{is_call_error, IsNeverRefused, IsRead, IsOne, AreSteps, HasOfficeValues, AreOfficeRows, InRange, Refuses}
use Rattle.reg_store_opening.proofs.TableTexts.{office_names, steps_names}

-- ---- a query on one table is refused for no reason of its own

pub refused_call : (tree : ℕ) (project : List Term) (order : List (Term × Key)) (names : List (List ℕ)) (limit : Option ℕ) (db : Database) (e : Error) → accepts_program db.schema [] (selects tree [] project order no_limit) [] ≡ true
    → RefusesToRead limit (as_command (selects tree [] project order no_limit) names) db [] e → IsTrue (is_call_error e)
refused_call tree project order names limit db e accepts (inl h) = absurd (let no = h.1 in cc)
refused_call tree project order names limit db e accepts (inr (inl h)) = elim h.1 [
  | inl overflows ↦ absurd overflows
  | inr any ↦ absurd any.4
]
refused_call tree project order names limit db e accepts (inr (inr h)) = subst (λ x. IsTrue (is_call_error x)) (sym h.0) refl

-- over a schema the text reads these columns of all rows of one table
pub record ReadsAll (schema : Schema) (text : List ℕ) (tree : ℕ) (project : List Term) (order : List (Term × Key)) (names : List (List ℕ)) : Type 0 where
  pub plain : IsPlain (understood schema text)
  pub unlisted : reads_listing schema text ≡ false
  pub means : command_of (understood schema text) ≡ as_command (selects tree [] project order no_limit) names
  pub accepted : accepts_program schema [] (selects tree [] project order no_limit) [] ≡ true

module _ (schema : Schema) (text : List ℕ) (tree : ℕ) (project : List Term) (order : List (Term × Key)) (names : List (List ℕ)) (it : ReadsAll schema text tree project order names) where
  pub never_refused : IsNeverRefused schema text
  never_refused = record {
    plain = it.plain;
    unlisted = it.unlisted;
    never = λ limit db e is refuses.
        refused_call tree project order names limit db e (ap (λ s. accepts_program s [] (selects tree [] project order no_limit) []) is ∙ it.accepted) (subst (λ k. RefusesToRead limit k db [] e) it.means refuses);
  }

  read_is : (db : Database) → db.schema ≡ schema → (rows : List Row) → IsRead db text rows → Reads (command_of (understood schema text)) db [] rows
  read_is db is rows read =
      let known : understood schema text ≡ Ok read.compiled = subst (λ s. understood s text ≡ Ok read.compiled) is read.is in
      let source : read.source ≡ db = subst (λ b. IsSourceOf b db read.source) (ap (λ s. reads_listing s text) is ∙ it.unlisted) read.from in
      let here : Reads read.compiled.command db [] rows = subst (λ d. Reads read.compiled.command d [] rows) source read.reads in
      subst (λ k. Reads k db [] rows) (sym (ap command_of known)) here

abbrev out : List Term → Row → Output
out project row = ([], eval_all project ([] ∷ row ∷ []))

-- of the one row of the office
pub row_read : (schema : Schema) (text : List ℕ) (project : List Term) (names : List (List ℕ)) → ReadsAll schema text 0 project [] names → (db : Database) (row : Row) → db.schema ≡ schema → db.trees 0 ≡ row ∷ []
    → (rows : List Row) → IsRead db text rows → rows ≡ eval_all project ([] ∷ row ∷ []) ∷ []
row_read schema text project names it db row is table rows read =
    let reads : Reads (as_command (selects 0 [] project [] no_limit) names) db [] rows = subst (λ k. Reads k db [] rows) it.means (read_is schema text 0 project [] names it db is rows read) in
    let found : Given (λ _. true) (out project) (row ∷ []) (selects 0 [] project [] no_limit) [] rows =
    given (λ _. true) (out project) (row ∷ []) 0 [] project [] no_limit [] names db rows refl (ap (λ t. map (shows (selects 0 [] project [] no_limit) []) (filter (passes [] []) t)) table) reads in
    let to : found.to ≡ row ∷ [] = one_permutation row found.to found.same in
    found.shown ∙ ap (λ l. page (selects 0 [] project [] no_limit) [] (map (λ r. (out project r).1) l)) to

-- ---- the texts

abbrev office_columns : List Term
office_columns = col 1 3 ∷ col 1 4 ∷ col 1 6 ∷ col 1 7 ∷ col 1 8 ∷ col 1 9 ∷ []

office_reads : ReadsAll register_schema OFFICE.now 0 office_columns [] office_names
unfolding understood everything register_schema
office_reads = record { plain = (refl, refl); unlisted = refl; means = refl; accepted = refl }

abbrev step_order : List (Term × Key)
step_order = (col 1 0, ascending_key) ∷ []

steps_reads : ReadsAll register_schema STEPS.now 17 (col 1 0 ∷ col 1 2 ∷ []) step_order steps_names
unfolding understood everything register_schema
steps_reads = record { plain = (refl, refl); unlisted = refl; means = refl; accepted = refl }

pub office_never : IsNeverRefused register_schema OFFICE.now
office_never = never_refused register_schema OFFICE.now 0 office_columns [] office_names office_reads

pub steps_never : IsNeverRefused register_schema STEPS.now
steps_never = never_refused register_schema STEPS.now 17 (col 1 0 ∷ col 1 2 ∷ []) step_order steps_names steps_reads

-- ---- what they read where records are shown

pub are_steps : (steps : List (ℕ × ℕ)) → AreSteps (map shown_step steps) steps
are_steps [] = tt
are_steps (step ∷ steps) = (refl, refl, are_steps steps)

module _ (db : Database) (records : Records) (shown : IsShownBy db records) (rows : List Row) where
  office_read : InRange records → IsRead db OFFICE.now rows → IsOne (HasOfficeValues records.policy.schedule) rows
  office_read within read =
      let rows_are = row_read register_schema OFFICE.now office_columns office_names office_reads db (stored_office shown.rows.days records.issuer records.policy records.last) shown.schema shown.rows.office rows read in (
        Blob records.issuer.name ∷ Blob records.issuer.key ∷ number records.policy.crl_life ∷ number records.policy.ocsp_life ∷ number records.policy.cap ∷ number records.last ∷ [],
        rows_are,
        ((records.issuer, (within.issuer, refl, refl)), (records.policy, (shown.rows.policy, refl, refl, refl, refl)), (records.last, (within.last, refl))),
      )

  steps_read : IsRead db STEPS.now rows → AreSteps rows records.policy.schedule
  steps_read read = subst (λ l. AreSteps l records.policy.schedule) (sym (steps_are db records shown rows (read_is register_schema STEPS.now 17 (col 1 0 ∷ col 1 2 ∷ []) step_order steps_names steps_reads db shown.schema rows read))) (are_steps records.policy.schedule)

-- ---- how they are judged

pub number_one : (a b : ℕ) → number a ≡ number b → a ≡ b
number_one a b e = cc

-- an office within its ranges is not refused
pub office_judged : {A : Type 0} (db : Database) (records : Records) → IsShownBy db records → (rows steps : List Row) → IsRead db OFFICE.now rows → IsRead db STEPS.now steps → (r : Result A StoreFault)
    → MatchResult r (λ _. AreOfficeRows rows steps) (Refuses (AreOfficeRows rows steps → ⊥)) → MatchResult r (λ _. Unit {0}) (λ fault. InRange records → IsDatabaseFault fault)
office_judged db records shown rows steps office schedule (Ok x) is = tt
office_judged db records shown rows steps office schedule (Err f) (inl is) = λ within. inl is
office_judged db records shown rows steps office schedule (Err f) (inr is) = λ within.
    absurd (is.1 (records.policy.schedule, within.moments, steps_read db records shown steps schedule, office_read db records shown rows within office))
