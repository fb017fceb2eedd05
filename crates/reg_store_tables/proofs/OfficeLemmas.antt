-- What the statements on the office show.
use Rattle.std.proofs.Common.{◌≡◌, ℕ, true, List, [], ◌∷◌, map, codes, refl, ap, ◌∙◌, arith}
use Rattle.sqlite_value.specs.Order.{Row}
use Rattle.sqlite_value.specs.declared.value.Value.TheVariants.{Blob}
use Rattle.sqlite_sql.specs.Term.{Term, col, eval_all}
use Rattle.sqlite_sql.specs.Query.{Output, page}
use Rattle.sqlite.specs.Effect.{Database, Reads}
use Rattle.sqlite.specs.Listing.{understood}
use Rattle.sqlite.proofs.Callers.{one_permutation}
use Rattle.sqlite_resolve.specs.Compile.{first}
use Rattle.sqlite_tied.specs.Compute.{everything}
use Rattle.reg_core.specs.Records.{Records}
use Rattle.reg_store_tables.specs.Schema.{register_schema}
use Rattle.reg_store_tables.specs.Rows.{number, stored_office}
use Rattle.reg_store_tables.specs.Shows.{IsShownBy}
use Rattle.reg_store_tables.specs.ReadStatements.{command_of}
use Rattle.reg_store_tables.specs.declared.sql.TheConstants.{LAST, ISSUER, OCSP_HEAD, TERMS}
use Rattle.reg_store_tables.proofs.Queries.{selects, as_command, no_limit, Given, keyed_given}
use Rattle.reg_store_tables.proofs.Selecting.{select_never}
use Rattle.reg_store_tables.proofs.FailingLemmas.{IsSelect, select}

module _ (project : List Term) (text : List ℕ) (names : List (List ℕ)) (means : command_of (understood register_schema text) ≡ as_command (selects 0 [] project [] no_limit) names)
    (db : Database) (records : Records) (shown : IsShownBy db records) (rows : List Row) (reads : Reads (command_of (understood register_schema text)) db [] rows) where
  abbrev stored : Records → Row
  stored r = stored_office shown.rows.days r.issuer r.policy r.last

  abbrev out : Records → Output
  out r = ([], eval_all project ([] ∷ stored r ∷ []))

  office_given : Given (λ _. true) out (records ∷ []) (selects 0 [] project [] no_limit) [] rows
  office_given = keyed_given (λ _. Unit {0}) stored (λ _. true) out (records ∷ []) (tt, tt) 0 [] project [] no_limit [] text names means db refl rows reads shown.rows.office (λ r any. refl) (λ r. refl)

  -- the one row is there
  office_rows : rows ≡ eval_all project ([] ∷ stored records ∷ []) ∷ []
  office_rows =
      office_given.shown ∙ ap (λ to. page (selects 0 [] project [] no_limit) [] (map (λ a. (out a).1) to)) (one_permutation records office_given.to office_given.same)

pub last_text : IsSelect LAST.now (selects 0 [] (col 1 9 ∷ []) [] no_limit) (codes "last_at" ∷ []) (λ (_ : Unit {0}). [])
unfolding understood everything register_schema first
last_text =
    select LAST.now 0 [] (col 1 9 ∷ []) [] no_limit (codes "last_at" ∷ []) (λ (_ : Unit {0}). []) refl (refl, refl) refl (select_never LAST.now _ _ refl refl refl) (λ it. (omega arith, refl)) (λ it. refl)

pub issuer_text : IsSelect ISSUER.now (selects 0 [] (col 1 3 ∷ col 1 4 ∷ []) [] no_limit) (codes "name" ∷ codes "pubkey" ∷ []) (λ (_ : Unit {0}). [])
unfolding understood everything register_schema first
issuer_text =
    select ISSUER.now 0 [] (col 1 3 ∷ col 1 4 ∷ []) [] no_limit (codes "name" ∷ codes "pubkey" ∷ []) (λ (_ : Unit {0}). []) refl (refl, refl) refl (select_never ISSUER.now _ _ refl refl refl) (λ it. (omega arith, refl)) (λ it. refl)

pub responding_text : IsSelect OCSP_HEAD.now (selects 0 [] (col 1 9 ∷ col 1 3 ∷ col 1 4 ∷ col 1 7 ∷ []) [] no_limit) (codes "last_at" ∷ codes "name" ∷ codes "pubkey" ∷ codes "ocsp_life" ∷ []) (λ (_ : Unit {0}). [])
unfolding understood everything register_schema first
responding_text =
    select OCSP_HEAD.now 0 [] (col 1 9 ∷ col 1 3 ∷ col 1 4 ∷ col 1 7 ∷ []) [] no_limit (codes "last_at" ∷ codes "name" ∷ codes "pubkey" ∷ codes "ocsp_life" ∷ []) (λ (_ : Unit {0}). []) refl (refl, refl) refl (select_never OCSP_HEAD.now _ _ refl refl refl) (λ it. (omega arith, refl)) (λ it. refl)

pub terms_text : IsSelect TERMS.now (selects 0 [] (col 1 6 ∷ col 1 7 ∷ col 1 8 ∷ []) [] no_limit) (codes "crl_life" ∷ codes "ocsp_life" ∷ codes "cap" ∷ []) (λ (_ : Unit {0}). [])
unfolding understood everything register_schema first
terms_text =
    select TERMS.now 0 [] (col 1 6 ∷ col 1 7 ∷ col 1 8 ∷ []) [] no_limit (codes "crl_life" ∷ codes "ocsp_life" ∷ codes "cap" ∷ []) (λ (_ : Unit {0}). []) refl (refl, refl) refl (select_never TERMS.now _ _ refl refl refl) (λ it. (omega arith, refl)) (λ it. refl)

module _ (db : Database) (records : Records) (shown : IsShownBy db records) (rows : List Row) where
  pub last_rows : Reads (command_of (understood register_schema LAST.now)) db [] rows → rows ≡ (number records.last ∷ []) ∷ []
  last_rows reads = office_rows (col 1 9 ∷ []) LAST.now (codes "last_at" ∷ []) last_text.means db records shown rows reads

  pub issuer_rows : Reads (command_of (understood register_schema ISSUER.now)) db [] rows → rows ≡ (Blob records.issuer.name ∷ Blob records.issuer.key ∷ []) ∷ []
  issuer_rows reads = office_rows (col 1 3 ∷ col 1 4 ∷ []) ISSUER.now (codes "name" ∷ codes "pubkey" ∷ []) issuer_text.means db records shown rows reads

  pub terms_rows : Reads (command_of (understood register_schema TERMS.now)) db [] rows → rows ≡ (number records.policy.crl_life ∷ number records.policy.ocsp_life ∷ number records.policy.cap ∷ []) ∷ []
  terms_rows reads = office_rows (col 1 6 ∷ col 1 7 ∷ col 1 8 ∷ []) TERMS.now (codes "crl_life" ∷ codes "ocsp_life" ∷ codes "cap" ∷ []) terms_text.means db records shown rows reads

  pub responding_rows : Reads (command_of (understood register_schema OCSP_HEAD.now)) db [] rows
      → rows ≡ (number records.last ∷ Blob records.issuer.name ∷ Blob records.issuer.key ∷ number records.policy.ocsp_life ∷ []) ∷ []
  responding_rows reads = office_rows (col 1 9 ∷ col 1 3 ∷ col 1 4 ∷ col 1 7 ∷ []) OCSP_HEAD.now (codes "last_at" ∷ codes "name" ∷ codes "pubkey" ∷ codes "ocsp_life" ∷ []) responding_text.means db records shown rows reads
