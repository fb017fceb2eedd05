-- The schedule as it is written anew.
use Rattle.std.proofs.Common.{ℕ, List, [], refl, sym, subst, ◌∙◌}
use Rattle.std.specs.List.{AllByRecursion}
use Rattle.sqlite.specs.Effect.{Database, IsDatabase}
use Rattle.sqlite.specs.State.{State}
use Rattle.reg_core.specs.Changes.{with_schedule}
use Rattle.reg_core.specs.Issuer.{Issuer}
use Rattle.reg_core.specs.Records.{Records}
use Rattle.reg_store_tables.specs.Schema.{register_schema, longest}
use Rattle.reg_store_tables.specs.Rows.{stored_step}
use Rattle.reg_store_tables.specs.DerivedRows.{DerivedRows}
use Rattle.reg_store_tables.specs.Kept.{Kept}
use Rattle.reg_store_tables.specs.Shows.{IsShownBy, AreRecordsAndDerived}
use Rattle.reg_store_tables.specs.Stays.{Ran}
use Rattle.reg_store_tables.specs.Staged.{IsStaged}
use Rattle.reg_store_changes.specs.ChangeSteps.{ClearsSteps, WritesSchedule}
use Rattle.reg_der.specs.Issuers.{with_issuer}
use Rattle.reg_store_changes.specs.declared.sql.TheConstants.{CLEAR_STEPS}
use Rattle.reg_store_changes.proofs.Meaning.{clear_steps_means}
use Rattle.reg_store_tables.proofs.PublicLaws.{stored_keyed, empties_rows, empties_spares, rows_after, derived_after}

pub clears : (old new : State) (count : ℕ) → Ran CLEAR_STEPS.now [] old new count → ClearsSteps old.now new.now
unfolding register_schema
clears old new count ran base steps was =
    let gone = empties_rows CLEAR_STEPS.now [] old new count ran was.schema 10 longest refl clear_steps_means refl
    (subst (AllByRecursion Rattle.reg_store_tables.proofs.Updates.IsKeyed) (sym was.rows) (stored_keyed stored_step (λ (step : ℕ × ℕ). step.0) (λ step. refl) steps)) in
    let spares = empties_spares longest old.now.trees new.now gone in
    record { schema = gone.keeps_schema; others = λ n known apart. spares.same n known apart ∙ was.others n known apart; rows = gone.rows }

-- ---- at the end

module _ (db after : Database) (records : Records) where
  -- the schedule that there was is staged first
  pub staged_first : (steps : List (ℕ × ℕ)) → IsShownBy db records → WritesSchedule steps db after → IsStaged db.trees steps after × IsDatabase after
  staged_first steps shown on = on.staged db.trees records.policy.schedule (record { schema = shown.schema; others = λ n known apart. refl; rows = shown.rows.schedule })

  pub staged_shows : (steps : List (ℕ × ℕ)) → IsShownBy db records → WritesSchedule steps db after → IsShownBy after (with_schedule records steps)
  staged_shows steps shown on =
      let staged = (staged_first steps shown on).0 in
      record {
        schema = staged.schema;
        rows = rows_after 17 db.trees after.trees (record { same = staged.others }) records (with_schedule records steps) shown.rows (refl, refl, refl, refl, refl, refl, refl, staged.rows)
            (record { schedule = on.sound; crl_life = shown.rows.policy.crl_life; ocsp_life = shown.rows.policy.ocsp_life; cap = shown.rows.policy.cap });
      }

  pub staged_both : (columns : DerivedRows) (steps : List (ℕ × ℕ)) → AreRecordsAndDerived db records columns → WritesSchedule steps db after → AreRecordsAndDerived after (with_schedule records steps) columns
  staged_both columns steps both on = record {
    shown = staged_shows steps both.shown on;
    kept = derived_after 17 db.trees after.trees (record { same = (staged_first steps both.shown on).0.others }) columns columns both.kept (refl, refl, refl, refl);
  }

pub kept_schedule : (columns : DerivedRows) (records : Records) (steps : List (ℕ × ℕ)) → Kept columns records → Kept columns (with_schedule records steps)
kept_schedule columns records steps kept = record { letters = kept.letters; counts = kept.counts; listed = kept.listed }

-- what is kept beside the records does not go by the issuer
pub kept_issuer : (columns : DerivedRows) (records : Records) (issuer : Issuer) → Kept columns records → Kept columns (with_issuer records issuer)
kept_issuer columns records issuer kept = record { letters = kept.letters; counts = kept.counts; listed = kept.listed }
