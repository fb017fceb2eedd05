-- What a stop may leave is shown by a register that is opened again.
use Rattle.std.proofs.Common.{◌≡◌, IsTrue, sym, subst, ◌∙◌}
use Rattle.sqlite_trees.specs.Tree.{Trees}
use Rattle.sqlite_trees.specs.Objects.{catalog_tree}
use Rattle.sqlite_trees.specs.declared.store.Store.{Ghosts}
use Rattle.sqlite_schema.specs.declared.schema.Schema.{Schema}
use Rattle.sqlite_catalog.specs.Listing.{IsSound}
use Rattle.sqlite_catalog.proofs.ReadLemmas.{lists_once}
use Rattle.sqlite.specs.Effect.{Database}
use Rattle.sqlite.specs.Held.{Held, state}
use Rattle.sqlite.specs.State.{HasCleanDisk, IsLive, Opens}
use Rattle.reg_core.specs.Records.{Records}
use Rattle.reg_store_tables.specs.Kept.{ShowsKept}
use Rattle.reg_store_tables.specs.Schema.{register_schema}
use Rattle.reg_store_tables.specs.Shows.{AreRecordsAndDerived, Holds}
use Rattle.reg_store_tables.specs.AfterStop.{ShowsDerivedAfterStop}

-- rows list one schema
one_schema : (schema other : Schema) (trees : Trees) → IsSound schema trees → IsSound other trees → schema ≡ other
one_schema schema other trees is also = lists_once (trees catalog_tree) schema other is.lists also.lists

module _ {S : Type 0} (g : Ghosts S) (again : Held S) (opens : Opens (state g again)) (live : IsLive (state g again)) where
  -- a new connection over a register's rows shows their records
  pub shows_again : (records : Records) → ShowsDerivedAfterStop records (state g again).committed.trees → ShowsKept g again records
  shows_again records rests =
      let db = (state g again).committed in
      let schema : db.schema ≡ register_schema = one_schema db.schema register_schema db.trees (live opens.is_open).1 rests.3 in
      let both : AreRecordsAndDerived db records rests.0 = record { shown = record { schema = schema; rows = rests.1.shown.rows }; kept = rests.1.kept } in
      (rests.0, record { saved = λ clean up. opens.clean; tables = λ clean up. subst (λ (d : Database). AreRecordsAndDerived d records rests.0) (sym opens.clean) both }, rests.2)

  module _ (old : Held S) (was_open : IsTrue (state g old).is_open) (was_live : IsLive (state g old)) (is : (state g again).committed.trees ≡ (state g old).committed.trees) where
    -- and over the rows that were committed last it shows that database
    pub same_again : (state g again).now ≡ (state g old).committed
    same_again =
        let a = (state g again).committed in
        let b = (state g old).committed in
        let also : IsSound b.schema a.trees = subst (λ (t : Trees). IsSound b.schema t) (sym is) (was_live was_open).1 in
        let schema : a.schema ≡ b.schema = one_schema a.schema b.schema a.trees (live opens.is_open).1 also in
        let same : a ≡ b = λ i. record { schema = schema i; trees = is i } in
        opens.clean ∙ same

    pub holds_again : (P : Database → Type 0) → HasCleanDisk (state g old) → Holds g old P → Holds g again P
    holds_again P clean holds = record {
      saved = λ now_clean up. opens.clean;
      tables = λ now_clean up. subst P (sym same_again) (subst P (holds.saved clean was_open) (holds.tables clean was_open));
    }

    pub keeps_again : (records : Records) → HasCleanDisk (state g old) → ShowsKept g old records → ShowsKept g again records
    keeps_again records clean kept = (kept.0, holds_again (λ (d : Database). AreRecordsAndDerived d records kept.0) clean kept.1, kept.2)
