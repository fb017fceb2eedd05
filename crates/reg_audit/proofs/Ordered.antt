-- The tables of an open connection are in order.
use Rattle.std.proofs.Common.{◌≡◌, ℕ, false, IsTrue, subst}
use Rattle.std.specs.List.{AllByRecursion}
use Rattle.sqlite_trees.specs.Objects.{catalog_tree, IsListed}
use Rattle.sqlite_trees.specs.Tree.{Trees, IsTable}
use Rattle.sqlite_trees.specs.View.{IsOrdered, IsShaped}
use Rattle.sqlite_trees.specs.declared.store.Shape.{Shape}
use Rattle.sqlite_trees.specs.declared.store.Shape.TheVariants as shape
use Rattle.sqlite_trees.specs.declared.store.Store.{Ghosts}
use Rattle.sqlite_schema.specs.Rules.{IsLaidOut}
use Rattle.sqlite_schema.specs.declared.schema.Schema.{Schema}
use Rattle.sqlite_catalog.specs.Listing.{IsSound}
use Rattle.sqlite_catalog.proofs.LayoutLemmas.{laid_out, objects_rise}
use Rattle.sqlite.specs.Held.{Held, state}
use Rattle.reg_store_tables.specs.Schema.{register_schema, table_trees}
use Rattle.reg_audit.specs.Complete.{AreTables}
use Rattle.reg_audit.specs.Presumed.{IsOverRegister, IsPresumed}

rises_at : (s : Shape) (trees : Trees) (tree : ℕ) → s ≡ shape.Table → IsShaped s (trees tree) → IsTable (trees tree)
rises_at s trees tree is shaped = (subst (λ (t : Shape). IsShaped t (trees tree)) is shaped).0

module _ (shapes : ℕ → Shape) (trees : Trees) (ordered : IsOrdered shapes trees) (layout : IsLaidOut register_schema shapes) where
  tables_rise : AllByRecursion (λ tree. IsTable (trees tree)) table_trees
  unfolding register_schema
  tables_rise =
      let at = layout.tables in
      let rises = λ (tree : ℕ) (is : shapes tree ≡ shape.Table). rises_at (shapes tree) trees tree is (ordered tree) in (
        rises 0 at.0,
        (
          rises 1 at.1.0,
          (
            rises 3 at.1.1.0,
            (
              rises 4 at.1.1.1.0,
              (
                rises 7 at.1.1.1.1.0,
                (
                  rises 8 at.1.1.1.1.1.0,
                  (
                    rises 11 at.1.1.1.1.1.1.0,
                    (
                      rises 12 at.1.1.1.1.1.1.1.0,
                      (rises 14 at.1.1.1.1.1.1.1.1.0, (rises 15 at.1.1.1.1.1.1.1.1.1.0, (rises 17 at.1.1.1.1.1.1.1.1.1.1.0, tt))),
                    ),
                  ),
                ),
              ),
            ),
          ),
        ),
      )

module _ {S : Type 0} (g : Ghosts S) (h : Held S) (ordered : (g.view h.store).is_broken ≡ false → IsOrdered (g.view h.store).shape (g.view h.store).trees)
    (listed : (g.view h.store).is_broken ≡ false → IsListed ((g.view h.store).trees catalog_tree) (g.view h.store).shape (g.view h.store).reals) where
  -- the tables of an open connection over a register obey its schema, and their rowids rise
  pub tables_are : IsOverRegister g h → IsPresumed g h → IsTrue (state g h).is_open → AreTables (state g h).now
  tables_are is presumed up =
      let sound : IsSound register_schema (state g h).now.trees = subst (λ (schema : Schema). IsSound schema (state g h).now.trees) is.schema (is.live up).0 in
      let order = ordered presumed.unbroken in
      let list = listed presumed.unbroken in
      let layout = laid_out list (objects_rise (g.view h.store) list order) sound.lists.listed in
      record {
        schema = is.schema;
        obeyed = (is.live up).0;
        rises = tables_rise (g.view h.store).shape (g.view h.store).trees order layout;
        whole = presumed.whole;
      }
