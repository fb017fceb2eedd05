-- What a stop may find after a transaction.
use Rattle.std.proofs.Common.{◌≡◌, refl, sym, subst}
use Rattle.sqlite_trees.specs.Tree.{Trees}
use Rattle.sqlite_catalog.specs.Listing.{IsSound}
use Rattle.sqlite.specs.Effect.{Database, IsDatabase}
use Rattle.sqlite.specs.State.{State, Survives}
use Rattle.sqlite.proofs.StateLemmas.{survives_then, survives_weaker}
use Rattle.reg_core.specs.Records.{Records}
use Rattle.reg_store_tables.specs.DerivedRows.{DerivedRows}
use Rattle.reg_store_tables.specs.Kept.{Kept}
use Rattle.reg_store_tables.specs.Schema.{register_schema}
use Rattle.reg_store_tables.specs.Shows.{AreRecordsAndDerived}
use Rattle.reg_store_tables.specs.Stays.{LeavesNothing}
use Rattle.reg_store_tables.specs.AfterStop.{HaveRegisterSchema, ShowsDerivedAfterStop}

-- what a database shows its rows show
pub resting : (db : Database) (trees : Trees) (records : Records) (columns : DerivedRows) → trees ≡ db.trees → AreRecordsAndDerived db records columns → AreRecordsAndDerived (record { schema = register_schema; trees = trees }) records columns
resting db trees records columns is both =
    subst (λ t. AreRecordsAndDerived (record { schema = register_schema; trees = t }) records columns) (sym is) (record { shown = record { schema = refl; rows = both.shown.rows }; kept = both.kept })

-- and what it obeys they obey
pub rests_sound : (db : Database) (trees : Trees) → trees ≡ db.trees → db.schema ≡ register_schema → IsDatabase db → HaveRegisterSchema trees
rests_sound db trees is schema sound = subst (λ t. IsSound register_schema t) (sym is) (subst (λ s. IsSound s db.trees) schema sound)

-- what is kept stands for the records, and so they are at rest
pub at_rest : (db : Database) (trees : Trees) (records : Records) (columns : DerivedRows) → trees ≡ db.trees → AreRecordsAndDerived db records columns → IsDatabase db → Kept columns records → ShowsDerivedAfterStop records trees
at_rest db trees records columns is both sound kept = (columns, resting db trees records columns is both, kept, rests_sound db trees is both.shown.schema sound)

-- what commits nothing leaves what any call may
pub leaves_less : (old new : State) (P : Trees → Type 0) → LeavesNothing old new → Survives old new P
leaves_less old new P = survives_weaker old new (λ _. ⊥) P (λ clean trees none. absurd none)

-- a call that commits nothing, and one that may
pub leaves_first : (a b c : State) (P : Trees → Type 0) → LeavesNothing a b → Survives b c P → Survives a c P
leaves_first a b c P = survives_then a b c (λ _. ⊥) P P (λ clean trees none. absurd none) (λ clean trees p. p)
