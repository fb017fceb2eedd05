-- A schema that is made step by step.
use Rattle.std.proofs.Common.{◌≡◌, Result, Ok, Err, OnOk, ap, ◌∙◌}
use Rattle.sqlite_schema.specs.declared.schema.Schema.{Schema}
use Rattle.sqlite_schema.specs.declared.schema.Table.{Table}
use Rattle.sqlite_schema.specs.declared.schema.Index.{Index}
use Rattle.sqlite_catalog.specs.Change.{created, indexed}

-- what follows from what holds where a call is well
pub ok_leads : {A E : Type 0} (P Q : Type 0) (r : Result A E) → (P → Q) → OnOk r P → OnOk r Q
ok_leads P Q (Ok x) leads holds = leads holds
ok_leads P Q (Err e) leads holds = tt

pub then_table : (table : Table) (was old new : Schema) → old ≡ was → new ≡ created old table → new ≡ created was table
then_table table was old new is made = made ∙ ap (λ (s : Schema). created s table) is

pub then_index : (table : Table) (index : Index) (was old new : Schema) → old ≡ was → new ≡ indexed old table index → new ≡ indexed was table index
then_index table index was old new is made = made ∙ ap (λ (s : Schema). indexed s table index) is
