use Rattle.std.proofs.Common.{[], ◌∷◌, ◌++◌, ◌<◌, length, ap, ◌∙◌, arith}
use Rattle.sqlite_schema.specs.declared.schema.Schema.{Schema}
use Rattle.sqlite_catalog.specs.Steps.{guard_at}
use Rattle.sqlite_catalog.proofs.AlterLemmas.{one_more_guard}
use Rattle.reg_store_opening.proofs.expected_schema.add_keys.Goals as goal

pub loop-at-preserved : goal.loop-at-preserved
loop-at-preserved c =
    let table = c.args.table.now in
    let at = c.loop-at.at in
    let within : at < length table.uniques = omega arith in
    let old : Schema = record { tables = []; indexes = c.args.indexes.now; views = [] } in
    c.in_ok-add_key.ensures ∙ ap (λ l. l ++ guard_at table at ∷ []) c.loop-at.invariant ∙ one_more_guard old table at within
