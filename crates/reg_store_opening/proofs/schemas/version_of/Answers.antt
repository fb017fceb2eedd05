use Rattle.std.proofs.Common.{◌≡◌, ◌∙◌}
use Rattle.reg_store_tables.specs.Schema.{record_tables, with_derived_tables}
use Rattle.reg_store_opening.specs.declared.versions.Version.TheVariants.{First, Second}
use Rattle.reg_store_opening.proofs.VersionNumbers.{version_is}
use Rattle.reg_store_opening.proofs.schemas.version_of.Goals as goal

pub returns-then-is_same : goal.returns-then-is_same
returns-then-is_same c =
    let made : c.add_records.new.made ≡ record_tables = c.in_ok-add_records.ensures c.new-made.ensures in
    version_is c.args.schema.now First (c.is_same.ensures.0 c.if-is_same.true ∙ made)

pub returns-then-is_same-2 : goal.returns-then-is_same-2
returns-then-is_same-2 c =
    let first : c.add_records.new.made ≡ record_tables = c.in_ok-add_records.ensures c.new-made.ensures in
    let made : c.add_derived_tables.new.made ≡ with_derived_tables = c.in_ok-add_derived_tables.ensures first in
    version_is c.args.schema.now Second (c.is_same-2.ensures.0 c.if-is_same-2.true ∙ made)
