use Rattle.std.proofs.Common.{[], sym, ◌∙◌}
use Rattle.reg_store_opening.proofs.expected_schema.add_key.Goals as goal

pub automatic-requires : goal.automatic-requires
automatic-requires c = c.as_str.ensures.value ∙ c.in_ok-index_name.ensures c.args.table.now [] 0 (sym c.requires.name)
