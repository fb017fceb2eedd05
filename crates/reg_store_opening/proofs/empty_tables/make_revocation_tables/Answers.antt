use Rattle.std.proofs.Common.{refl}
use Rattle.sqlite_catalog.specs.Change.{created}
use Rattle.reg_store_tables.specs.Schema.{request, revocation, crl}
use Rattle.reg_store_tables.proofs.PublicLaws.{moves_on, stepped_clean, then_moves}
use Rattle.reg_store_opening.specs.Blank.{no_rows, entry_tables}
use Rattle.reg_store_opening.proofs.SchemaTexts.{request_defined, revocation_defined, crl_defined}
use Rattle.reg_store_opening.proofs.empty_tables.make_revocation_tables.Goals as goal

pub returns-clause-made : goal.returns-clause-made
returns-clause-made g c clean =
    let clean2 = stepped_clean c.define-3.ensures.stepped clean in
    let first = c.in_ok-define.ensures.made (stepped_clean c.define-2.ensures.stepped clean2) in
    let second = c.in_ok-define-2.ensures.made clean2 in
    then_moves _ _ _ _ _ _ c.define-3.result (moves_on first second) (c.define-3.ensures.made clean) (λ _ third blank.
    let one = first.tables.table entry_tables (record request { tree = 0 }) no_rows request_defined refl blank in
    let two = second.tables.table (created entry_tables request) (record revocation { tree = 0 }) no_rows revocation_defined refl one in
    third.table (created (created entry_tables request) revocation) (record crl { tree = 0 }) no_rows crl_defined refl two)
