use Rattle.std.proofs.Common.{map, ◌∙◌}
use Rattle.sqlite.specs.Held.{state}
use Rattle.reg_core.specs.Crls.{row_of}
use Rattle.reg_core.specs.declared.rows.CrlRow.{CrlRow}
use Rattle.reg_store_tables.proofs.PublicLaws.{all_of}
use Rattle.reg_store_migration.proofs.Questions.{reading_crls, crls_are}
use Rattle.reg_store_migration.proofs.record_reader.crls.Goals as goal

pub ask-requires : goal.ask-requires
ask-requires g c = reading_crls

pub returns-clause-asked : goal.returns-clause-asked
returns-clause-asked g c clean =
    let asked = c.in_ok-found.ensures.asked clean in
    let db = (state g.S.Store c.args.tx.now.conn.now).now in (
      asked.0,
      λ records shown.
          c.in_ok-rows_in.ensures.read (map row_of records.crls) (all_of (λ (crl : CrlRow). Unit {0}) (λ _. tt) (map row_of records.crls))
          (c.deref.ensures.value ∙ crls_are db records shown c.in_ok-found.found.items (asked.1 shown.schema)),
    )
