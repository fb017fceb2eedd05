use Rattle.std.proofs.Common.{◌∙◌}
use Rattle.sqlite.specs.Held.{state}
use Rattle.reg_store_migration.proofs.Questions.{reading_revocations, revocations_are}
use Rattle.reg_store_migration.proofs.record_reader.revocations.Goals as goal

pub ask-requires : goal.ask-requires
ask-requires g c = reading_revocations

pub returns-clause-asked : goal.returns-clause-asked
returns-clause-asked g c clean =
    let asked = c.in_ok-found.ensures.asked clean in
    let db = (state g.S.Store c.args.tx.now.conn.now).now in (
      asked.0,
      λ records shown.
          c.in_ok-rows_in.ensures.read records.revocations shown.rows.revocation_serials (c.deref.ensures.value ∙ revocations_are db records shown c.in_ok-found.found.items (asked.1 shown.schema)),
    )
