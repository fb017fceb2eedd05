use Rattle.std.proofs.Common.{refl}
use Rattle.sqlite.specs.Held.{state}
use Rattle.reg_core.specs.Queries.{listing}
use Rattle.reg_core.specs.declared.command.Listing.{Listing}
use Rattle.reg_store_tables.specs.Kept.{ShowsKeptNow}
use Rattle.reg_store_tables.proofs.ListingLemmas.{listed_text, listed_row, listed_few}
use Rattle.reg_store_tables.proofs.LookingUp.{by_statement_if}
use Rattle.reg_store_tables.proofs.tables.Tables.listing.Goals as goal

pub returns : goal.returns
returns g c =
    rw (← c.self.view_is) (by_statement_if (c.look_up.ensures.reads listed_text.reading) (rw (c.params-to_sql.ensures, c.as_slice.ensures, c.bytes20.ensures.bytes) refl) (listed_text.asked c.args.serial) (λ records. listing records c.args.serial)
    (λ records written clean rows answers.
    let kept = written.kept in
    let both = kept.1.tables clean answers.is_open in (
      listed_row _ records kept.0 both kept.2 c.args.serial c.bytes20.ensures.in_range rows answers.reads (λ (it : Listing). Unit {0} × Unit {0}) (λ it. (tt, tt)),
      listed_few _ records kept.0 both kept.2 c.args.serial c.bytes20.ensures.in_range rows answers.reads written.sound.revocations.serials_differ,
    ))
    (ShowsKeptNow (state g.S.Store c.self.inside.connection))
    (λ records shows kept clean rows answers.
    listed_row _ records kept.0 (kept.1 clean answers.is_open) kept.2 c.args.serial c.bytes20.ensures.in_range rows answers.reads (λ (it : Listing). Unit {0}) (λ it. tt)))
