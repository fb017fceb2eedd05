use Rattle.std.proofs.Common.{[], ◌∷◌, ap, subst, ◌∙◌}
use Rattle.sqlite_value.specs.declared.value.Value.TheVariants.{Blob}
use Rattle.sqlite.specs.Held.{state}
use Rattle.reg_store_tables.specs.DerivedRows.{number_or_null}
use Rattle.reg_store_tables.specs.Stays.{Ran}
use Rattle.reg_store_tables.proofs.PublicLaws.{inserts_rows, moves, number_is, moment_is}
use Rattle.reg_store_migration.specs.Refilled.{listed_by}
use Rattle.reg_store_migration.specs.declared.sql.TheConstants.{PUT_LISTING}
use Rattle.reg_store_migration.proofs.Listing.{puts_listing, put_listing_means}
use Rattle.reg_store_migration.proofs.derived_listings.put_listing.Goals as goal

pub returns-clause-made : goal.returns-clause-made
returns-clause-made g c clean =
    let old = state g.S.Store c.args.tx.now.conn.now in
    let new = state g.S.Store c.write.new.tx.conn.now in
    let ran = c.in_ok-write.ensures.ran clean in
    moves ran (
      λ issued.
          let last = c.in_ok-last.ensures.value ∙ ap number_or_null (c.last_listing.ensures issued) in
          puts_listing old new (listed_by c.args.crls.now c.args.row c.args.not_after) c.in_ok-write.field-0
          (subst (λ params. Ran PUT_LISTING.now params old new c.in_ok-write.field-0)
          (λ i. (ap Blob c.bytes20-serial.ensures.bytes) i ∷ (moment_is _ _ c.sql_moment-at.ensures) i ∷ (number_is _ _ c.sql_reason-reason.ensures) i ∷ (number_is _ _ c.in_ok-first.ensures.value) i ∷ (moment_is _ _ c.sql_moment-not_after.ensures) i ∷ last i ∷ []) ran)
          c.bytes20-serial.ensures.in_range,
      inserts_rows ran put_listing_means.plain put_listing_means.is,
    )
