use Rattle.std.proofs.Common.{◌≡◌, sym, subst}
use Rattle.sqlite.specs.Effect.{Database}
use Rattle.sqlite.specs.Held.{state}
use Rattle.reg_core.specs.Records.{certificate_in}
use Rattle.reg_core.specs.declared.rows.CertRow.{CertRow}
use Rattle.reg_core_laws.proofs.PublicLaws.{some_weaker}
use Rattle.reg_store_tables.specs.Shows.{AreRecordsAndDerived}
use Rattle.reg_store_tables.specs.Steps.{WritesRows}
use Rattle.reg_store_tables.proofs.PublicLaws.{asked_moves, stepped_clean}
use Rattle.reg_store_migration.specs.Refilled.{listed_by, with_listed}
use Rattle.reg_store_migration.proofs.derived_listings.rebuild_listed_row.Goals as goal

pub returns-clause-made : goal.returns-clause-made
returns-clause-made g c clean =
    let new = (state g.S.Store c.put_listing.new.tx.conn.now).now in
    let row = c.args.revocation in
    let crls = c.args.crls.now in
    let end = c.in_ok-not_after.not_after in
    let asked = c.in_ok-not_after.ensures.asked (stepped_clean c.put_listing.ensures.stepped clean) in
    asked_moves _ _ _ _ _ c.put_listing.result asked.0 (c.put_listing.ensures.made clean) (λ _ puts. (
      λ records columns issued both.
          let start = subst (λ (d : Database). AreRecordsAndDerived d records columns) (sym asked.0.0.now_is) both in
          let listed = puts.0 issued records columns start in
          some_weaker (λ (certificate : CertRow). certificate.not_after ≡ end) (λ (certificate : CertRow). AreRecordsAndDerived new records (with_listed (listed_by crls row certificate.not_after) columns))
          (λ certificate is. subst (λ n. AreRecordsAndDerived new records (with_listed (listed_by crls row n) columns)) (sym is) listed) (certificate_in records.certificates row.serial) (asked.1 records both.shown),
      subst (λ (d : Database). WritesRows d new) asked.0.0.now_is puts.1,
    ))
