use Rattle.std.proofs.Common.{◌≡◌, ◌≤◌, ◌<◌, length, get_or, rules, sym, ap, subst, ◌∙◌, arith}
use Rattle.sqlite.specs.Held.{state}
use Rattle.reg_core.specs.Records.{certificate_in}
use Rattle.reg_core.specs.declared.rows.CertRow.{CertRow}
use Rattle.reg_core_laws.proofs.PublicLaws.{some_and_of}
use Rattle.reg_store_tables.specs.Shows.{AreRecordsAndDerived}
use Rattle.reg_store_tables.proofs.PublicLaws.{stepped_then, moves_in_place, leading, moves_on, stepped_clean}
use Rattle.reg_store_migration.specs.Refilled.{AreIssued, listed_by, with_listed, HasRelisted}
use Rattle.reg_store_migration.proofs.RebuildsDerived.{rows_issued, relisted_more}
use Rattle.reg_store_migration.proofs.derived_listings.rebuild_listed_rows.Goals as goal

pub loop-revocation-init : goal.loop-revocation-init
loop-revocation-init g c =
    record { stepped = search rules; made = λ clean under. moves_in_place under (λ records sound all issued had. had, record { schema = λ has. has; obeys = λ has obeyed. obeyed }) }

pub loop-revocation-preserved : goal.loop-revocation-preserved
loop-revocation-preserved g c =
    let new = (state g.S.Store c.rebuild_listed_row.new.tx.conn.now).now in
    let at = c.loop-revocation.revocation-index in
    let row = c.revocation-item.result in
    let crls = c.args.crls.now in
    let within : at < length c.args.revocations.now = c.loop-revocation-test.true in
    record {
      stepped = stepped_then c.loop-revocation.invariant.stepped c.rebuild_listed_row.ensures.stepped;
      made = λ clean under.
          let first = c.loop-revocation.invariant.made (stepped_clean c.rebuild_listed_row.ensures.stepped clean) under in
          let second = c.in_ok-rebuild_listed_row.ensures.made clean in
          leading (moves_on first second) (
            λ records sound all issued before.
                let had = first.tables.0 records sound all issued before in
                let one = second.tables.0 records had.0 (subst AreIssued (sym issued) (rows_issued records sound)) had.1 in
                let known = some_and_of (λ (certificate : CertRow). AreRecordsAndDerived new records (with_listed (listed_by crls row certificate.not_after) had.0)) (certificate_in records.certificates row.serial) one in
                relisted_more new records at row (subst (λ l. at < length l) all within) (c.revocation-item.is ∙ ap (λ l. get_or l at row) all) known.0 known.1 had.0 had.2 had.3 had.4
                (subst (λ l. AreRecordsAndDerived new records (with_listed (listed_by l row known.0.not_after) had.0)) issued known.2),
            record { schema = λ has. second.tables.1.schema (first.tables.1.schema has); obeys = λ has obeyed. second.tables.1.obeys (first.tables.1.schema has) },
          );
    }

pub returns-clause-made : goal.returns-clause-made
returns-clause-made g c under clean =
    let new = (state g.S.Store c.loop-revocation.tx.conn.now).now in
    let made = c.loop-revocation.invariant.made clean under in
    leading made (
      λ records sound all issued before.
          let whole : c.loop-revocation.revocation-index ≡ length records.revocations =
          (let past : length c.args.revocations.now ≤ c.loop-revocation.revocation-index = c.loop-revocation-test.false in let size = ap length all in omega arith) in
          subst (HasRelisted new records) whole (made.tables.0 records sound all issued before),
      made.tables.1,
    )
