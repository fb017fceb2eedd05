use Rattle.std.proofs.Common.{◌<◌, map, sym, subst, ap, ◌∙◌, arith, rules}
use Rattle.std.specs.List.{AllByRecursion}
use Rattle.sqlite.specs.Held.{state}
use Rattle.sqlite.specs.State.{HasCleanDisk}
use Rattle.reg_core.specs.Calendar.{clock_end}
use Rattle.reg_core.specs.declared.rows.CrlRow.{CrlRow}
use Rattle.reg_store_tables.proofs.PublicLaws.{both_shows, looked_shows, looked_then}
use Rattle.reg_audit.specs.DerivedAsRead.{listed_in}
use Rattle.reg_audit.specs.ReadQueries.{whole}
use Rattle.reg_audit.specs.Faults.{EndsAtBrokenRow, BreaksRule}
use Rattle.reg_audit.specs.Stored.{IsStored}
use Rattle.reg_audit.specs.declared.sql.AuditQuery.TheVariants.{Office}
use Rattle.reg_audit.proofs.Results.{on_ok, if_err}
use Rattle.reg_audit.proofs.Denying.{all_stored, can_list, updates_before}
use Rattle.reg_audit.proofs.Having.{each_has}
use Rattle.reg_audit.proofs.Signed.{all_signed, lists_are, row_is_broken}
use Rattle.reg_audit.proofs.stored.check_crls.Goals as goal

pub returns-clause-bytes : goal.returns-clause-bytes
returns-clause-bytes g c records columns shows are kept clean =
    let old = c.args.conn.now in
    let mid = c.issuer_and_crl_life.new.conn in
    let was_clean : HasCleanDisk (state g.S.Store mid) = omega (arith, c.check_each.ensures.looked.survives.clean) in
    let here = both_shows g.S.Store old records columns shows in
    let there = looked_shows c.issuer_and_crl_life.ensures.looked records here in
    let terms = c.in_ok-issuer.ensures.found records here was_clean in
    let of_crls = c.rows_at.ensures.read records columns whole Office are (omega arith) in
    let of_listed = c.rows_at-2.ensures.read records columns whole Office are (omega arith) in
    let numbered = of_crls.both.shown.rows.crls_numbered in
    let listed = ap (map listed_in) c.deref.ensures.value ∙ c.in_ok-listed.ensures.read records columns of_listed in
    let crls = c.deref-2.ensures.value ∙ c.in_ok-crls.ensures.read records columns of_crls in
    let lists = lists_are records columns terms.0 terms.1 numbered listed kept in
    on_ok c.check_each.result (c.check_each.ensures.bytes records there lists clean) (λ all. all_signed records numbered (subst (AllByRecursion (IsStored records)) crls all))

pub returns-in_err-crls-clause-rows : goal.returns-in_err-crls-clause-rows
returns-in_err-crls-clause-rows g c records columns are values sound kept =
    let no : BreaksRule c.in_err-crls.field-0.0 → ⊥ =
    λ is. c.in_err-crls.ensures.has records columns (c.rows_at.ensures.read records columns whole Office are (omega arith)) (each_has records columns values sound kept) (row_is_broken _ is) in
    search rules

pub returns-in_err-listed-clause-rows : goal.returns-in_err-listed-clause-rows
returns-in_err-listed-clause-rows g c records columns are values sound kept =
    let no : BreaksRule c.in_err-listed.field-0.0 → ⊥ =
    λ is. c.in_err-listed.ensures.has records columns (c.rows_at-2.ensures.read records columns whole Office are (omega arith)) (each_has records columns values sound kept) (row_is_broken _ is) in
    search rules

pub returns-clause-others : goal.returns-clause-others
returns-clause-others g c records columns shows are values sound kept clean =
    let old = c.args.conn.now in
    let mid = c.issuer_and_crl_life.new.conn in
    let was_clean : HasCleanDisk (state g.S.Store mid) = omega (arith, c.check_each.ensures.looked.survives.clean) in
    let here = both_shows g.S.Store old records columns shows in
    let there = looked_shows c.issuer_and_crl_life.ensures.looked records here in
    let terms = c.in_ok-issuer.ensures.found records here was_clean in
    let of_crls = c.rows_at.ensures.read records columns whole Office are (omega arith) in
    let of_listed = c.rows_at-2.ensures.read records columns whole Office are (omega arith) in
    let rows = of_crls.both.shown.rows in
    let read = c.in_ok-listed.ensures.read records columns of_listed in
    let listed = ap (map listed_in) c.deref.ensures.value ∙ read in
    let crls = c.deref-2.ensures.value ∙ c.in_ok-crls.ensures.read records columns of_crls in
    let lists = lists_are records columns terms.0 terms.1 rows.crls_numbered listed kept in
    let early = subst (AllByRecursion (λ (crl : CrlRow). crl.this_update < clock_end)) (sym crls) (updates_before records sound) in
    if_err c.check_each.result (c.check_each.ensures.others records there lists (can_list records columns rows.policy sound kept listed) early clean)
    (λ fault no is signed. no is (subst (AllByRecursion (IsStored records)) (sym crls) (all_stored records rows.crls_numbered signed)))

pub returns-in_err-crls-clause-others : goal.returns-in_err-crls-clause-others
returns-in_err-crls-clause-others g c records columns shows are values sound kept clean =
    let no : EndsAtBrokenRow c.in_err-crls.field-0.0 → ⊥ = c.in_err-crls.ensures.has records columns (c.rows_at.ensures.read records columns whole Office are (omega arith)) (each_has records columns values sound kept) in
    search rules

pub returns-in_err-listed-clause-others : goal.returns-in_err-listed-clause-others
returns-in_err-listed-clause-others g c records columns shows are values sound kept clean =
    let no : EndsAtBrokenRow c.in_err-listed.field-0.0 → ⊥ = c.in_err-listed.ensures.has records columns (c.rows_at-2.ensures.read records columns whole Office are (omega arith)) (each_has records columns values sound kept) in
    search rules

pub returns-clause-looked : goal.returns-clause-looked
returns-clause-looked g c = looked_then c.issuer_and_crl_life.ensures.looked c.check_each.ensures.looked
