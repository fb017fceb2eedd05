use Rattle.std.proofs.Common.{inl, inr, rules, sym, subst}
use Rattle.sqlite.specs.Held.{state}
use Rattle.reg_store_tables.proofs.PublicLaws.{params-ok_then as ok_then}
use Rattle.reg_store_opening.specs.VersionAndOffice.{AreVersionRows, version_of, schema_of}
use Rattle.reg_store_opening.proofs.QueryTexts.{version_query}
use Rattle.reg_store_opening.proofs.OlderRead.{version_never, version_read, judged_version}
use Rattle.reg_store_opening.proofs.version_check.check_version.Goals as goal

pub read_rows-requires : goal.read_rows-requires
read_rows-requires g c = version_query

pub returns-clause-asked : goal.returns-clause-asked
returns-clause-asked g c clean =
    let read = c.in_ok-rows.ensures.asked clean in
    ok_then _ _ c.version_in_rows.result (λ found one. (read.0, (c.in_ok-rows.rows.items, read.1, subst (AreVersionRows (version_of found)) c.deref.ensures.value one)))
    c.version_in_rows.ensures.ok

pub returns-clause-newer : goal.returns-clause-newer
returns-clause-newer g c clean is =
    let found = c.version_in_rows.ensures.newer is in
    (found.0, found.1, (c.in_ok-rows.rows.items, (c.in_ok-rows.ensures.asked clean).1, subst (AreVersionRows found.0) c.deref.ensures.value found.2))

pub returns-in_err-rows-clause-version : goal.returns-in_err-rows-clause-version
returns-in_err-rows-clause-version g c clean version before =
    let refused = c.in_err-rows.ensures.refused clean (schema_of version) (version_never version) (λ up. (before up).schema) in
    search (rules, refused)

pub returns-clause-version : goal.returns-clause-version
returns-clause-version g c clean version before =
    let db = (state g.S.Store c.args.tx.now.conn.now).now in
    let read = c.in_ok-rows.ensures.asked clean in
    let one = subst (AreVersionRows (version_of version)) (sym c.deref.ensures.value) (version_read version db c.in_ok-rows.rows.items (before read.0.0.was_open) read.1) in
    judged_version c.deref.result.now version c.version_in_rows.result one c.version_in_rows.ensures.ok c.version_in_rows.ensures.newer c.version_in_rows.ensures.none c.version_in_rows.ensures.faults

pub returns-in_err-rows-clause-none : goal.returns-in_err-rows-clause-none
returns-in_err-rows-clause-none g c clean is = inl (c.read_rows.ensures.none clean (search (rules, is)))

pub returns-clause-none : goal.returns-clause-none
returns-clause-none g c clean is =
    inr (c.in_ok-rows.rows.items, (c.in_ok-rows.ensures.asked clean).1, λ n low one. c.version_in_rows.ensures.none is n low (subst (AreVersionRows n) (sym c.deref.ensures.value) one))
