use Rattle.std.proofs.Common.{inl, inr, rules}
use Rattle.sqlite.specs.Held.{state}
use Rattle.reg_store_migration.specs.Older.{older_schema}
use Rattle.reg_store_opening.specs.VersionAndOffice.{InRange}
use Rattle.reg_store_opening.proofs.QueryTexts.{older_query}
use Rattle.reg_store_opening.proofs.OlderRead.{older_never, older_judged}
use Rattle.reg_store_opening.proofs.Judged.{judged_none, judged_ok}
use Rattle.reg_store_opening.proofs.version_check.check_older_office.Goals as goal

pub read_rows-requires : goal.read_rows-requires
read_rows-requires g c = older_query

pub returns-clause-reported : goal.returns-clause-reported
returns-clause-reported g c clean =
    let read = c.in_ok-rows.ensures.asked clean in
    judged_ok _ _ c.older_office_in.result c.older_office_in.ensures (λ found are. (read.0.0.was_open, (c.in_ok-rows.rows.items, read.1, are)))

pub returns-in_err-rows-clause-none : goal.returns-in_err-rows-clause-none
returns-in_err-rows-clause-none g c clean is = inl (c.read_rows.ensures.none clean (search (rules, is)))

pub returns-clause-none : goal.returns-clause-none
returns-clause-none g c clean is = inr (c.in_ok-rows.rows.items, (c.in_ok-rows.ensures.asked clean).1, judged_none _ c.older_office_in.result c.older_office_in.ensures is)

pub returns-in_err-rows-clause-shown : goal.returns-in_err-rows-clause-shown
returns-in_err-rows-clause-shown g c version clean records before =
    let refused = λ (within : InRange records). c.in_err-rows.ensures.refused clean (older_schema version) (older_never version) (λ up. (before up).schema) in
    search (rules, refused)

pub returns-clause-shown : goal.returns-clause-shown
returns-clause-shown g c version clean records before =
    let read = c.in_ok-rows.ensures.asked clean in
    older_judged version (state g.S.Store c.args.tx.now.conn.now).now records (before read.0.0.was_open) c.in_ok-rows.rows.items read.1 c.older_office_in.result c.older_office_in.ensures
