use Rattle.std.proofs.Common.{None, Some, inl, inr, rules, refl, sym, subst, ◌∙◌}
use Rattle.sqlite.specs.Effect.{Database}
use Rattle.sqlite.specs.Held.{state}
use Rattle.reg_store_opening.specs.Examined.{IsFoundOf}
use Rattle.reg_store_opening.specs.VersionAndOffice.{version_of, HasVersion, ReadsOlder, HasOfficeRow, HasNoOfficeRow, HasNoOlderOffice}
use Rattle.reg_store_opening.specs.declared.version_check.OlderOffice.{OlderOffice}
use Rattle.reg_store_tables.proofs.PublicLaws.{stepped_clean}
use Rattle.reg_store_opening.proofs.Tested.{of_version, shown_next}
use Rattle.reg_store_opening.proofs.version_check.check_rows.Goals as goal

pub returns-in_err-older-clause-shown : goal.returns-in_err-older-clause-shown
returns-in_err-older-clause-shown g c version clean records before =
    let version_is = c.in_err-older.ensures.version clean version (λ up. of_version version (state g.S.Store c.args.tx.now.conn.now).now records (before up)) in
    search (rules, version_is)

pub returns-in_err-check_office-in-None-clause-none : goal.returns-in_err-check_office-in-None-clause-none
returns-in_err-check_office-in-None-clause-none g c clean is =
    let db = (state g.S.Store c.args.tx.now.conn.now).now in
    let asked = c.in_ok-older.ensures.asked (stepped_clean c.check_office.ensures.stepped clean) in
    let version = subst (λ v. HasVersion db (version_of v)) c.in-None.is asked.1 in
    inr (inl (version, subst (λ (d : Database). HasNoOfficeRow d) asked.0.0.now_is (c.check_office.ensures.none clean (search (rules, is)))))

pub returns-in_err-check_office-in-None-clause-shown : goal.returns-in_err-check_office-in-None-clause-shown
returns-in_err-check_office-in-None-clause-shown g c version clean records before =
    let s0 = state g.S.Store c.args.tx.now.conn.now in
    let was = stepped_clean c.check_office.ensures.stepped clean in
    let version_is = sym c.in-None.is ∙ c.in_ok-older.ensures.version was version (λ up. of_version version s0.now records (before up)) in
    let refused = c.in_err-check_office-in-None.ensures.shown clean records (shown_next s0 (state g.S.Store c.check_version.new.tx.conn.now) None version records (c.in_ok-older.ensures.asked was).0 version_is before) in
    search (rules, refused)

pub returns-in_err-days-in-Some-clause-none : goal.returns-in_err-days-in-Some-clause-none
returns-in_err-days-in-Some-clause-none g c clean is =
    let db = (state g.S.Store c.args.tx.now.conn.now).now in
    let asked = c.in_ok-older.ensures.asked (stepped_clean c.check_older_office.ensures.stepped clean) in
    let version = subst (λ v. HasVersion db (version_of v)) c.in-Some.is asked.1 in
    inr (inr (c.in-Some.version, version, subst (λ (d : Database). HasNoOlderOffice d) asked.0.0.now_is (c.check_older_office.ensures.none clean (search (rules, is)))))

pub returns-in_err-days-in-Some-clause-shown : goal.returns-in_err-days-in-Some-clause-shown
returns-in_err-days-in-Some-clause-shown g c version clean records before =
    let s0 = state g.S.Store c.args.tx.now.conn.now in
    let was = stepped_clean c.check_older_office.ensures.stepped clean in
    let version_is = sym c.in-Some.is ∙ c.in_ok-older.ensures.version was version (λ up. of_version version s0.now records (before up)) in
    let refused =
    c.in_err-days-in-Some.ensures.shown c.in-Some.version clean records (shown_next s0 (state g.S.Store c.check_version.new.tx.conn.now) (Some c.in-Some.version) version records (c.in_ok-older.ensures.asked was).0 version_is before) in
    search (rules, refused)

pub returns-in_ok-check_office-in-None-clause-reported : goal.returns-in_ok-check_office-in-None-clause-reported
returns-in_ok-check_office-in-None-clause-reported g c clean =
    let db = (state g.S.Store c.args.tx.now.conn.now).now in
    let asked = c.in_ok-older.ensures.asked (stepped_clean c.check_office.ensures.stepped clean) in
    let version = subst (λ v. HasVersion db (version_of v)) c.in-None.is asked.1 in
    (asked.0.0.was_open, (version, subst (λ (d : Database). HasOfficeRow d) asked.0.0.now_is (c.in_ok-check_office-in-None.ensures.reported clean).1))

pub returns-in_ok-check_office-in-None-clause-shown : goal.returns-in_ok-check_office-in-None-clause-shown
returns-in_ok-check_office-in-None-clause-shown g c version clean records before =
    let version_is = sym c.in-None.is ∙ c.in_ok-older.ensures.version (stepped_clean c.check_office.ensures.stepped clean) version (λ up. of_version version (state g.S.Store c.args.tx.now.conn.now).now records (before up)) in
    subst (λ v. IsFoundOf v records None) version_is refl

pub returns-in_ok-days-in-Some-clause-reported : goal.returns-in_ok-days-in-Some-clause-reported
returns-in_ok-days-in-Some-clause-reported g c clean =
    let db = (state g.S.Store c.args.tx.now.conn.now).now in
    let asked = c.in_ok-older.ensures.asked (stepped_clean c.check_older_office.ensures.stepped clean) in
    let version = subst (λ v. HasVersion db (version_of v)) c.in-Some.is asked.1 in
    (asked.0.0.was_open, (version, subst (λ (d : Database). ReadsOlder d c.in_ok-days-in-Some.days c.in_ok-days-in-Some.last) asked.0.0.now_is (c.in_ok-days-in-Some.ensures.reported clean).1))

pub returns-in_ok-days-in-Some-clause-shown : goal.returns-in_ok-days-in-Some-clause-shown
returns-in_ok-days-in-Some-clause-shown g c version clean records before =
    let s0 = state g.S.Store c.args.tx.now.conn.now in
    let was = stepped_clean c.check_older_office.ensures.stepped clean in
    let version_is = sym c.in-Some.is ∙ c.in_ok-older.ensures.version was version (λ up. of_version version s0.now records (before up)) in
    let read = c.in_ok-days-in-Some.ensures.shown c.in-Some.version clean records (shown_next s0 (state g.S.Store c.check_version.new.tx.conn.now) (Some c.in-Some.version) version records (c.in_ok-older.ensures.asked was).0 version_is before) in
    let found : OlderOffice = record { version = c.in-Some.version; days = c.in_ok-days-in-Some.days; last = c.in_ok-days-in-Some.last } in
    subst (λ v. IsFoundOf v records (Some found)) version_is (refl, read.0, read.1)
