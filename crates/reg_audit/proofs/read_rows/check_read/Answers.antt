use Rattle.std.proofs.Common.{map, length, sym, ap, ◌∙◌, arith, rules}
use Rattle.std.proofs.lemmas.List.{length-map}
use Rattle.reg_core.specs.Crls.{row_of}
use Rattle.reg_core.specs.Records.{Records}
use Rattle.reg_core.specs.Reached.{ReachedRows}
use Rattle.reg_core_laws.proofs.PublicLaws.{reached_sound}
use Rattle.reg_store_tables.specs.DerivedRows.{DerivedRows}
use Rattle.reg_store_tables.specs.Kept.{Kept}
use Rattle.reg_audit.specs.CheckFaults as found
use Rattle.reg_audit.specs.DerivedAsRead.{standing_in, listed_in}
use Rattle.reg_audit.specs.ReadQueries.{whole}
use Rattle.reg_audit.specs.ReadableValues.{AreReadable, HasValues}
use Rattle.reg_audit.specs.declared.sql.AuditQuery.TheVariants.{Office}
use Rattle.reg_audit.proofs.Having.{each_has}
use Rattle.reg_audit.proofs.read_rows.check_read.Goals as goal

-- what follows from one premise, and what from two
both : {A B P Q : Type 0} → (A → P) → (A → B → Q) → A → B → P × Q
both one two a b = (one a, two a b)

-- where readable rows have no such end, those of reached records have none
never : {End : Type 0} (records : Records) (columns : DerivedRows) → (AreReadable records columns → End → ⊥) → End → HasValues records × ReachedRows records × Kept columns records → ⊥
never records columns has is held = has (each_has records columns held.0 (reached_sound records held.1) held.2) is

pub returns-clause-sound : goal.returns-clause-sound
returns-clause-sound c records columns are =
    let office = c.in_ok-office.ensures.read records columns (c.rows_at.ensures.read records columns whole Office are (omega arith)) in
    let subscribers = c.in_ok-subscribers.ensures.read records columns (c.rows_at-2.ensures.read records columns whole Office are (omega arith)) in
    let orders = c.in_ok-orders.ensures.read records columns (c.rows_at-3.ensures.read records columns whole Office are (omega arith)) in
    let certificates = c.in_ok-certificates.ensures.read records columns (c.rows_at-4.ensures.read records columns whole Office are (omega arith)) in
    let requests = c.in_ok-requests.ensures.read records columns (c.rows_at-5.ensures.read records columns whole Office are (omega arith)) in
    let revocations = c.in_ok-revocations.ensures.read records columns (c.rows_at-6.ensures.read records columns whole Office are (omega arith)) in
    let crls = c.in_ok-crls.ensures.read records columns (c.rows_at-7.ensures.read records columns whole Office are (omega arith)) in
    let letters = c.in_ok-letters.ensures.read records columns (c.rows_at-8.ensures.read records columns whole Office are (omega arith)) in
    let counts = c.in_ok-counts.ensures.read records columns (c.rows_at-9.ensures.read records columns whole Office are (omega arith)) in
    let listed = c.in_ok-listed.ensures.read records columns (c.rows_at-10.ensures.read records columns whole Office are (omega arith)) in
    both (c.in_ok-check.ensures.sound records) (λ of. c.in_ok-check.ensures.kept records of columns)
    (record {
      policy = (c.rows_at.ensures.read records columns whole Office are (omega arith)).both.shown.rows.policy;
      cap = office.0;
      last = office.1;
      subscribers = c.deref.ensures.value ∙ subscribers;
      orders = c.deref-2.ensures.value ∙ orders;
      certificates = c.deref-3.ensures.value ∙ certificates;
      requests = c.deref-4.ensures.value ∙ requests;
      revocations = c.deref-5.ensures.value ∙ revocations;
      crls = c.deref-6.ensures.value ∙ crls;
    })
    (record {
      letters = ap (map standing_in) c.deref-7.ensures.value ∙ letters;
      counts = counts;
      listed = ap (map listed_in) c.deref-8.ensures.value ∙ listed;
    })

pub returns-clause-counted : goal.returns-clause-counted
returns-clause-counted c records columns are =
    let certificates = c.in_ok-certificates.ensures.read records columns (c.rows_at-4.ensures.read records columns whole Office are (omega arith)) in
    let revocations = c.in_ok-revocations.ensures.read records columns (c.rows_at-6.ensures.read records columns whole Office are (omega arith)) in
    let crls = c.in_ok-crls.ensures.read records columns (c.rows_at-7.ensures.read records columns whole Office are (omega arith)) in
    record {
      certificates = c.len.ensures ∙ sym c.deref-3.ensures.len ∙ ap length (c.deref-3.ensures.value ∙ certificates);
      revoked = c.len-2.ensures ∙ sym c.deref-5.ensures.len ∙ ap length (c.deref-5.ensures.value ∙ revocations);
      crls = c.len-3.ensures ∙ sym c.deref-6.ensures.len ∙ ap length (c.deref-6.ensures.value ∙ crls) ∙ length-map records.crls row_of;
    }

pub returns-in_err-office-clause-broken : goal.returns-in_err-office-clause-broken
returns-in_err-office-clause-broken c records columns are =
    let no = never records columns (c.in_err-office.ensures.has records columns (c.rows_at.ensures.read records columns whole Office are (omega arith))) in
    search rules

pub returns-in_err-subscribers-clause-broken : goal.returns-in_err-subscribers-clause-broken
returns-in_err-subscribers-clause-broken c records columns are =
    let no = never records columns (c.in_err-subscribers.ensures.has records columns (c.rows_at-2.ensures.read records columns whole Office are (omega arith))) in
    search rules

pub returns-in_err-orders-clause-broken : goal.returns-in_err-orders-clause-broken
returns-in_err-orders-clause-broken c records columns are =
    let no = never records columns (c.in_err-orders.ensures.has records columns (c.rows_at-3.ensures.read records columns whole Office are (omega arith))) in
    search rules

pub returns-in_err-certificates-clause-broken : goal.returns-in_err-certificates-clause-broken
returns-in_err-certificates-clause-broken c records columns are =
    let no = never records columns (c.in_err-certificates.ensures.has records columns (c.rows_at-4.ensures.read records columns whole Office are (omega arith))) in
    search rules

pub returns-in_err-requests-clause-broken : goal.returns-in_err-requests-clause-broken
returns-in_err-requests-clause-broken c records columns are =
    let no = never records columns (c.in_err-requests.ensures.has records columns (c.rows_at-5.ensures.read records columns whole Office are (omega arith))) in
    search rules

pub returns-in_err-revocations-clause-broken : goal.returns-in_err-revocations-clause-broken
returns-in_err-revocations-clause-broken c records columns are =
    let no = never records columns (c.in_err-revocations.ensures.has records columns (c.rows_at-6.ensures.read records columns whole Office are (omega arith))) in
    search rules

pub returns-in_err-crls-clause-broken : goal.returns-in_err-crls-clause-broken
returns-in_err-crls-clause-broken c records columns are =
    let no = never records columns (c.in_err-crls.ensures.has records columns (c.rows_at-7.ensures.read records columns whole Office are (omega arith))) in
    search rules

pub returns-in_err-letters-clause-broken : goal.returns-in_err-letters-clause-broken
returns-in_err-letters-clause-broken c records columns are =
    let no = never records columns (c.in_err-letters.ensures.has records columns (c.rows_at-8.ensures.read records columns whole Office are (omega arith))) in
    search rules

pub returns-in_err-counts-clause-broken : goal.returns-in_err-counts-clause-broken
returns-in_err-counts-clause-broken c records columns are =
    let no = never records columns (c.in_err-counts.ensures.has records columns (c.rows_at-9.ensures.read records columns whole Office are (omega arith))) in
    search rules

pub returns-in_err-listed-clause-broken : goal.returns-in_err-listed-clause-broken
returns-in_err-listed-clause-broken c records columns are =
    let no = never records columns (c.in_err-listed.ensures.has records columns (c.rows_at-10.ensures.read records columns whole Office are (omega arith))) in
    search rules

pub returns-in_err-check-clause-broken : goal.returns-in_err-check-clause-broken
returns-in_err-check-clause-broken c records columns are =
    let office = c.in_ok-office.ensures.read records columns (c.rows_at.ensures.read records columns whole Office are (omega arith)) in
    let subscribers = c.in_ok-subscribers.ensures.read records columns (c.rows_at-2.ensures.read records columns whole Office are (omega arith)) in
    let orders = c.in_ok-orders.ensures.read records columns (c.rows_at-3.ensures.read records columns whole Office are (omega arith)) in
    let certificates = c.in_ok-certificates.ensures.read records columns (c.rows_at-4.ensures.read records columns whole Office are (omega arith)) in
    let requests = c.in_ok-requests.ensures.read records columns (c.rows_at-5.ensures.read records columns whole Office are (omega arith)) in
    let revocations = c.in_ok-revocations.ensures.read records columns (c.rows_at-6.ensures.read records columns whole Office are (omega arith)) in
    let crls = c.in_ok-crls.ensures.read records columns (c.rows_at-7.ensures.read records columns whole Office are (omega arith)) in
    let letters = c.in_ok-letters.ensures.read records columns (c.rows_at-8.ensures.read records columns whole Office are (omega arith)) in
    let counts = c.in_ok-counts.ensures.read records columns (c.rows_at-9.ensures.read records columns whole Office are (omega arith)) in
    let listed = c.in_ok-listed.ensures.read records columns (c.rows_at-10.ensures.read records columns whole Office are (omega arith)) in
    let no : found.IsBroken c.in_err-check.field-0.0 → ReachedRows records × Kept columns records → ⊥ =
    c.in_err-check.ensures.broken records
    (record {
      policy = (c.rows_at.ensures.read records columns whole Office are (omega arith)).both.shown.rows.policy;
      cap = office.0;
      last = office.1;
      subscribers = c.deref.ensures.value ∙ subscribers;
      orders = c.deref-2.ensures.value ∙ orders;
      certificates = c.deref-3.ensures.value ∙ certificates;
      requests = c.deref-4.ensures.value ∙ requests;
      revocations = c.deref-5.ensures.value ∙ revocations;
      crls = c.deref-6.ensures.value ∙ crls;
    })
    columns
    (record {
      letters = ap (map standing_in) c.deref-7.ensures.value ∙ letters;
      counts = counts;
      listed = ap (map listed_in) c.deref-8.ensures.value ∙ listed;
    }) in
    search rules
