use Rattle.std.proofs.Common.{ap, sym, subst}
use Rattle.std.specs.Prelude.{OnOk}
use Rattle.sqlite.specs.Held.{state}
use Rattle.reg_core.specs.Issuer.{Issuer}
use Rattle.reg_der.specs.Issuers.{with_issuer}
use Rattle.reg_store_tables.specs.Kept.{ShowsKept}
use Rattle.reg_store_tables.specs.Stays.{Looked}
use Rattle.reg_store_tables.specs.AfterStop.{ShowsDerivedAfterStop}
use Rattle.reg_store_tables.proofs.PublicLaws.{after_looked, kept_shows, was_clean, ok_if}
use Rattle.reg_office.proofs.RegisterSummary.{looked_failed, changed_after}
use Rattle.reg_office.proofs.identifiers.set_key_identifier.Goals as goal

pub returns-clause-ok : goal.returns-clause-ok
returns-clause-ok g c records kept clean =
    let s = g.C.Store in
    let lent = subst (λ those. ShowsKept s those records) (sym c.deref_mut.ensures.shows) kept in
    let clean_1 = was_clean (state s c.identified.new.tables) (state s c.set_issuer.new.self) c.set_issuer.ensures.changed.survives.clean clean in
    let is = c.in_ok-issuer.ensures.found records (kept_shows s c.deref_mut.result.now records lent) clean_1 in
    subst (λ i. OnOk c.set_issuer.result (ShowsKept s c.set_issuer.new.self (with_issuer records i))) is
    (c.set_issuer.ensures.ok records (after_looked c.identified.ensures.looked records lent) (λ still. ap (λ (i : Issuer). i.key) (sym is)))

pub returns-clause-follows : goal.returns-clause-follows
returns-clause-follows g c records kept clean =
    let s = g.C.Store in
    let lent = subst (λ those. ShowsKept s those records) (sym c.deref_mut.ensures.shows) kept in
    let clean_1 = was_clean (state s c.identified.new.tables) (state s c.set_issuer.new.self) c.set_issuer.ensures.changed.survives.clean clean in
    ok_if _ c.set_issuer.result (c.in_ok-issuer.ensures.follows records (kept_shows s c.deref_mut.result.now records lent) clean_1)

pub returns-in_err-issuer-clause-changed : goal.returns-in_err-issuer-clause-changed
returns-in_err-issuer-clause-changed g c =
    looked_failed c.from_residual.result c.from_residual.ensures.0
    (subst (λ those. Looked g.C.Store those c.identified.new.tables) c.deref_mut.ensures.shows c.identified.ensures.looked)

pub returns-clause-changed : goal.returns-clause-changed
returns-clause-changed g c =
    let s = g.C.Store in
    changed_after c.set_issuer.result
    (subst (λ those. Looked s those c.identified.new.tables) c.deref_mut.ensures.shows c.identified.ensures.looked) c.set_issuer.ensures.changed
    (λ clean trees changed records kept.
    let lent = subst (λ those. ShowsKept s those records) (sym c.deref_mut.ensures.shows) kept in
    let clean_1 = was_clean (state s c.identified.new.tables) (state s c.set_issuer.new.self) c.set_issuer.ensures.changed.survives.clean clean in
    let is = c.in_ok-issuer.ensures.found records (kept_shows s c.deref_mut.result.now records lent) clean_1 in
    subst (λ i. ShowsDerivedAfterStop (with_issuer records i) trees) is
    (changed records (after_looked c.identified.ensures.looked records lent) (ap (λ (i : Issuer). i.key) (sym is))))

pub returns-clause-idle : goal.returns-clause-idle
returns-clause-idle g c was =
    c.set_issuer.ensures.idle ((subst (λ those. Looked g.C.Store those c.identified.new.tables) c.deref_mut.ensures.shows c.identified.ensures.looked).idle was)

pub returns-in_err-issuer-clause-idle : goal.returns-in_err-issuer-clause-idle
returns-in_err-issuer-clause-idle g c = (subst (λ those. Looked g.C.Store those c.identified.new.tables) c.deref_mut.ensures.shows c.identified.ensures.looked).idle
