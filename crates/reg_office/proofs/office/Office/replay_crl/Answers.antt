use Rattle.std.proofs.Common.{◌≡◌, ℕ, sym, subst, ap, ◌∙◌, rules}
use Rattle.reg_core.specs.Changes.{with_crl}
use Rattle.reg_core.specs.declared.rows.CrlRow.{CrlRow}
use Rattle.reg_core_lists.specs.Feed.{feed_crl_of}
use Rattle.reg_store_changes.proofs.PublicLaws.{looked_step, steps_then}
use Rattle.reg_office.specs.Issuing.{IsNextOf}
use Rattle.reg_office.specs.Replays.{LeadsIf}
use Rattle.reg_office_reads.proofs.PublicLaws.{lent}
use Rattle.reg_office.proofs.Replaying.{after_look_leads, leads_as, ok_more}
use Rattle.reg_office.proofs.office.Office.replay_crl.Goals as goal

pub returns-in-Ok-clause-stepped : goal.returns-in-Ok-clause-stepped
returns-in-Ok-clause-stepped g c =
    let looks = lent c.deref_mut.ensures.shows c.in-Ok.ensures.looks in
    steps_then (looked_step looks.looked) c.enter_crl.ensures.stepped

pub returns-in-Err : goal.returns-in-Err
returns-in-Err g c =
    let looks = lent c.deref_mut.ensures.shows c.in-Err.ensures.looks in
    record { made = search rules; stepped = looked_step looks.looked; untouched = search rules }

pub returns-in-Ok-clause-made : goal.returns-in-Ok-clause-made
returns-in-Ok-clause-made g c forms =
    let s = g.C.Store in
    let signs = g.S.Signer.signs in
    let identity = g.S.Signer.identity c.args.self.now.signer in
    let old = c.args.self.now.store in
    let mid = c.next_row.new.tables in
    let new = c.enter_crl.new.self.store in
    let crl = c.args.crl.now in
    let looks = lent c.deref_mut.ensures.shows c.in-Ok.ensures.looks in
    let next : CrlRow × ℕ = (c.in-Ok.row, c.in-Ok.next_update) in
    ok_more c.enter_crl.result c.enter_crl.ensures.under_way (c.enter_crl.ensures.made forms) (λ given under entered.
    -- the decision is of the moment of the row that was received
    let moment : crl.row.this_update ≡ next.0.this_update = ap (λ (r : CrlRow). r.this_update) (sym entered.0) in
    let decided : LeadsIf s signs identity (λ records. IsNextOf records crl.row.this_update next) mid new (λ before after. after ≡ with_crl before next.0.this_update (feed_crl_of crl)) =
    λ within clean records stands is. entered.1 within clean records stands (subst (λ (n : ℕ). IsNextOf records n next) moment is) in
    leads_as s signs identity old new (after_look_leads s signs identity old mid new looks under c.enter_crl.ensures.stepped decided)
    (λ before after is. is ∙ ap (λ (r : CrlRow). with_crl before r.this_update (feed_crl_of crl)) entered.0))
