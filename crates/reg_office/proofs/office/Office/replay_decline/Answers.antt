use Rattle.std.proofs.Common.{◌≡◌, inl, inr, sym, subst, ◌∙◌}
use Rattle.reg_core.specs.Records.{Records}
use Rattle.reg_store_changes.proofs.PublicLaws.{steps_then}
use Rattle.reg_office.specs.Replays.{HasRequest, IsDeclinedAlready, LeadsWithin, with_feed_row}
use Rattle.reg_office.specs.declared.feed_row.FeedRow.{FeedRow}
use Rattle.reg_office.proofs.Replaying.{leads_as, leads_then, ok_leads}
use Rattle.reg_office.proofs.office.Office.replay_decline.Goals as goal

-- the request was declined already
pub returns-then-declined : goal.returns-then-declined
returns-then-declined g c =
    let identity = g.S.Signer.identity c.args.self.now.signer in
    record {
      made = leads_as g.C.Store g.S.Signer.signs identity c.args.self.now.store c.is_declined.new.self.store c.in_ok-declined.ensures.made
          (λ before after it. (
            subst (λ (row : FeedRow). HasRequest row before) (sym c.requires) it.1,
            inr (it.0, subst (λ (row : FeedRow). IsDeclinedAlready row before) (sym c.requires) (it.2 c.if-declined.true)),
          ));
      stepped = c.is_declined.ensures.stepped;
      untouched = c.is_declined.ensures.untouched;
    }

pub returns-clause-made : goal.returns-clause-made
returns-clause-made g c =
    let s = g.C.Store in
    let signs = g.S.Signer.signs in
    let identity = g.S.Signer.identity c.args.self.now.signer in
    let old = c.args.self.now.store in
    let mid = c.is_declined.new.self.store in
    let new = c.enter_row.new.self.store in
    ok_leads c.enter_row.result (c.enter_row.ensures.made) (λ given entered.
    leads_then s signs identity old mid new c.is_declined.ensures.stepped c.enter_row.ensures.stepped c.in_ok-declined.ensures.made
    (subst (λ signer. LeadsWithin s signs (g.S.Signer.identity signer) mid new (λ (before after : Records). after ≡ with_feed_row before c.args.at c.args.row.now)) c.is_declined.ensures.untouched.0 entered)
    (λ before middle after stays is. (
      subst (λ (row : FeedRow). HasRequest row before) (sym c.requires) stays.1,
      inl (subst (λ (r : Records). after ≡ with_feed_row r c.args.at c.args.row.now) stays.0 is),
    )))

pub returns-clause-stepped : goal.returns-clause-stepped
returns-clause-stepped g c = steps_then c.is_declined.ensures.stepped c.enter_row.ensures.stepped

pub returns-clause-untouched : goal.returns-clause-untouched
returns-clause-untouched g c =
    (c.enter_row.ensures.untouched.0 ∙ c.is_declined.ensures.untouched.0, c.enter_row.ensures.untouched.1 ∙ c.is_declined.ensures.untouched.1)
