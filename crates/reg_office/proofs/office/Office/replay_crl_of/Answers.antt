use Rattle.std.proofs.Common.{Option, refl, sym, subst}
use Rattle.reg_core_lists.specs.declared.feed.FeedCrl.{FeedCrl}
use Rattle.reg_office.specs.Replays.{EntersPageCrl}
use Rattle.reg_office.proofs.Replaying.{leads_as, leads_nowhere}
use Rattle.reg_office.proofs.office.Office.replay_crl_of.Goals as goal

pub returns-in_ok-replay_crl-in-Some-clause-made : goal.returns-in_ok-replay_crl-in-Some-clause-made
returns-in_ok-replay_crl-in-Some-clause-made g c forms =
    let identity = g.S.Signer.identity c.args.self.now.signer in
    leads_as g.C.Store g.S.Signer.signs identity c.args.self.now.store c.replay_crl.new.self.store (c.in_ok-replay_crl-in-Some.ensures.made forms)
    (λ before after is. subst (λ (o : Option FeedCrl). EntersPageCrl o before after) (sym c.in-Some.is) is)

pub returns-in-None-clause-made : goal.returns-in-None-clause-made
returns-in-None-clause-made g c forms =
    let identity = g.S.Signer.identity c.args.self.now.signer in
    leads_nowhere g.C.Store g.S.Signer.signs identity _ c.args.self.now.store (λ records. subst (λ (o : Option FeedCrl). EntersPageCrl o records records) (sym c.in-None.is) refl)
