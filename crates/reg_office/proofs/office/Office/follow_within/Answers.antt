use Rattle.std.proofs.Common.{◌≡◌, subst, ◌∙◌}
use Rattle.reg_core.specs.Records.{Records}
use Rattle.reg_core_lists.specs.Feed.{IsInHistory}
use Rattle.reg_der.specs.Authority.{name_of}
use Rattle.reg_office.specs.Replays.{HasReplayedAll, LeadsWithin, TakesMoment}
use Rattle.reg_store_changes.proofs.PublicLaws.{steps_then}
use Rattle.reg_office.proofs.FollowedPages.{follow_steps}
use Rattle.reg_office.proofs.Replaying.{ok_leads, untouched_then}
use Rattle.reg_office.proofs.office.Office.follow_within.Goals as goal

pub returns-clause-made : goal.returns-clause-made
returns-clause-made g c forms last =
    let s = g.C.Store in
    let signs = g.S.Signer.signs in
    let id = g.S.Signer.identity in
    let page = c.args.page.now in
    let h0 = c.args.self.now in
    let h1 = c.take_issuer.new.self in
    let h2 = c.reached_from.new.self in
    let h3 = c.replay.new.self in
    let h4 = c.take_moment.new.self in
    let h5 = c.check_positions.new.self in
    let same1 = c.take_issuer.ensures.untouched.0 in
    let same2 = c.reached_from.ensures.untouched.0 ∙ same1 in
    let same3 = c.replay.ensures.untouched.0 ∙ same2 in
    let same4 = c.take_moment.ensures.untouched.0 ∙ same3 in
    ok_leads c.check_positions.result c.check_positions.ensures.made (λ given checked.
    follow_steps s signs (id h0.signer) c.args.pages.now page h0.store h1.store h2.store h3.store h4.store h5.store last
    c.take_issuer.ensures.stepped c.reached_from.ensures.stepped c.replay.ensures.stepped c.take_moment.ensures.stepped c.check_positions.ensures.stepped
    c.in_ok-take_issuer.ensures.made
    (subst (λ signer. LeadsWithin s signs (id signer) h1.store h2.store (λ (before after : Records). after ≡ before)) same1 c.in_ok-reached.ensures.made.1)
    (subst (λ signer. LeadsWithin s signs (id signer) h2.store h3.store (HasReplayedAll c.args.pages.now)) same2 (c.in_ok-replay.ensures.made forms c.in_ok-rows.ensures))
    (subst (λ signer. LeadsWithin s signs (id signer) h3.store h4.store (TakesMoment page.head)) same3 c.in_ok-take_moment.ensures.made)
    (subst (λ signer. LeadsWithin s signs (id signer) h4.store h5.store (λ (before after : Records). (after ≡ before) × IsInHistory (name_of before.issuer) before page.positions)) same4 checked))

pub returns-clause-untouched : goal.returns-clause-untouched
returns-clause-untouched g c =
    untouched_then c.take_issuer.ensures.untouched
    (untouched_then c.reached_from.ensures.untouched (untouched_then c.replay.ensures.untouched (untouched_then c.take_moment.ensures.untouched c.check_positions.ensures.untouched)))

pub returns-in_err-reached-clause-untouched : goal.returns-in_err-reached-clause-untouched
returns-in_err-reached-clause-untouched g c = untouched_then c.take_issuer.ensures.untouched c.reached_from.ensures.untouched

pub returns-in_err-replay-clause-untouched : goal.returns-in_err-replay-clause-untouched
returns-in_err-replay-clause-untouched g c = untouched_then c.take_issuer.ensures.untouched (untouched_then c.reached_from.ensures.untouched c.replay.ensures.untouched)

pub returns-in_err-take_moment-clause-untouched : goal.returns-in_err-take_moment-clause-untouched
returns-in_err-take_moment-clause-untouched g c =
    untouched_then c.take_issuer.ensures.untouched (untouched_then c.reached_from.ensures.untouched (untouched_then c.replay.ensures.untouched c.take_moment.ensures.untouched))

pub replay-requires : goal.replay-requires
replay-requires g c = c.in_ok-reached.ensures.made.0

pub returns-clause-stepped : goal.returns-clause-stepped
returns-clause-stepped g c =
    steps_then c.take_issuer.ensures.stepped
    (steps_then c.reached_from.ensures.stepped (steps_then c.replay.ensures.stepped (steps_then c.take_moment.ensures.stepped c.check_positions.ensures.stepped)))

pub returns-in_err-reached-clause-stepped : goal.returns-in_err-reached-clause-stepped
returns-in_err-reached-clause-stepped g c = steps_then c.take_issuer.ensures.stepped c.reached_from.ensures.stepped

pub returns-in_err-replay-clause-stepped : goal.returns-in_err-replay-clause-stepped
returns-in_err-replay-clause-stepped g c = steps_then c.take_issuer.ensures.stepped (steps_then c.reached_from.ensures.stepped c.replay.ensures.stepped)

pub returns-in_err-take_moment-clause-stepped : goal.returns-in_err-take_moment-clause-stepped
returns-in_err-take_moment-clause-stepped g c =
    steps_then c.take_issuer.ensures.stepped (steps_then c.reached_from.ensures.stepped (steps_then c.replay.ensures.stepped c.take_moment.ensures.stepped))
