use Rattle.std.proofs.Common.{length, refl, sym, subst, ◌∙◌}
use Rattle.reg_core_lists.specs.Feed.{RowLists, feed_rows_of}
use Rattle.reg_office.specs.Replays.{AreAllReplayed, HasReplayed, LeadsWithin, ReplaysMore}
use Rattle.reg_office.specs.declared.replay_order.Replayed.{Replayed}
use Rattle.reg_store_changes.proofs.PublicLaws.{no_step, steps_then}
use Rattle.reg_office.proofs.ReplayedRows.{all_advanced, none_advanced}
use Rattle.reg_office.proofs.Replaying.{leads_as, leads_nowhere, leads_then, ok_given}
use Rattle.reg_office.proofs.office.Office.replay.Goals as goal

pub loop-init : goal.loop-init
loop-init g c =
    let identity = g.S.Signer.identity c.args.self.now.signer in
    let rows = feed_rows_of c.args.rows.now in
    let pages = c.args.pages.now in
    record {
      untouched = (refl, refl);
      stepped = no_step;
      advanced = λ forms. leads_nowhere g.C.Store g.S.Signer.signs identity _ c.args.self.now.store
          (λ records. subst (λ (done : Replayed). HasReplayed rows pages done records records) (sym c.requires) (none_advanced rows pages records));
    }

pub loop-preserved : goal.loop-preserved
loop-preserved g c =
    let s = g.C.Store in
    let signs = g.S.Signer.signs in
    let identity = g.S.Signer.identity c.args.self.now.signer in
    let mid = c.loop.self.store in
    let new = c.replay_next.new.self.store in
    let earlier = c.loop.invariant in
    let ran = c.replay_next.ensures in
    record {
      untouched = (ran.untouched.0 ∙ earlier.untouched.0, ran.untouched.1 ∙ earlier.untouched.1);
      stepped = steps_then earlier.stepped ran.stepped;
      advanced = λ forms. leads_then s signs identity c.args.self.now.store mid new earlier.stepped ran.stepped (earlier.advanced forms)
          (subst (λ signer. LeadsWithin s signs (g.S.Signer.identity signer) mid new (ReplaysMore (feed_rows_of c.args.rows.now) c.args.pages.now c.loop.reached.done c.in_ok-after.after.done))
          earlier.untouched.0 (c.in_ok-after.ensures.made forms))
          (λ before middle after has advances. advances before has);
    }

pub returns-in-None-clause-made : goal.returns-in-None-clause-made
returns-in-None-clause-made g c forms are =
    let identity = g.S.Signer.identity c.args.self.now.signer in
    let pages = c.args.pages.now in
    let done = c.loop.reached.done in
    ok_given c.all_or_stopped.result c.all_or_stopped.ensures (λ given all.
    leads_as g.C.Store g.S.Signer.signs identity c.args.self.now.store c.loop.self.store (c.loop.invariant.advanced forms)
    (λ before after has.
    all_advanced pages done before after
    (subst (λ (rows : RowLists). AreAllReplayed rows (length pages) done) are all)
    (subst (λ (rows : RowLists). HasReplayed rows pages done before after) are has)))

pub returns-in_err-after-clause-stepped : goal.returns-in_err-after-clause-stepped
returns-in_err-after-clause-stepped g c = steps_then c.loop.invariant.stepped c.replay_next.ensures.stepped

pub returns-clause-stepped : goal.returns-clause-stepped
returns-clause-stepped g c = c.loop.invariant.stepped
