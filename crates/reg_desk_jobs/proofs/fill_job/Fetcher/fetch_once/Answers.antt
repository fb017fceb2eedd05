use Rattle.std.proofs.Common.{[], ◌∷◌, ◌∙◌, Err, arith, ap, inr, refl, sym, subst}
use Rattle.reg_desk_jobs.proofs.Fetching.{comes_read, comes_unread}
use Rattle.reg_desk_jobs.specs.Fetches.{CameResponse, ComesOnce}
use Rattle.reg_desk_jobs.proofs.fill_job.Fetcher.fetch_once.Goals as goal
use Rattle.reg_desk_jobs.proofs.fill_job.Fetcher.fetch_once.Goals.{in-Ok-read_feed_page, in-Err}

pub loop-init : goal.loop-init
loop-init g c = (([], refl), g.M.Machine.not_waited)

pub returns-then-head-ne-OK-clause-ok : goal.returns-then-head-ne-OK-clause-ok
returns-then-head-ne-OK-clause-ok g c = (
  c.if-head-ne-OK.true,
  (
    _,
    record {
      first = c.new-exchange.result;
      before = c.loop.exchange;
      last = c.advance.new.self;
      steps = c.loop.invariant.0.0;
      head = c.in-Arrived.head;
      requested = c.new-exchange.ensures.request ∙ c.in-Ok-changes_request.ensures;
      nothing_came = c.new-exchange.ensures.received;
      went_on = c.loop.invariant.0.1;
      arrived = (_, _, _, c.in-Arrived.ensures.progress);
      status_is = refl;
      body_is = refl;
    },
  ),
)

pub returns-in-Arrived-clause-ok : goal.returns-in-Arrived-clause-ok
returns-in-Arrived-clause-ok g c =
    let came : CameResponse c.args.after.now 200 c.body.result.now = record {
      first = c.new-exchange.result;
      before = c.loop.exchange;
      last = c.advance.new.self;
      steps = c.loop.invariant.0.0;
      head = c.in-Arrived.head;
      requested = c.new-exchange.ensures.request ∙ c.in-Ok-changes_request.ensures;
      nothing_came = c.new-exchange.ensures.received;
      went_on = c.loop.invariant.0.1;
      arrived = (_, _, _, c.in-Arrived.ensures.progress);
      status_is = c.if-head-ne-OK.false;
      body_is = c.body.ensures;
    } in
    elim c.match-read_feed_page.branch [
      | in-Ok-read_feed_page w ↦
          comes_read c.args.after.now c.body.result.now c.match-read_feed_page.result w.in-Ok-read_feed_page.page came w.result-is
          w.in-Ok-read_feed_page.ensures.text
      | in-Err w ↦
          subst (ComesOnce c.args.after.now) (sym (w.result-is ∙ ap Err w.from.ensures))
          (comes_unread c.args.after.now c.body.result.now w.in-Err.fault came w.in-Err.ensures.only)
    ]

pub loop-preserved : goal.loop-preserved
loop-preserved g c = (
  (c.loop.exchange ∷ c.loop.invariant.0.0, (c.loop.invariant.0.1, (_, _, c.in-Waiting.ensures.proceeds))),
  c.in_ok-pause-in-Waiting.ensures.ok c.loop.counter c.loop.invariant.1,
)

pub returns-clause-err : goal.returns-clause-err
returns-clause-err g c =
    inr (refl, inr (subst g.M.Machine.waited (omega (arith, c.loop.auto.counter-end, c.loop-test.false)) c.loop.invariant.1))
