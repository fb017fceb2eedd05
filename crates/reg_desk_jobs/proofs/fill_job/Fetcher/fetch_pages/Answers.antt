use Rattle.std.proofs.Common.{◌∷◌, [], ◌∙◌, ℕ, ◌+◌, List, None, Some, arith, ap, inl, inr, length, length-append, refl, subst, sym}
use Rattle.reg_core_lists.specs.declared.feed_reader.ReceivedPage.{ReceivedPage}
use Rattle.reg_desk_jobs.proofs.Fetching.{lead_then}
use Rattle.reg_desk_jobs.specs.Fetches.{CamePage, Comes, LeadFrom}
use Rattle.reg_desk_jobs.proofs.fill_job.Fetcher.fetch_pages.Goals as goal

pub loop-init : goal.loop-init
loop-init g c = (
  subst (λ (it : List ReceivedPage). LeadFrom None it None) (sym c.new-pages.ensures.items) refl,
  ap length c.new-pages.ensures.items,
)

pub returns-then-leads_nowhere-clause-err : goal.returns-then-leads_nowhere-clause-err
returns-then-leads_nowhere-clause-err g c =
    let came : CamePage c.loop.after c.in-Some.page = subst (Comes c.loop.after) c.in-Some.is c.in_ok-page.ensures.ok in
    let nowhere = c.leads_nowhere.ensures.0 c.if-leads_nowhere.true in
    inr (inl (
      refl,
      inr record {
        page = c.in-Some.page;
        came = subst (λ it. CamePage it c.in-Some.page) nowhere.1 came;
        goes_on = nowhere.0;
      },
    ))

pub returns-then-ends-clause-ok : goal.returns-then-ends-clause-ok
returns-then-ends-clause-ok g c = record {
  before = c.loop.pages.items;
  last = c.in-Some.page;
  reached = c.loop.after;
  parts = c.in-Ok.ensures.items;
  leads = c.loop.invariant.0;
  came = subst (Comes c.loop.after) c.in-Some.is c.in_ok-page.ensures.ok;
  ends = c.if-ends.true;
}

pub loop-preserved : goal.loop-preserved
loop-preserved g c =
    let came : CamePage c.loop.after c.in-Some.page = subst (Comes c.loop.after) c.in-Some.is c.in_ok-page.ensures.ok in (
      subst (λ (it : List ReceivedPage). LeadFrom None it (Some c.in-Some.page.positions)) (sym c.in-Ok.ensures.items)
          (lead_then None c.loop.pages.items c.loop.after c.in-Some.page c.loop.invariant.0 came c.if-ends.false),
      ap length c.in-Ok.ensures.items ∙ length-append c.loop.pages.items (c.in-Some.page ∷ []) ∙ ap (λ (it : ℕ). it + 1) c.loop.invariant.1,
    )

pub returns-clause-err : goal.returns-clause-err
returns-clause-err g c = inr (inr (
  refl,
  record {
    pages = c.loop.pages.items;
    reached = c.loop.after;
    leads = c.loop.invariant.0;
    many = omega (arith, c.loop.auto.counter-end, c.loop-test.false, c.loop.invariant.1);
  },
))
