use Rattle.std.proofs.Common.{ap, inl, inr, refl, subst, sym, ◌++◌, ◌∙◌}
use Rattle.std.specs.Prelude.{ℕ, List, codes}
use Rattle.reg_desk_jobs.proofs.FollowRuns.{copies_at, fills_at, is_err}
use Rattle.reg_desk_jobs.specs.Fetches.{IsWholeFeed}
use Rattle.reg_desk_jobs.proofs.fill_job.fill.Goals as goal

pub returns-in_err-path : goal.returns-in_err-path
returns-in_err-path g c = inl (refl, (_, is_err c.from_residual.result c.in_err-path.field-0.0 c.from_residual.ensures.1))

pub returns-in_err-fetcher : goal.returns-in_err-fetcher
returns-in_err-fetcher g c =
    inl (refl, (_, is_err c.from_residual-in_err-fetcher.result c.in_err-fetcher.field-0.0 c.from_residual-in_err-fetcher.ensures.1))

pub returns-in_err-pages : goal.returns-in_err-pages
returns-in_err-pages g c =
    inl (refl, (_, is_err c.from_residual-in_err-pages.result c.in_err-pages.field-0.0 c.from_residual-in_err-pages.ensures.1))

pub returns : goal.returns
returns g c =
    let path = c.as_str-filled.ensures.value ∙ c.in_ok-path.ensures.ok ∙ ap (λ (file : List ℕ). file ++ codes ".fill") c.as_str-file.ensures in
    inr (
      _,
      c.fill_file-entered.result,
      c.fill_file-entered.new.machine,
      c.copy_filled-copied.new.machine,
      subst IsWholeFeed (sym c.deref.ensures.value) c.in_ok-pages.ensures.ok,
      (λ forms. fills_at g.M.Machine g.M.Office.Office _ _ _ _ _ _ path (c.fill_file-entered.ensures forms)),
      copies_at g.M.Machine g.M.Office.Office _ _ _ _ _ _ _ _ path c.as_str-file.ensures c.copy_filled-copied.ensures,
      subst (λ (it : List ℕ). g.M.Machine.removed c.copy_filled-copied.new.machine it c.remove.new.self) path c.remove.ensures,
    )
