use Rattle.std.proofs.Common.{◌≡◌, ◌==◌, ◌∙◌, ℕ, ap}
use Rattle.std.specs.Prelude.{cond}
use Rattle.reg_core_lists.specs.Feed.{no_declines}
use Rattle.reg_store_tables.proofs.PublicLaws.{by_finding_sound, so}
use Rattle.reg_office_reads.proofs.changes.declines_in.Goals as goal

pub returns : goal.returns
returns g c =
    so (by_finding_sound c.in_ok-count.ensures)
    (λ records sound it. c.if_counted.ensures ∙ ap (λ (n : ℕ). cond (n == c.args.declines.now.count) c.args.declines.now no_declines) it)
