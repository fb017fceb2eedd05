use Rattle.std.proofs.Common.{◌∙◌}
use Rattle.reg_store_tables.proofs.PublicLaws.{so}
use Rattle.reg_office_cache.proofs.UndecidedRows.{open_counted}
use Rattle.reg_office_cache.proofs.undecided.open_count_by.Goals as goal

pub returns : goal.returns
returns g c =
    so c.in_ok-update.ensures
    (λ records sound it are. let (now, all) = it are in (now, c.open_count.ensures ∙ open_counted records c.update.new.known c.args.now all))
