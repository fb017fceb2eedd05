use Rattle.std.proofs.Common.{◌∙◌, sym}
use Rattle.reg_office_cache.proofs.KeptRows.{pages_kept}
use Rattle.reg_office_cache.proofs.caching_office.keep_before_pages.Goals as goal

pub returns-else-has_declined_rows-clause-added : goal.returns-else-has_declined_rows-clause-added
returns-else-has_declined_rows-clause-added c before after adds are =
    pages_kept c.args.pages.now before after c.args.known.now (sym c.has_declined_rows.ensures ∙ c.if-has_declined_rows.false) adds are
