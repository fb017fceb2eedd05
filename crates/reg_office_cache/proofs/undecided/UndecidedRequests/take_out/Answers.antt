use Rattle.std.proofs.Common.{not, rules}
use Rattle.std.proofs.lemmas.Fn.{filter_same}
use Rattle.reg_office_cache.specs.Undecided.{has_revocation}
use Rattle.reg_office_cache.proofs.undecided.UndecidedRequests.take_out.Goals as goal

pub returns-clause-rows : goal.returns-clause-rows
returns-clause-rows c = filter_same _ (λ row. not (has_revocation c.args.page.now row.request.serial)) _ (λ row kept f called. search rules) _ _ c.retain.ensures.filtered
