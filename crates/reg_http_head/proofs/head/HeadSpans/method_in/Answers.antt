use Rattle.reg_http_head.proofs.CollectLemmas.{at_most}
use Rattle.reg_http_head.proofs.head.HeadSpans.method_in.Goals as goal

pub of-requires-clause-ordered : goal.of-requires-clause-ordered
of-requires-clause-ordered c = at_most _ _ c.requires (λ buffered. buffered.1.method_within.0)

pub of-requires-clause-in_range : goal.of-requires-clause-in_range
of-requires-clause-in_range c = at_most _ _ c.requires (λ buffered. buffered.1.method_within.1)
