use Rattle.std.proofs.Common.{sym, subst, ◌∙◌, IsUtf8}
use Rattle.std.proofs.lemmas.Grind.{not_there}
use Rattle.reg_http_head.proofs.CollectLemmas.{at_most}
use Rattle.reg_http_head.proofs.head.HeadSpans.target_in.Goals as goal

pub of-requires-clause-ordered : goal.of-requires-clause-ordered
of-requires-clause-ordered c = at_most _ _ c.requires (λ buffered. buffered.1.target_within.0)

pub of-requires-clause-in_range : goal.of-requires-clause-in_range
of-requires-clause-in_range c = at_most _ _ c.requires (λ buffered. buffered.1.target_within.1)

pub unreachable-requires : goal.unreachable-requires
unreachable-requires c =
    not_there c.requires (λ buffered. c.in-Err.ensures.cases.0 (subst IsUtf8 (sym (c.of.ensures ∙ buffered.1.target_is)) buffered.1.reads.0.0.target_text))
