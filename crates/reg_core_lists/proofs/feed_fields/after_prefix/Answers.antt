use Rattle.std.proofs.lemmas.Bool.Decides.{Decides-eqb}
use Rattle.std.proofs.lemmas.Slice.Eq.{strip_prefix_is}
use Rattle.reg_core_lists.proofs.feed_fields.after_prefix.Goals as goal

pub returns-clause-text : goal.returns-clause-text
returns-clause-text c =
    strip_prefix_is Decides-eqb c.args.text.now c.args.prefix.now c.strip_prefix.result c.strip_prefix.ensures.cases
