use Rattle.std.proofs.Common.{◌≡◌, ◌∙◌, None, Some, ap, sym, rules}
use Rattle.reg_core.specs.Label.{IsLabel}
use Rattle.reg_core.proofs.LabelTexts.{label_of-is, reads_label}
use Rattle.reg_core.proofs.label.Label.of.Goals as goal

pub returns-then-is_empty-clause-exact : goal.returns-then-is_empty-clause-exact
returns-then-is_empty-clause-exact c = reads_label None c.args.text.now (search rules) tt

pub returns-clause-exact : goal.returns-clause-exact
returns-clause-exact c =
    let is : IsLabel c.args.text.now = search rules in
    let same : c.joined.result ≡ c.args.text.now = search rules in
    ap Some same ∙ sym (label_of-is c.args.text.now is)
