-- The line of a name that is taken tells the id.
use Rattle.std.proofs.Common.{◌++◌, ap, ◌∙◌}
use Rattle.std.specs.Prelude.{codes}
use Rattle.reg_core.specs.Lines.{refusal_line}
use Rattle.reg_core.proofs.refusal.Refusal.line.Goals as goal

pub returns-in-NameTaken : goal.returns-in-NameTaken
unfolding refusal_line
returns-in-NameTaken c =
    rw c.in-NameTaken.is
    (c.joined-in-NameTaken.ensures ∙ ap (λ text. codes "E05 name-taken " ++ text) (c.as_bytes.ensures.text ∙ c.of.ensures.text))
