use Rattle.std.proofs.Common.{refl}
use Rattle.reg_lines.specs.Replies.{with_lf}
use Rattle.reg_lines.proofs.run.response_line.Goals as goal

pub returns : goal.returns
unfolding with_lf
returns c = rw (c.in_ok-push.ensures.items, c.in_ok-extend_from_slice.ensures.items, c.in_ok-text.ensures.items, c.as_bytes.ensures.value, c.in_ok-digits.ensures) refl
