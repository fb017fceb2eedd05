use Rattle.std.proofs.Common.{◌∙◌}
use Rattle.reg_http_head.proofs.response.date_of.Goals as goal

pub returns : goal.returns
returns c =
    let secs = rw c.unwrap.ensures at c.from_unix_secs.ensures.value in
    (c.unwrap.result, secs ∙ c.secs.ensures.value, c.to_bytes.ensures)
