use Rattle.std.proofs.Common.{inr, ◌∙◌}
use Rattle.reg_lines.proofs.rows.rows_of.Goals as goal

pub returns-clause-at_start : goal.returns-clause-at_start
returns-clause-at_start c =
    let made = c.from_reader.ensures in
    let config = rw (c.flexible.ensures, c.has_headers.ensures) at made.config in
    let trim = rw (c.flexible.ensures, c.has_headers.ensures) at made.trim in
    let headers = rw (c.flexible.ensures, c.has_headers.ensures) at made.has_headers in
    record {
      untrimmed = trim ∙ c.new.ensures.trim;
      ready = inr (inr (headers, made.headers));
      config = config ∙ c.new.ensures.config;
      state = made.state;
    }
