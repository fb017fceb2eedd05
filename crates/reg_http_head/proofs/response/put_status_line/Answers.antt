use Rattle.std.proofs.Common.{codes}
use Rattle.reg_http_head.specs.Response.{status_line}
use Rattle.reg_http_head.proofs.Written.{parts_in_order}
use Rattle.reg_http_head.proofs.response.put_status_line.Goals as goal

pub returns-clause-items : goal.returns-clause-items
unfolding status_line
returns-clause-items c =
    rw (
      c.put_line.ensures.items,
      c.phrase.ensures.text,
      c.put-2.ensures.items,
      c.as_bytes.ensures.text,
      c.of.ensures.text,
      c.from.ensures,
      c.put.ensures.items,
    )
    (parts_in_order c.args.out.now.items (codes "HTTP/1.1 ") _ _)
