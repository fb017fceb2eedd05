use Rattle.std.proofs.Common.{refl}
use Rattle.reg_http_head.specs.Response.{head_text}
use Rattle.reg_http_head.proofs.response.put_head.Goals as goal

pub returns-clause-items : goal.returns-clause-items
unfolding head_text
returns-clause-items c =
    rw (
      c.put_line-5.ensures.items,
      c.put_line-4.ensures.items,
      c.put_line-3.ensures.items,
      c.as_bytes-2.ensures.text,
      c.of.ensures.text,
      c.as_slice.ensures.value,
      c.put_line-2.ensures.items,
      c.as_bytes.ensures.value,
      c.put_retry.ensures.items,
      c.put_allow.ensures.items,
      c.put_line.ensures.items,
      c.put_status_line.ensures.items,
      c.requires.empty,
    )
    refl
