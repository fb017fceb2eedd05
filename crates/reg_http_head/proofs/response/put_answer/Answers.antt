use Rattle.reg_http_head.proofs.response.put_answer.Goals as goal

pub returns-in-Ok-clause-ok : goal.returns-in-Ok-clause-ok
returns-in-Ok-clause-ok c = (
  c.date_of.result,
  c.date_of.ensures,
  rw (c.in-Ok.is, c.as_slice.ensures.value, c.put_head.ensures.items) at c.extend_from_slice.ensures.items,
)
