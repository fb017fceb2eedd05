use Rattle.reg_http_head.proofs.CollectLemmas.{refused_at}
use Rattle.reg_http_head.proofs.scan_state.read_to.Goals as goal

pub returns-in-Err : goal.returns-in-Err
returns-in-Err c = refused_at c.args.bytes.now c.args.end c.in-Err.refused c.requires c.in-Err.ensures.err
