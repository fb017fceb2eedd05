use Rattle.std.proofs.Common.{map}
use Rattle.reg_desk_cli.proofs.DeskLemmas.{no_invocation, invocations, refused, prints_usage}
use Rattle.std.proofs.lemmas.Result.{IfOk-weaker, IfErr-weaker}
use Rattle.reg_desk_cli.proofs.reading_words.read_by.Goals as goal

pub returns-in-Ok-clause-invocation : goal.returns-in-Ok-clause-invocation
returns-in-Ok-clause-invocation g c =
    let words = map g.S.AsStr.text c.args.words.now in
    IfOk-weaker c.read_invocation.result _ _ (λ invocation read. invocations _ words _ invocation c.requires c.in-Ok.ensures.kinds c.in-Ok.ensures.ok.2 read) c.read_invocation.ensures.invocation

pub returns-in-Ok-clause-usage : goal.returns-in-Ok-clause-usage
returns-in-Ok-clause-usage g c =
    let words = map g.S.AsStr.text c.args.words.now in
    IfErr-weaker c.read_invocation.result _ _ (λ usage read. no_invocation _ words _ usage c.requires c.in-Ok.ensures.kinds c.in-Ok.ensures.ok.2 read) c.read_invocation.ensures.usage

pub returns-in-Err-clause-usage : goal.returns-in-Err-clause-usage
returns-in-Err-clause-usage g c =
    let words = map g.S.AsStr.text c.args.words.now in
    prints_usage words _ _ c.usage_of.ensures (refused _ words c.in-Err.error c.requires c.in-Err.ensures.kinds)
