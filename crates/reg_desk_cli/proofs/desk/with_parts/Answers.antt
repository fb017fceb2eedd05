use Rattle.reg_desk_cli.proofs.TableLemmas.{all_parts, one_part, rule_added, still_local}
use Rattle.reg_desk_cli.proofs.desk.with_parts.Goals as goal

pub loop-part-preserved : goal.loop-part-preserved
loop-part-preserved c = record {
  app = one_part _ _ _ c.args.parts.now c.loop-part.part-index _ c.loop-part-test.true
      (rule_added _ _ _ c.in_ok-command.ensures c.in_ok-arg.ensures.local c.in_ok-arg.ensures.rule) c.loop-part.invariant.app;
  local = still_local _ _ _ c.in_ok-command.ensures c.loop-part.invariant.local c.in_ok-arg.ensures.local;
}

pub returns-clause-app : goal.returns-clause-app
returns-clause-app c = all_parts _ _ c.args.parts.now c.loop-part.part-index c.loop-part-test.false c.loop-part.invariant.app
