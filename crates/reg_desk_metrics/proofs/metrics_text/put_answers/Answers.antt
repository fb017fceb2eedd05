use Rattle.reg_desk_metrics.proofs.MetricsTexts.{answers_begin, answers_more}
use Rattle.reg_desk_metrics.proofs.metrics_text.put_answers.Goals as goal

pub loop-index-init : goal.loop-index-init
loop-index-init c = answers_begin c.extend_from_slice.new.self.items c.args.answers.now

pub loop-index-preserved : goal.loop-index-preserved
loop-index-preserved c =
    answers_more c.extend_from_slice.new.self.items c.loop-index.text.items c.put_answer.new.text.items c.args.answers.now c.loop-index.index
    c.loop-index.invariant c.in_ok-put_answer.ensures
