use Rattle.std.proofs.Common.{◌++◌, List, ℕ, ap, sym, ◌∙◌, arith}
use Rattle.reg_ocsp.specs.Response.{single_response}
use Rattle.reg_ocsp.specs.Views.{answer_model}
use Rattle.reg_ocsp.proofs.Answering.{written_more, total_more}
use Rattle.reg_ocsp.proofs.response.put_answers.Goals as goal

pub loop-answer-preserved : goal.loop-answer-preserved
loop-answer-preserved c =
    let it = c.loop-answer.invariant in
    let answers = c.args.answers.now in
    let i = c.loop-answer.answer-index in
    let answer = c.answer-item.result in
    record {
      written = c.in_ok-put_single.ensures.ok
          ∙ ap (λ (r : List ℕ). r ++ single_response c.args.now c.args.next (answer_model answer)) it.written
          ∙ sym (written_more answers i answer c.loop-answer-test.true c.answer-item.is c.args.now c.args.next);
      few = omega (arith, it.few, c.in_ok-put_single.ensures.length_at_most, total_more answers i answer c.loop-answer-test.true c.answer-item.is);
    }
