use Rattle.std.proofs.Common.{◌≡◌, ◌+◌, ◌*◌, ◌≤◌, length, take}
use Rattle.std.specs.Prelude.{sum_by}
use Rattle.std.specs.List.{flat_map}
use Rattle.reg_ocsp.specs.Response.{single_response}
use Rattle.reg_ocsp.specs.Views.{answers_model, answered_length}
use Rattle.reg_ocsp.proofs.response.put_answers.Given as goal

abbrev pub invariant-loop-answer : goal.invariant-loop-answer
invariant-loop-answer l = record {
  written : l.list.items ≡ flat_map (single_response l.now l.next) (answers_model (take l.answer-index l.answers));
  few : length l.list.items ≤ 100 * l.answer-index + sum_by answered_length (take l.answer-index l.answers);
}
