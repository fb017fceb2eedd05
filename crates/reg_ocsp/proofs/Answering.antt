-- The CertIDs that are answered are within the bounds of those in the request.
use Rattle.std.proofs.Common.{◌≡◌, ◌≤◌, ◌<◌, ◌+◌, ℕ, List, [], ◌∷◌, ◌++◌, length, take, Option, refl, sym, ap, ◌∙◌, subst, arith}
use Rattle.std.specs.Prelude.{get_or, sum_by}
use Rattle.std.specs.List.{flat_map}
use Rattle.std.proofs.lemmas.Grind.{flat_map-append}
use Rattle.std.proofs.lemmas.List.{append-nil, length-map, map-append, take_more}
use Rattle.std.proofs.lemmas.List.Concat.{flat_map-cons}
use Rattle.std.proofs.lemmas.List.Sums.{sum_by-append, sum_by-cons}
use Rattle.reg_core.specs.declared.command.Status.{Status}
use Rattle.reg_ocsp.specs.declared.asked.CertId.{CertId}
use Rattle.reg_ocsp.specs.Request.{raw_length, CanBeAnswered}
use Rattle.reg_ocsp.specs.Response.{SingleAnswer, single_response}
use Rattle.reg_ocsp.specs.Views.{id_model, ids_model, answer_model, answers_model, answered, answered_length}

answered_total : (answers : List (CertId × Status)) → sum_by answered_length answers ≡ sum_by raw_length (ids_model (answered answers))
answered_total [] = refl
answered_total (x ∷ answers) =
    let others = answered_total answers in
    omega (arith, sum_by-cons answered_length x answers, sum_by-cons raw_length (id_model x.0) (ids_model (answered answers)))

-- what can be answered is within the bounds of what is answered
pub few_answers : (answers : List (CertId × Status)) (nonce : Option (List ℕ)) → CanBeAnswered (ids_model (answered answers)) nonce → length answers ≤ 65536
few_answers answers repeats can = omega (arith, can.few, length-map answers (λ answer. answer.0), length-map (answered answers) id_model)

pub short_answers : (answers : List (CertId × Status)) (nonce : Option (List ℕ)) → CanBeAnswered (ids_model (answered answers)) nonce → sum_by answered_length answers ≤ 65536
short_answers answers repeats can = omega (arith, can.short, answered_total answers)

-- and what answers just these CertIDs is within them
pub answers_fit : (answers : List (CertId × Status)) (ids : List CertId) (nonce : Option (List ℕ)) → answered answers ≡ ids → CanBeAnswered (ids_model ids) nonce → CanBeAnswered (ids_model (answered answers)) nonce
answers_fit answers ids repeats same can = subst (λ (asked : List CertId). CanBeAnswered (ids_model asked) repeats) (sym same) can

-- ---- one answer more

module _ (answers : List (CertId × Status)) (i : ℕ) (answer : CertId × Status) (within : i < length answers) (is : answer ≡ get_or answers i answer) where
  taken_more : take (i + 1) answers ≡ take i answers ++ answer ∷ []
  taken_more = take_more answers i answer within ∙ ap (λ (x : CertId × Status). take i answers ++ x ∷ []) (sym is)

  -- what is written of them
  pub written_more : (now next : ℕ) → flat_map (single_response now next) (answers_model (take (i + 1) answers))
      ≡ flat_map (single_response now next) (answers_model (take i answers)) ++ single_response now next (answer_model answer)
  written_more now next =
      let write : SingleAnswer → List ℕ = single_response now next in
      let front = answers_model (take i answers) in
      ap (λ (xs : List (CertId × Status)). flat_map write (answers_model xs)) taken_more
      ∙ ap (flat_map write) (map-append answer_model (take i answers) (answer ∷ []))
      ∙ flat_map-append write front (answer_model answer ∷ [])
      ∙ ap (λ (r : List ℕ). flat_map write front ++ r) (flat_map-cons write (answer_model answer) [] ∙ append-nil (write (answer_model answer)))

  -- and the lengths of their CertIDs
  pub total_more : sum_by answered_length (take (i + 1) answers) ≡ sum_by answered_length (take i answers) + answered_length answer
  total_more =
      let one : sum_by answered_length (answer ∷ []) ≡ answered_length answer = omega (arith, sum_by-cons answered_length answer []) in
      ap (sum_by answered_length) taken_more ∙ sum_by-append answered_length (take i answers) (answer ∷ []) ∙ ap (λ (n : ℕ). sum_by answered_length (take i answers) + n) one
