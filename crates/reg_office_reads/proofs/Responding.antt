-- What an answer comes to, part by part.
use Rattle.std.proofs.Common.{◌≡◌, ◌≢◌, ℕ, ◌+◌, ◌<◌, List, [], ◌∷◌, ◌++◌, length, take, Option, refl, sym, ap, subst, ◌∙◌, arith}
use Rattle.std.specs.List.{AllByRecursion, AllZip}
use Rattle.std.specs.Prelude.{get_or}
use Rattle.std.proofs.lemmas.List.{length-append, map_push, take_more}
use Rattle.reg_core.specs.Records.{Records}
use Rattle.reg_core.specs.declared.command.Status.{Status}
use Rattle.reg_der.specs.Der.{tlv, length_octets}
use Rattle.reg_der.proofs.PublicLaws.{value_size}
use Rattle.reg_ocsp.specs.declared.asked.CertId.{CertId}
use Rattle.reg_ocsp.specs.declared.response.RefusalStatus.TheVariants.{Malformed, Internal, TryLater}
use Rattle.reg_ocsp.specs.Response.{basic_response, enumerated, ocsp_response, refusal_response, response_bytes}
use Rattle.reg_ocsp.specs.Views.{id_model, ids_model, answers_model, answered}
use Rattle.reg_office_api.specs.Ocsp.{IsAnswer, IsStatusFor}

-- each CertID is told what the records have
abbrev pub AreStatuses : Records → ℕ → List (CertId × Status) → Type 0
AreStatuses records now answers = AllByRecursion (λ answer. IsStatusFor records now (id_model answer.0) answer.1) answers

pub statuses_push : (records : Records) (now : ℕ) (answers : List (CertId × Status)) (id : CertId) (status : Status)
    → AreStatuses records now answers → IsStatusFor records now (id_model id) status → AreStatuses records now (answers ++ (id, status) ∷ [])
statuses_push records now [] id status all status_so = (status_so, tt)
statuses_push records now (answer ∷ answers) id status all status_so = (all.0, statuses_push records now answers id status all.1 status_so)

-- one answer more is to one CertID more
pub answered_push : (answers : List (CertId × Status)) (ids : List CertId) (n : ℕ) (default : CertId) (status : Status) → answered answers ≡ take n ids → n < length ids
    → answered (answers ++ (get_or ids n default, status) ∷ []) ≡ take (n + 1) ids
answered_push answers ids n default status front within =
    map_push (λ (answer : CertId × Status). answer.0) answers (get_or ids n default, status)
    ∙ ap (λ (xs : List CertId). xs ++ get_or ids n default ∷ []) front
    ∙ sym (take_more ids n default within)

each_status : (records : Records) (now : ℕ) (answers : List (CertId × Status)) → AreStatuses records now answers
    → AllZip (IsAnswer records now) (ids_model (answered answers)) (answers_model answers)
each_status records now [] all = tt
each_status records now (answer ∷ answers) all = (record { repeated = refl; status_is = all.0 }, each_status records now answers all.1)

-- the CertIDs that were asked, and their answers
pub each_answer : (records : Records) (now : ℕ) (ids : List CertId) (answers : List (CertId × Status)) → answered answers ≡ ids → AreStatuses records now answers
    → AllZip (IsAnswer records now) (ids_model ids) (answers_model answers)
each_answer records now ids answers same all =
    subst (λ (xs : List CertId). AllZip (IsAnswer records now) (ids_model xs) (answers_model answers)) same (each_status records now answers all)

-- THE BYTES

-- a whole response is no refusal
pub whole_apart : (signed algorithm signature : List ℕ) (certificate : Option (List ℕ)) → ocsp_response signed algorithm signature certificate ≢ refusal_response Malformed
unfolding ocsp_response
whole_apart signed algorithm signature certificate same =
    let bytes = response_bytes (basic_response signed algorithm signature certificate) in
    omega (
      arith,
      ap length same,
      (value_size 0x30 (enumerated 0 ++ tlv 0xA0 bytes)).least,
      length-append (enumerated 0) (tlv 0xA0 bytes),
      (value_size 0x0A (0 ∷ [])).least,
      (value_size 0xA0 bytes).least,
      (value_size 0x0A (1 ∷ [])).short (omega arith),
      (value_size 0x30 (enumerated 1)).short (omega (arith, (value_size 0x0A (1 ∷ [])).short (omega arith))),
    )

-- nor is one refusal another
pub internal_apart : refusal_response Internal ≢ refusal_response Malformed
unfolding tlv length_octets
internal_apart same = let bad : 2 ≡ 1 = ap (λ (bytes : List ℕ). get_or bytes 4 0) same in omega (arith, bad)

pub try_later_apart : refusal_response TryLater ≢ refusal_response Malformed
unfolding tlv length_octets
try_later_apart same = let bad : 3 ≡ 1 = ap (λ (bytes : List ℕ). get_or bytes 4 0) same in omega (arith, bad)
