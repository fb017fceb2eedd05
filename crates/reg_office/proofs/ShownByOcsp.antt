-- What OCSP answers show of a serial number.
use Rattle.std.proofs.Common.{◌≡◌, ℕ, false, nat_le, nat_lt, List, [], ◌∷◌, Option, None, inl, inr, subst, arith}
use Rattle.std.specs.List.{AllZip}
use Rattle.std.proofs.lemmas.Bool.Decides.{nat_tests}
use Rattle.reg_core.specs.Checks.{clock_end, clock_checks, first_refusal}
use Rattle.reg_core.specs.Records.{Records}
use Rattle.reg_core.specs.Sound.{SoundRows}
use Rattle.reg_core.specs.declared.command.Status.{Status}
use Rattle.reg_core.specs.declared.refusal.Refusal.{Refusal}
use Rattle.reg_crl.specs.Signing.{Identity}
use Rattle.reg_ocsp.specs.Matching.{IsMatch}
use Rattle.reg_ocsp.specs.Request.{Id}
use Rattle.reg_ocsp.specs.Response.{SingleAnswer}
use Rattle.reg_office.specs.Agreement.{Agrees, OcspAgrees}
use Rattle.reg_office_api.specs.Ocsp.{IsOcspReply, IsReadReply, IsResponse, IsTimely}
use Rattle.reg_office_api.specs.Signers.{Responder, responder_key}
use Rattle.reg_office.specs.Shown.{IsReached, AnswersStatuses, ResponseHasStatuses}

-- the clock refuses no moment that is reached
pub on_clock
    : (records : Records) (moment : ℕ)
    → IsReached records moment
    → first_refusal (clock_checks moment records.last) ≡ None
on_clock records moment reached =
    let before_end : nat_le clock_end moment ≡ false = grind (arith, nat_tests, reached.not_ended) in
    let not_back : nat_lt moment records.last ≡ false = grind (arith, nat_tests, reached.not_back) in
    rw (before_end, not_back)

-- what holds of two lists, place by place, holds in a weaker form
zip_weaker
    : {A B : Type 0} (P Q : A → B → Type 0) → ((a : A) (b : B) → P a b → Q a b)
    → (xs : List A) (ys : List B)
    → AllZip P xs ys
    → AllZip Q xs ys
zip_weaker P Q weaker [] [] all = tt
zip_weaker P Q weaker [] (y ∷ ys) all = all
zip_weaker P Q weaker (x ∷ xs) [] all = all
zip_weaker P Q weaker (x ∷ xs) (y ∷ ys) all = (weaker x y all.0, zip_weaker P Q weaker xs ys all.1)

-- each reply at a moment that is reached tells of a serial number what each answer that agrees with the records tells
pub ocsp_shows
    : (signs : Identity → List ℕ → List ℕ → Type 0) (responder : Responder) (records : Records) (moment serial : ℕ)
    → (IsSo : Status → Type 0)
    → OcspAgrees
    → SoundRows records
    → ((id : Id) (answer : SingleAnswer) → IsMatch records.issuer id serial → Agrees records id answer → IsSo answer.status)
    → IsReached records moment
    → (asked reply : List ℕ)
    → IsOcspReply signs responder records moment asked reply
    → AnswersStatuses signs responder records moment serial IsSo asked reply
ocsp_shows signs responder records moment serial IsSo agree sound so reached asked reply (inl malformed) = inl malformed
ocsp_shows signs responder records moment serial IsSo agree sound so reached asked reply (inr its) = go its.3
  where
    whole : IsResponse signs responder records moment its.0 its.1 reply → ResponseHasStatuses signs responder records moment serial IsSo asked reply
    whole response = record {
      ids = its.0;
      nonce = its.1;
      read = its.2;
      response = response;
      statuses_so =
          zip_weaker
          (Agrees records)
          (λ id answer. IsMatch records.issuer id serial → IsSo answer.status)
          (λ id answer agrees match. so id answer match agrees)
          its.0
          response.of_records.answers
          (agree (responder_key responder records) records moment its.0 its.1 response.tbs sound response.of_records);
    }

    go : IsReadReply signs responder records moment its.0 its.1 reply → AnswersStatuses signs responder records moment serial IsSo asked reply
    go (inl internal) = inr (inl internal)
    go (inr timely) =
        inr
        (inr
        (whole
        (subst
        (λ (refused : Option Refusal). IsTimely refused (IsResponse signs responder records moment its.0 its.1) reply)
        (on_clock records moment reached)
        timely)))
