-- Lemmas about persistent connections, one for each step (specs/PersistentConnections.antt).
use mathlib.Core.List.{map-append}
use Rattle.std.proofs.Common.{◌≡◌, ℕ, ◌+◌, List, [], ◌∷◌, ◌++◌, ◌⊎◌, length, length-append, map, refl, sym, subst, ap, ◌∙◌, inl, inr}
use Rattle.std.specs.Prelude.{Option}
use Rattle.std.specs.List.{concat}
use Rattle.std.proofs.lemmas.List.{append-nil, append_assoc}
use Rattle.std.proofs.lemmas.List.Folds.{concat-append}
use Rattle.reg_crl_signer.specs.CountedBytes.{counted_bytes}
use Rattle.reg_crl_signer.specs.OpenConnections.{SinceOpened, more_received, more_sent, nothing_yet}
use Rattle.reg_crl_signer.specs.PersistentConnections.{HasAnswered, HasExchanged, ReceivesOn, SendsOneMore, TakesOneMore}
use Rattle.reg_crl_signer.specs.SignerConnections.{FramesAnswer, IsNewConnection, LeadsOn, Receives, SendsNext, TakesAnswer}
use Rattle.reg_crl_signer.specs.declared.signer_connection.Framing.{Framing}
use Rattle.reg_crl_signer.specs.declared.signer_connection.Framing.TheVariants.{ByLength}
use Rattle.reg_crl_signer.specs.declared.signer_connection.Progress.{Progress}
use Rattle.reg_crl_signer.specs.declared.signer_connection.Progress.TheVariants.{Idle, Waiting, Arrived, Failed}
use Rattle.reg_crl_signer.specs.declared.signer_connection.SignerConnection.{SignerConnection}

-- all messages, or all answers, and one more
all_and_one : (octets : List (List ℕ)) (one : List ℕ) → concat (map counted_bytes (octets ++ one ∷ [])) ≡ concat (map counted_bytes octets) ++ counted_bytes one
all_and_one octets one =
    ap concat (map-append counted_bytes octets (one ∷ []))
    ∙ concat-append (map counted_bytes octets) (counted_bytes one ∷ [])
    ∙ ap (λ (l : List ℕ). concat (map counted_bytes octets) ++ l) (append-nil (counted_bytes one))

-- how many were answered, after more has come
answered_on : (old new : Progress) (messages answers : ℕ) → LeadsOn old new → HasAnswered old messages answers → HasAnswered new messages answers
answered_on Idle Idle messages answers leads was = was
answered_on Idle Failed messages answers leads was = inl was
answered_on Waiting Waiting messages answers leads was = was
answered_on Waiting Arrived messages answers leads was = was
answered_on Waiting Failed messages answers leads was = inr was
answered_on Arrived Arrived messages answers leads was = was
answered_on Arrived Failed messages answers leads was = inr was
answered_on Failed Failed messages answers leads was = was
answered_on _ _ messages answers leads was = absurd leads

-- a connection that awaits no answer awaited none before
abbrev is_idle : Progress → Type 0
is_idle Idle = Unit {0}
is_idle _ = ⊥

was_idle : (old new : Progress) → LeadsOn old new → is_idle new → old ≡ Idle
was_idle Idle new leads is = refl
was_idle Waiting Idle leads is = absurd leads
was_idle Arrived Idle leads is = absurd leads
was_idle Failed Idle leads is = absurd leads
was_idle _ Waiting leads is = absurd is
was_idle _ Arrived leads is = absurd is
was_idle _ Failed leads is = absurd is

-- a connection that failed does not work again
abbrev works : Progress → Type 0
works Failed = ⊥
works _ = Unit {0}

working : (progress at : Progress) → progress ≡ at → works at → ¬ (progress ≡ Failed)
working progress at is ok failed = subst works (sym is ∙ failed) ok

fails_on : (new : Progress) → LeadsOn Failed new → new ≡ Failed
fails_on Failed leads = refl
fails_on _ leads = absurd leads

worked : (old new : Progress) → LeadsOn old new → ¬ (new ≡ Failed) → ¬ (old ≡ Failed)
worked old new leads works_now failed = works_now (fails_on new (subst (λ (progress : Progress). LeadsOn progress new) failed leads))

module _ {S : Type 0} (contents remaining : S → Option (List ℕ)) where
  pub exchanged_none : (stream : S) (it : SignerConnection S) → IsNewConnection stream ByLength Idle it → HasExchanged contents remaining stream it [] []
  exchanged_none stream it new = record {
    came = [];
    gone = [];
    since = subst (SinceOpened contents remaining stream [] []) (sym new.stream_is) nothing_yet;
    sent = refl;
    taken = λ works. sym new.none;
    answered = subst (λ (progress : Progress). HasAnswered progress 0 0) (sym new.progress_is) refl;
    none_early = λ idle. new.none;
    persistent = new.framing_is;
  }

  pub received_on : ReceivesOn contents remaining
  received_on first old new messages answers was more = record {
    came = was.came ++ more.came;
    gone = was.gone;
    since = more_received was.came was.gone more.came old.stream new.stream was.since more.consumed;
    sent = was.sent;
    taken = λ works.
        ap (λ (l : List ℕ). l ++ more.came) (was.taken (worked old.progress new.progress more.leads works))
        ∙ append_assoc (concat (map counted_bytes answers)) old.received.items more.came
        ∙ ap (λ (l : List ℕ). concat (map counted_bytes answers) ++ l) (sym (more.kept works));
    answered = answered_on old.progress new.progress (length messages) (length answers) more.leads was.answered;
    none_early = λ idle.
        more.kept (working new.progress Idle idle tt)
        ∙ ap (λ (l : List ℕ). old.received.items ++ l) (more.idle idle) ∙ append-nil old.received.items
        ∙ was.none_early (was_idle old.progress new.progress more.leads (subst is_idle (sym idle) tt));
    persistent = more.same_framing ∙ was.persistent;
  }

  pub sent_one_more : SendsOneMore contents remaining
  sent_one_more first old new messages answers message was more = record {
    came = was.came;
    gone = was.gone ++ counted_bytes message;
    since = more_sent was.came was.gone (counted_bytes message) old.stream new.stream was.since more.sent;
    sent = ap (λ (l : List ℕ). l ++ counted_bytes message) was.sent ∙ sym (all_and_one messages message);
    taken = λ works.
        was.taken (working old.progress Idle more.was_idle tt) ∙ ap (λ (l : List ℕ). concat (map counted_bytes answers) ++ l) (sym more.same);
    answered =
        subst (λ (progress : Progress). HasAnswered progress (length (messages ++ message ∷ [])) (length answers)) (sym more.awaits)
        (length-append messages (message ∷ [])
        ∙ ap (λ (n : ℕ). n + 1) (subst (λ (progress : Progress). HasAnswered progress (length messages) (length answers)) more.was_idle was.answered));
    none_early = λ idle. absurd (subst is_idle (sym idle ∙ more.awaits) tt);
    persistent = more.persistent;
  }

  pub took_one_more : TakesOneMore contents remaining
  took_one_more first old new messages answers answer was more =
      let one_more : length messages ≡ length answers + 1 =
      subst (λ (progress : Progress). HasAnswered progress (length messages) (length answers)) more.had_arrived was.answered in
      let is : old.received.items ≡ counted_bytes answer = subst (λ (framing : Framing). FramesAnswer framing old.received.items answer) was.persistent more.is in (
        record {
          came = was.came;
          gone = was.gone;
          since = subst (SinceOpened contents remaining first was.came was.gone) (sym more.same_stream) was.since;
          sent = was.sent;
          taken = λ works.
              was.taken (working old.progress Arrived more.had_arrived tt) ∙ ap (λ (l : List ℕ). concat (map counted_bytes answers) ++ l) is ∙ sym (all_and_one answers answer)
              ∙ sym (append-nil (concat (map counted_bytes (answers ++ answer ∷ []))))
              ∙ ap (λ (l : List ℕ). concat (map counted_bytes (answers ++ answer ∷ [])) ++ l) (sym more.none_left);
          answered =
              subst (λ (progress : Progress). HasAnswered progress (length messages) (length (answers ++ answer ∷ []))) (sym more.idle)
              (one_more ∙ sym (length-append answers (answer ∷ [])));
          none_early = λ idle. more.none_left;
          persistent = more.same_framing ∙ was.persistent;
        },
        one_more,
      )
