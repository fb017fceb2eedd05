-- Replies that are accepted, by what they tell.
use Rattle.std.proofs.Common.{◌≡◌, ◌↔◌, ◌⊎◌, ◌<◌, ℕ, Bool, true, false, List, [], ◌∷◌, ◌++◌, Option, Some, None, IsTrue, refl, sym, subst, arith, inl, inr, lit<}
use Rattle.std.specs.Prelude.{Result, Ok, Err, codes, get_or}
use Rattle.std.proofs.lemmas.Bool.{false≢true}
use Rattle.hex.specs.Hex.{encode_lower}
use Rattle.reg_core.specs.Lines.{fault_line, refusal_line}
use Rattle.reg_core.specs.declared.command.Reply.{Reply}
use Rattle.reg_core.specs.declared.command.Reply.TheVariants as reply
use Rattle.reg_core.specs.declared.command.Status.TheVariants as status
use Rattle.reg_core.specs.declared.memory.Memory.{Memory as NoMemory}
use Rattle.reg_core.specs.declared.refusal.Fault.{Fault}
use Rattle.reg_core.specs.declared.refusal.Fault.TheVariants.{Refused}
use Rattle.reg_core.specs.declared.refusal.Refusal.{Refusal}
use Rattle.reg_core.specs.declared.refusal.Refusal.TheVariants as refused
use Rattle.reg_lines.specs.Accepted.{IsAccepted, GivesReason}
use Rattle.reg_lines.specs.Answer.{ComesTo, OfficeAnswers, IsReplyOf, LineComesTo, OcspLineComesTo, accepts, refused_of, reply_of}
use Rattle.reg_lines.specs.ByCalls.{Call}
use Rattle.reg_lines.specs.Meaning.{Meaning, means_command, means_query, is_ocsp_line}
use Rattle.reg_lines.specs.Replies.{line_of_status, listing_by, listing_line, next_crl_line, outcome_line, overdue_line, reply_line, with_lf, counts_line}
use Rattle.reg_lines.specs.declared.answered.OcspReply.{OcspReply}
use Rattle.reg_lines.specs.declared.answered.Answered.{Answered}
use Rattle.reg_lines.specs.declared.answered.Answered.TheVariants.{Completed, Response}
use Rattle.reg_lines.specs.declared.answered.LineKind.{LineKind}
use Rattle.reg_lines.specs.declared.answered.LineKind.TheVariants.{Nothing, Command, Query}

-- where a command was refused, the reply tells why
pub gives_reason : (answered : Answered) → GivesReason (refused_of answered) (reply_of answered)
unfolding outcome_line fault_line
gives_reason (Completed (Command command) (Err (Refused why))) = refl
gives_reason (Completed (Command command) (Err other)) = tt
gives_reason (Completed (Command command) (Ok reply)) = tt
gives_reason (Completed what outcome) = tt
gives_reason (Response reply) = tt

-- ---- the first byte of a reply

-- a text whose first byte is a later letter than b, and one whose first byte is E or F
later_accepted : (text : List ℕ) → 98 < get_or text 0 0 → IsAccepted text
later_accepted [] later = tt
later_accepted (first ∷ rest) later = ((λ is. omega (arith, is)), (λ is. omega (arith, is)), (λ is. omega (arith, is)))

pub first_refused : (text : List ℕ) → (get_or text 0 0 ≡ 69) ⊎ (get_or text 0 0 ≡ 70) → ¬ IsAccepted text
first_refused [] (inl is) accepted = absurd (omega (arith, is))
first_refused [] (inr is) accepted = absurd (omega (arith, is))
first_refused (first ∷ rest) (inl is) accepted = accepted.0 is
first_refused (first ∷ rest) (inr is) accepted = accepted.1 is

-- the line of a refusal begins with E
refusal_begins : (refusal : Refusal) → get_or (with_lf (refusal_line refusal)) 0 0 ≡ 69
unfolding with_lf refusal_line
refusal_begins refused.ClockEnd = refl
refusal_begins other = refl

-- and that of another fault with F
pub fault_begins
    : (fault : Fault)
    → (get_or (with_lf (outcome_line (Err fault))) 0 0 ≡ 69) ⊎ (get_or (with_lf (outcome_line (Err fault))) 0 0 ≡ 70)
unfolding with_lf outcome_line fault_line
fault_begins (Refused refusal) = inl (refusal_begins refusal)
fault_begins other = inr refl

listing_begins : (first : ℕ) (more : Option ℕ) → 98 < get_or (with_lf (listing_by first more)) 0 0
unfolding with_lf listing_by
listing_begins first None = lit< tt
listing_begins first (Some last) = lit< tt

-- that of any reply begins with a later letter than b
reply_begins : (reply : Reply) → 98 < get_or (with_lf (outcome_line (Ok reply))) 0 0
unfolding with_lf outcome_line reply_line line_of_status listing_line counts_line overdue_line next_crl_line
reply_begins (reply.Revoked true) = lit< tt
reply_begins (reply.Revoked false) = lit< tt
reply_begins (reply.Status (status.Revoked at reason)) = lit< tt
reply_begins (reply.Status other) = lit< tt
reply_begins (reply.Listing None) = lit< tt
reply_begins (reply.Listing (Some listing)) = listing_begins listing.first listing.last
reply_begins (reply.Overdue None) = lit< tt
reply_begins (reply.Overdue (Some overdue)) = lit< tt
reply_begins (reply.NextCrl None) = lit< tt
reply_begins (reply.NextCrl (Some moment)) = lit< tt
reply_begins other = lit< tt

-- ---- what a line comes to

-- it is neither a refusal nor a fault exactly where its reply is accepted
abbrev Agrees : Answered → Type 0
Agrees answered = IsTrue (accepts answered) ↔ IsAccepted (reply_of answered)

pub outcome_agrees : (what : LineKind) (outcome : Result Reply Fault) → Agrees (Completed what outcome)
outcome_agrees what (Ok reply) = ((λ accepted. later_accepted _ (reply_begins reply)), (λ accepted. refl))
outcome_agrees what (Err fault) = ((λ accepted. absurd (false≢true accepted)), (λ accepted. absurd (first_refused _ (fault_begins fault) accepted)))

response_agrees : (response : List ℕ) (reply : OcspReply) → IsReplyOf response reply → Agrees (Response reply)
unfolding with_lf
response_agrees response reply is =
    ((λ accepted. subst IsAccepted (sym is.line) (later_accepted (with_lf (codes "ocsp " ++ encode_lower response)) (lit< tt))), (λ accepted. refl))

given_agrees : (given : Result (List ℕ) NoMemory) (answered : Answered) → OcspLineComesTo given answered → Agrees answered
given_agrees given (Completed what outcome) given_so = outcome_agrees what outcome
given_agrees (Ok response) (Response reply) given_so = response_agrees response reply given_so
given_agrees (Err memory) (Response reply) given_so = absurd given_so

module _ {S : Type 0} (answers : S → ℕ → Call → S → Type 0) where
  asked_agrees : (now : ℕ) (s : S) (meaning : Meaning) (answered : Answered) (t : S) → OfficeAnswers answers now s meaning answered t → Agrees answered
  asked_agrees now s (means_command command) answered t (outcome, did, is) = subst Agrees (sym is) (outcome_agrees (Command command) outcome)
  asked_agrees now s (means_query query) answered t (outcome, did, is) = subst Agrees (sym is) (outcome_agrees (Query query) outcome)
  asked_agrees now s (is_ocsp_line request) answered t (given, did, given_so) = given_agrees given answered given_so

  comes_agrees : (now : ℕ) (s : S) (line : List ℕ) (answered : Answered) (t : S) → ComesTo answers now s line answered t → Agrees answered
  comes_agrees now s line answered t (inl (meaning, means, did)) = asked_agrees now s meaning answered t did
  comes_agrees now s line answered t (inr (unread, is, same)) = subst Agrees (sym is) (outcome_agrees Nothing (Err (Refused refused.Syntax)))

  pub line_agrees : (clock : ℕ → Type 0) (is_clocked : Bool) (s : S) (line : List ℕ) (answered : Answered) (t : S)
      → LineComesTo answers clock is_clocked s line answered t → Agrees answered
  line_agrees clock true s line answered t (now, at, comes) = comes_agrees now s line answered t comes
  line_agrees clock false s line answered t (inl (now, command, begins, comes)) = comes_agrees now s command answered t comes
  line_agrees clock false s line answered t (inr (unread, is, same)) =
      subst Agrees (sym is) (outcome_agrees Nothing (Err (Refused refused.Syntax)))
