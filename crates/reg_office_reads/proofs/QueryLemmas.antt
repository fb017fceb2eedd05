-- Queries that are answered.
use Rattle.std.specs.Prelude.{⊤, IfErr, IsSome, nat_le, nat_lt}
use Rattle.std.proofs.Common.{◌≡◌, ◌≤◌, ◌<◌, ℕ, Bool, true, false, List, [], ◌∷◌, ◌++◌, Option, None, Some, Result, Ok, Err, refl, sym, ap, subst, ◌∙◌, arith}
use Rattle.std.proofs.lemmas.Bool.Decides.{nat_tests}
use Rattle.sqlite_trees.specs.declared.store.Store.{Ghosts}
use Rattle.sqlite.specs.Held.{Held}
use Rattle.reg_core.specs.Checks.{clock_end, clock_checks, first_refusal, refused_if, refused_if_none}
use Rattle.reg_core.specs.Decisions.{IsDecidedBy, refused_or}
use Rattle.reg_core.specs.Queries.{query_checks, query_reply}
use Rattle.reg_core.specs.Records.{Records, certificate_in}
use Rattle.reg_core.specs.declared.command.Query.{Query}
use Rattle.reg_core.specs.declared.command.Query.TheVariants.{Listing as AskListing}
use Rattle.reg_core.specs.declared.command.Reply.{Reply}
use Rattle.reg_core.specs.declared.refusal.Refusal.{Refusal}
use Rattle.reg_core.specs.declared.refusal.Refusal.TheVariants.{ClockEnd, ClockBack, UnknownSerial}
use Rattle.reg_core.specs.declared.refusal.Fault.{Fault}
use Rattle.reg_core.specs.declared.refusal.Fault.TheVariants.{Refused, Memory, Store, Signer, Read, Write}
use Rattle.reg_core_laws.proofs.PublicLaws.{says}
use Rattle.reg_office_api.specs.Answered.{IsAnswered}
use Rattle.reg_store_tables.proofs.PublicLaws.{and_so, so}
use Rattle.reg_office_reads.specs.Faults.{IsTableFault}
use Rattle.reg_store_tables.specs.LookUps.{LooksUp}
use Rattle.reg_office_reads.specs.Looking.{IsDecidedOr, LooksAndDecides}
use Rattle.reg_office_reads.proofs.Looking.{decided_for}

-- no check of the first ones applies: the first of the others
first_none :
    (checks own : List (Option Refusal))
    → first_refusal checks ≡ None → first_refusal (checks ++ own) ≡ first_refusal own
first_none [] own e = refl
first_none (None ∷ rest) own e = first_none rest own e
first_none (Some why ∷ rest) own e = absurd (let bad : ⊥ = cc in bad)

-- one of them applies
first_some :
    (checks own : List (Option Refusal)) (why : Refusal)
    → first_refusal checks ≡ Some why → first_refusal (checks ++ own) ≡ Some why
first_some [] own why e = absurd (let bad : ⊥ = cc in bad)
first_some (None ∷ rest) own why e = first_some rest own why e
first_some (Some first ∷ rest) own why e = e

-- the clock lets the moment pass
abbrev pub Passes : ℕ → ℕ → Type 0
Passes now last = first_refusal (clock_checks now last) ≡ None

pub passes :
    (now last known : ℕ) (answered : Unit {0})
    → last ≡ known → IsDecidedBy (first_refusal (clock_checks now last)) (λ (u : Unit {0}). ⊤) (Ok answered) → Passes now known
passes now last known answered same decides =
    (says (first_refusal (clock_checks now known)) (λ (u : Unit {0}). ⊤) (Ok answered)
    (subst (λ n. IsDecidedBy (first_refusal (clock_checks now n)) (λ (u : Unit {0}). ⊤) (Ok answered)) same decides)).0

back_false : (end back : Bool) (last : ℕ) → first_refusal (refused_if end ClockEnd ∷ refused_if back (ClockBack last) ∷ []) ≡ None → back ≡ false
back_false true back last e = absurd (let bad : ⊥ = cc in bad)
back_false false true last e = absurd (let bad : ⊥ = cc in bad)
back_false false false last e = refl

-- so it is not before the last accepted one
pub not_back : (now last : ℕ) → Passes now last → last ≤ now
not_back now last e = let test : nat_lt now last ≡ false = back_false (nat_le clock_end now) (nat_lt now last) last e in grind (arith, nat_tests)

-- the clock refuses a moment
pub clock_refuses : (now last known : ℕ) (why : Refusal)
    → last ≡ known → IsDecidedBy (first_refusal (clock_checks now last)) (λ (u : Unit {0}). ⊤) (Err why) → first_refusal (clock_checks now known) ≡ Some why
clock_refuses now last known why same decides =
    says (first_refusal (clock_checks now known)) (λ (u : Unit {0}). ⊤) (Err why)
    (subst (λ n. IsDecidedBy (first_refusal (clock_checks now n)) (λ (u : Unit {0}). ⊤) (Err why)) same decides)

-- and so a query
pub refused_by_clock :
    (records : Records) (now last : ℕ) (query : Query) (why : Refusal)
    → last ≡ records.last → IsDecidedBy (first_refusal (clock_checks now last)) (λ (u : Unit {0}). ⊤) (Err why)
    → first_refusal (clock_checks now records.last ++ query_checks records query) ≡ Some why
refused_by_clock records now last query why same decides =
    first_some (clock_checks now records.last) (query_checks records query) why (clock_refuses now last records.last why same decides)

-- a listing is asked for of a serial number that is registered, or of one that is not
pub known_serial : (records : Records) (serial : ℕ) → IsSome (certificate_in records.certificates serial) → first_refusal (query_checks records (AskListing serial)) ≡ None
known_serial records serial known = go (certificate_in records.certificates serial) known
  where
    go : {Row : Type 0} (o : Option Row) → IsSome o → first_refusal (refused_if_none o UnknownSerial ∷ []) ≡ None
    go None some = absurd (let bad : ⊥ = cc in bad)
    go (Some row) some = refl

pub unknown_serial : (records : Records) (serial : ℕ) → certificate_in records.certificates serial ≡ None → first_refusal (query_checks records (AskListing serial)) ≡ Some UnknownSerial
unknown_serial records serial unknown = ap (λ o. first_refusal (refused_if_none o UnknownSerial ∷ [])) unknown

-- nothing refuses a query, which is answered so
abbrev IsReply : Records → ℕ → Query → Reply → Type 0
IsReply records now query reply = (first_refusal (query_checks records query) ≡ None) × (query_reply records now query ≡ reply)

module _ {C : Type 0} {g : Ghosts C} {a b : Held C} (query asked : Query) (same : query ≡ asked) where
  pub replied : {now : ℕ} {reply : Reply}
      → LooksUp g a b (λ records. records.last ≤ now → IsReply records now asked reply)
      → LooksAndDecides g a b (λ records. first_refusal (query_checks records query)) (λ records reply. records.last ≤ now → IsReply records now query reply) (Ok reply)
  replied {now = now} {reply = reply} looks =
      decided_for reply (so looks (λ records sound it before. subst (λ (q : Query). IsReply records now q reply) (sym same) (it before)))

  pub asked_as : {T : Type 0} {What : Records → T → Type 0} {outcome : Result T Fault}
      → LooksAndDecides g a b (λ records. first_refusal (query_checks records asked)) What outcome
      → LooksAndDecides g a b (λ records. first_refusal (query_checks records query)) What outcome
  asked_as {What = What} {outcome = outcome} decides =
      subst (λ (q : Query). LooksAndDecides g a b (λ records. first_refusal (query_checks records q)) What outcome) (sym same) decides

-- what a query comes to at a moment that the clock takes
pub after_clock : {C : Type 0} {g : Ghosts C} {a b c : Held C} (now : ℕ) (query : Query) (outcome : Result Reply Fault)
    → LooksUp g a b (λ records. Passes now records.last)
    → LooksAndDecides g b c (λ records. first_refusal (query_checks records query)) (λ records reply. records.last ≤ now → IsReply records now query reply) outcome
    → LooksAndDecides g a c (λ records. first_refusal (clock_checks now records.last ++ query_checks records query))
    (λ records reply. (first_refusal (clock_checks now records.last ++ query_checks records query) ≡ None) × (query_reply records now query ≡ reply)) outcome
after_clock now query outcome passed decides = record {
  looks = so (and_so passed decides.looks) (λ records sound it. go records outcome it.0 it.1);
  faults = decides.faults;
}
  where
    go : (records : Records) (outcome : Result Reply Fault) → Passes now records.last
        → IsDecidedOr (first_refusal (query_checks records query)) (λ reply. records.last ≤ now → IsReply records now query reply) outcome
        → IsDecidedOr (first_refusal (clock_checks now records.last ++ query_checks records query))
        (λ reply. (first_refusal (clock_checks now records.last ++ query_checks records query) ≡ None) × (query_reply records now query ≡ reply)) outcome
    go records (Ok reply) clock it =
        let its = it (not_back now records.last clock) in
        (first_none (clock_checks now records.last) (query_checks records query) clock ∙ its.0, its.1)
    go records (Err (Refused why)) clock it = first_none (clock_checks now records.last) (query_checks records query) clock ∙ it
    go records (Err Memory) clock it = tt
    go records (Err Store) clock it = tt
    go records (Err Signer) clock it = tt
    go records (Err Read) clock it = tt
    go records (Err Write) clock it = tt

-- that is what it is answered
pub is_answered : (records : Records) (now : ℕ) (query : Query) (outcome : Result Reply Fault) → now < clock_end → IfErr outcome IsTableFault
    → IsDecidedOr (first_refusal (clock_checks now records.last ++ query_checks records query))
    (λ reply. (first_refusal (clock_checks now records.last ++ query_checks records query) ≡ None) × (query_reply records now query ≡ reply)) outcome
    → IsAnswered records now query outcome
is_answered records now query (Ok reply) below is it = ap (λ o. refused_or o (query_reply records now query)) it.0 ∙ ap Ok it.1
is_answered records now query (Err (Refused why)) below is it = ap (λ o. refused_or o (query_reply records now query)) it
is_answered records now query (Err Memory) below is it = below
is_answered records now query (Err Store) below is it = below
is_answered records now query (Err Signer) below is it = absurd is
is_answered records now query (Err Read) below is it = absurd is
is_answered records now query (Err Write) below is it = absurd is
