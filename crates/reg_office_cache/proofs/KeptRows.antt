-- What the calls of an office do to the undecided requests.
use Rattle.std.proofs.Common.{◌≡◌, ◌+◌, ◌==◌, ◌++◌, ◌∷◌, ◌||◌, [], ℕ, Bool, true, false, not, cond, List, length, Option, Some, None, Result, Ok, Err, refl, sym, ap, subst, ◌∙◌, arith, inl, inr, append_assoc, append-nil, length-append}
use Rattle.std.specs.List.{filter}
use Rattle.std.proofs.lemmas.Bool.{cases_Bool, ne_eqb, true≢false}
use Rattle.reg_core.specs.Changes.{touched, with_certificate}
use Rattle.reg_core.specs.Crls.{CertList}
use Rattle.reg_core.specs.Records.{Records, request_in}
use Rattle.reg_core.specs.Step.{changed, is_repeat}
use Rattle.reg_core.specs.declared.command.Command.{Command}
use Rattle.reg_core.specs.declared.command.Command.TheVariants.{Subscriber, Order, Register, Request, Decline, Revoke, Crl as IssueCrl}
use Rattle.reg_core.specs.declared.command.Reply.{Reply}
use Rattle.reg_core.specs.declared.refusal.Fault.{Fault}
use Rattle.reg_core.specs.declared.rows.RequestRow.{RequestRow}
use Rattle.reg_core_laws.specs.Extends.{OnlyAdded}
use Rattle.reg_core_laws.specs.Run.{Happens, Run}
use Rattle.reg_core_laws.proofs.PublicLaws.{Changes, Outcome, Stays, outcome_of}
use Rattle.reg_core_lists.specs.declared.feed_reader.ReceivedPage.{ReceivedPage}
use Rattle.reg_office_api.specs.Follows.{AddsRows, RequestEvent, declined_requests, entered_requests, page_rows, requests_after, request_event, decline_event}
use Rattle.reg_office_cache.specs.Declining.{has_decline, has_declined_rows, is_decline}
use Rattle.reg_office_cache.specs.Undecided.{AreUndecided}
use Rattle.reg_office_cache.specs.declared.undecided.UndecidedRequests.{UndecidedRequests}
use Rattle.reg_office_cache.proofs.UndecidedRows.{declined_kept, none_kept, stays_kept}

-- requests, certificates and revocations were only added
pub record OnlyAdds (before after : Records) : Type 0 where
  pub certificates : OnlyAdded before.certificates after.certificates
  pub requests : OnlyAdded before.requests after.requests
  pub revocations : OnlyAdded before.revocations after.revocations

no_more : {Row : Type 0} (rows : List Row) → OnlyAdded rows rows
no_more rows = ([], sym (append-nil rows))

more_on : {Row : Type 0} (rows between after : List Row) → OnlyAdded rows between → OnlyAdded between after → OnlyAdded rows after
more_on rows between after first second = (first.0 ++ second.0, second.1 ∙ ap (λ front. front ++ second.0) first.1 ∙ append_assoc rows first.0 second.0)

adds_none : (records : Records) → OnlyAdds records records
adds_none records = record { certificates = no_more _; requests = no_more _; revocations = no_more _ }

adds_on : (before between after : Records) → OnlyAdds before between → OnlyAdds between after → OnlyAdds before after
adds_on before between after first second = record {
  certificates = more_on _ _ _ first.certificates second.certificates;
  requests = more_on _ _ _ first.requests second.requests;
  revocations = more_on _ _ _ first.revocations second.revocations;
}

only_adds : (before after : Records) (known : UndecidedRequests) → OnlyAdds before after → AreUndecided before known → AreUndecided after known
only_adds before after known adds are = stays_kept before after known adds.certificates adds.requests adds.revocations are

-- an accepted command that is no decline only adds
changed_adds : (records : Records) (now : ℕ) (command : Command) (bytes : List ℕ) → is_decline command ≡ false → OnlyAdds records (changed records now command bytes)
changed_adds records now (Subscriber name) bytes other = record { certificates = no_more _; requests = no_more _; revocations = no_more _ }
changed_adds records now (Order subscriber days) bytes other = record { certificates = no_more _; requests = no_more _; revocations = no_more _ }
changed_adds records now (Register order serial not_before not_after) bytes other = by_repeat (is_repeat records (Register order serial not_before not_after))
  where
    by_repeat : (repeats : Bool) → OnlyAdds records (cond repeats (touched records now)
        (with_certificate records now (record { serial = serial; order = order; not_before = not_before; not_after = not_after })))
    by_repeat true = record { certificates = no_more _; requests = no_more _; revocations = no_more _ }
    by_repeat false = record { certificates = (_, refl); requests = no_more _; revocations = no_more _ }
changed_adds records now (Request serial word) bytes other = record { certificates = no_more _; requests = (_, refl); revocations = no_more _ }
changed_adds records now (Decline id) bytes other = absurd (cc)
changed_adds records now (Revoke id) bytes other = by_request (request_in records.requests id) refl
  where
    by_request : (found : Option RequestRow) → request_in records.requests id ≡ found → OnlyAdds records (changed records now (Revoke id) bytes)
    by_request (Some request) is = rw is (record { certificates = no_more _; requests = no_more _; revocations = (_, refl) })
    by_request None is = rw is (record { certificates = no_more _; requests = no_more _; revocations = no_more _ })
changed_adds records now IssueCrl bytes other = record { certificates = no_more _; requests = no_more _; revocations = no_more _ }

step_adds : (signed : CertList → List ℕ → Type 0) (records : Records) (now : ℕ) (command : Command) (outcome : Result Reply Fault) (after : Records)
    → is_decline command ≡ false → Happens signed records now command outcome after → OnlyAdds records after
step_adds signed records now command outcome after other happens = go (outcome_of signed records now command outcome after happens)
  where
    go : Outcome signed records now command outcome after → OnlyAdds records after
    go (Stays fault is same) = rw same (adds_none records)
    go (Changes bytes none is over made) = rw made (changed_adds records now command bytes other)

pub run_adds : (signed : CertList → List ℕ → Type 0) (records : Records) (commands : List (ℕ × Command)) (outcomes : List (Result Reply Fault)) (after : Records)
    → has_decline commands ≡ false → Run signed records commands outcomes after → OnlyAdds records after
run_adds signed records [] [] after none run = rw run (adds_none records)
run_adds signed records [] (outcome ∷ outcomes) after none run = absurd run
run_adds signed records (timed ∷ commands) [] after none run = absurd run
run_adds signed records (timed ∷ commands) (outcome ∷ outcomes) after none run =
    let (first, rest) = neither (is_decline timed.1) (has_decline commands) none in
    adds_on records run.0 after (step_adds signed records timed.0 timed.1 outcome run.0 first run.1) (run_adds signed run.0 commands outcomes after rest run.2)
  where
    neither : (a b : Bool) → (a || b) ≡ false → (a ≡ false) × (b ≡ false)
    neither true b none = absurd (cc)
    neither false b none = (refl, none)

-- a command that is no decline
pub command_kept : (signed : CertList → List ℕ → Type 0) (before after : Records) (now : ℕ) (command : Command) (outcome : Result Reply Fault) (known : UndecidedRequests)
    → is_decline command ≡ false → Happens signed before now command outcome after → AreUndecided before known → AreUndecided after known
command_kept signed before after now command outcome known other happens are = only_adds before after known (step_adds signed before now command outcome after other happens) are

pub other_command : (command : Command) → ((id : ℕ) → command ≡ Decline id → ⊥) → is_decline command ≡ false
other_command (Decline id) other = absurd (other id refl)
other_command (Subscriber name) other = refl
other_command (Order subscriber days) other = refl
other_command (Register order serial not_before not_after) other = refl
other_command (Request serial word) other = refl
other_command (Revoke id) other = refl
other_command IssueCrl other = refl

-- a command that fails
pub fault_kept : (signed : CertList → List ℕ → Type 0) (before after : Records) (now : ℕ) (command : Command) (fault : Fault) (known : UndecidedRequests)
    → Happens signed before now command (Err fault) after → AreUndecided before known → AreUndecided after known
fault_kept signed before after now command fault known happens are = go (outcome_of signed before now command (Err fault) after happens)
  where
    go : Outcome signed before now command (Err fault) after → AreUndecided after known
    go (Stays why is same) = subst (λ (records : Records). AreUndecided records known) (sym same) are
    go (Changes bytes none is over made) = absurd (cc)

-- a decline
pub decline_kept : (signed : CertList → List ℕ → Type 0) (before after : Records) (now id : ℕ) (reply : Reply) (old new : UndecidedRequests)
    → Happens signed before now (Decline id) (Ok reply) after
    → new.rows.items ≡ filter (λ row. not (row.request.id == id)) old.rows.items → new.requests ≡ old.requests → new.revocations ≡ old.revocations
    → AreUndecided before old → AreUndecided after new
decline_kept signed before after now id reply old new happens rows requests revocations are = go (outcome_of signed before now (Decline id) (Ok reply) after happens)
  where
    go : Outcome signed before now (Decline id) (Ok reply) after → AreUndecided after new
    go (Stays why is same) = absurd (cc)
    go (Changes bytes none is over made) = rw made (declined_kept before (changed before now (Decline id) bytes) old new id refl refl refl rows requests revocations are)

-- commands, of which none is a decline, or after which nothing is kept
pub run_kept : (signed : CertList → List ℕ → Type 0) (before after : Records) (commands : List (ℕ × Command)) (outcomes : List (Result Reply Fault)) (known : UndecidedRequests)
    → has_decline commands ≡ false → Run signed before commands outcomes after → AreUndecided before known → AreUndecided after known
run_kept signed before after commands outcomes known none run are = only_adds before after known (run_adds signed before commands outcomes after none run) are

-- ---- pages of another register's feed

no_declines_in : (events : List RequestEvent) (rows : List RequestRow) → declined_requests events ≡ [] → requests_after events rows ≡ rows ++ entered_requests events
no_declines_in [] rows none = sym (append-nil rows)
no_declines_in (request_event row ∷ events) rows none = no_declines_in events (rows ++ row ∷ []) none ∙ append_assoc rows (row ∷ []) (entered_requests events)
no_declines_in (decline_event id ∷ events) rows none = absurd (cc)

no_ids_in : (pages : List ReceivedPage) → has_declined_rows pages ≡ false → page_rows (λ rows. rows.declined) pages ≡ []
no_ids_in [] none = refl
no_ids_in (page ∷ pages) none = by_ids page.rows.declined.items (neither _ _ none) (no_ids_in pages)
  where
    neither : (a b : Bool) → (a || b) ≡ false → (a ≡ false) × (b ≡ false)
    neither true b none = absurd (cc)
    neither false b none = (refl, none)

    by_ids : (ids : List ℕ) → (not (length ids == 0) ≡ false) × (has_declined_rows pages ≡ false)
        → (has_declined_rows pages ≡ false → page_rows (λ rows. rows.declined) pages ≡ []) → ids ++ page_rows (λ rows. rows.declined) pages ≡ []
    by_ids [] none rest = rest none.1
    by_ids (id ∷ ids) none rest =
        let some : (length (id ∷ ids) == 0) ≡ false = ne_eqb (length (id ∷ ids)) 0 (λ is. omega (arith, is)) in
        absurd (true≢false (sym (ap not some) ∙ none.0))

pub pages_kept : (pages : List ReceivedPage) (before after : Records) (known : UndecidedRequests) → has_declined_rows pages ≡ false → AddsRows pages before after
    → AreUndecided before known → AreUndecided after known
pages_kept pages before after known none adds are =
    let requests : OnlyAdded before.requests after.requests = (
      entered_requests adds.requests.events,
      adds.requests.reached ∙ no_declines_in adds.requests.events before.requests (adds.requests.declined ∙ no_ids_in pages none),
    ) in
    stays_kept before after known (_, adds.certificates) requests (_, adds.revocations) are

-- no command takes a revocation away
step_revocations : (signed : CertList → List ℕ → Type 0) (records : Records) (now : ℕ) (command : Command) (outcome : Result Reply Fault) (after : Records)
    → Happens signed records now command outcome after → OnlyAdded records.revocations after.revocations
step_revocations signed records now command outcome after happens = elim (cases_Bool (is_decline command)) [
  | inl declines ↦ go (outcome_of signed records now command outcome after happens) (declined_revocations command declines)
  | inr other ↦ (step_adds signed records now command outcome after other happens).revocations
]
  where
    declined_revocations : (it : Command) → is_decline it ≡ true → (bytes : List ℕ) → OnlyAdded records.revocations (changed records now it bytes).revocations
    declined_revocations (Decline id) is bytes = no_more records.revocations
    declined_revocations (Subscriber name) is bytes = absurd (cc)
    declined_revocations (Order subscriber days) is bytes = absurd (cc)
    declined_revocations (Register order serial not_before not_after) is bytes = absurd (cc)
    declined_revocations (Request serial word) is bytes = absurd (cc)
    declined_revocations (Revoke id) is bytes = absurd (cc)
    declined_revocations IssueCrl is bytes = absurd (cc)

    go : Outcome signed records now command outcome after → ((bytes : List ℕ) → OnlyAdded records.revocations (changed records now command bytes).revocations) → OnlyAdded records.revocations after.revocations
    go (Stays fault is same) made = rw same (no_more records.revocations)
    go (Changes bytes none is over are) made = rw are (made bytes)

run_revocations : (signed : CertList → List ℕ → Type 0) (records : Records) (commands : List (ℕ × Command)) (outcomes : List (Result Reply Fault)) (after : Records)
    → Run signed records commands outcomes after → OnlyAdded records.revocations after.revocations
run_revocations signed records [] [] after run = rw run (no_more records.revocations)
run_revocations signed records [] (outcome ∷ outcomes) after run = absurd run
run_revocations signed records (timed ∷ commands) [] after run = absurd run
run_revocations signed records (timed ∷ commands) (outcome ∷ outcomes) after run =
    more_on _ _ _ (step_revocations signed records timed.0 timed.1 outcome run.0 run.1) (run_revocations signed run.0 commands outcomes after run.2)

-- after `forget`
pub run_none : (signed : CertList → List ℕ → Type 0) (before after : Records) (commands : List (ℕ × Command)) (outcomes : List (Result Reply Fault)) (old new : UndecidedRequests)
    → new.rows.items ≡ [] → new.requests ≡ 0 → new.revocations ≡ old.revocations → Run signed before commands outcomes after → AreUndecided before old → AreUndecided after new
run_none signed before after commands outcomes old new rows requests revocations run are =
    let grows = run_revocations signed before commands outcomes after run in
    none_kept after new (omega (arith, are.revocations, revocations, ap length grows.1, length-append before.revocations grows.0)) requests rows

pub pages_none : (pages : List ReceivedPage) (before after : Records) (old new : UndecidedRequests) → new.rows.items ≡ [] → new.requests ≡ 0
    → new.revocations ≡ old.revocations → AddsRows pages before after → AreUndecided before old → AreUndecided after new
pages_none pages before after old new rows requests revocations adds are =
    none_kept after new (omega (arith, are.revocations, revocations, ap length adds.revocations, length-append before.revocations (page_rows (λ those. those.revocations) pages))) requests rows
