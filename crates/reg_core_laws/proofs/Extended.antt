-- Each command only adds rows, or declines a request.
use Rattle.std.proofs.Common.{◌≡◌, ◌≤◌, ℕ, Bool, true, false, cond, ◌==◌, List, [], ◌∷◌, ◌++◌, map, Option, Some, None, Result, inl, inr, refl, sym, ap, ◌∙◌, arith, append_assoc, append-nil}
use Rattle.reg_core.specs.Changes.{declined_if, touched, with_certificate, with_revocation}
use Rattle.reg_core.specs.Crls.{CertList}
use Rattle.reg_core.specs.Records.{Records, request_in}
use Rattle.reg_core.specs.Step.{changed, is_repeat, revocation_row}
use Rattle.reg_core.specs.declared.rows.RequestRow.{RequestRow}
use Rattle.reg_core.specs.declared.command.Command.{Command}
use Rattle.reg_core.specs.declared.command.Command.TheVariants.{Subscriber, Order, Register, Request, Decline, Revoke, Crl as IssueCrl}
use Rattle.reg_core.specs.declared.command.Reply.{Reply}
use Rattle.reg_core.specs.declared.refusal.Fault.{Fault}
use Rattle.reg_core_laws.specs.Extends.{Extends, IsSameRequest, OnlyAdded, OnlyAddedOrDeclined, RunsExtend}
use Rattle.reg_core_laws.specs.Run.{Happens}
use Rattle.reg_core_laws.proofs.Accepted.{accepted_clock}
use Rattle.reg_core_laws.proofs.Outcomes.{by_outcome}

-- LISTS

none_added : {Row : Type 0} (rows : List Row) → OnlyAdded rows rows
none_added rows = ([], sym (append-nil rows))

added_on : {Row : Type 0} (rows between after : List Row) → OnlyAdded rows between → OnlyAdded between after → OnlyAdded rows after
added_on rows between after first second =
    (first.0 ++ second.0, second.1 ∙ ap (λ front. front ++ second.0) first.1 ∙ append_assoc rows first.0 second.0)

same_request_on : (row between after : RequestRow) → IsSameRequest row between → IsSameRequest between after → IsSameRequest row after
same_request_on row between after (inl same) second = rw same at second
same_request_on row between after (inr declined) (inl same) = inr (same ∙ declined)
same_request_on row between after (inr declined) (inr again) = inr (rw declined at again)

-- the same requests, and more of them
requests_stay : (rows more : List RequestRow) → OnlyAddedOrDeclined rows (rows ++ more)
requests_stay [] more = tt
requests_stay (row ∷ rows) more = (inl refl, requests_stay rows more)

none_requested : (rows : List RequestRow) → OnlyAddedOrDeclined rows rows
none_requested [] = tt
none_requested (row ∷ rows) = (inl refl, none_requested rows)

requests_on : (rows between after : List RequestRow) → OnlyAddedOrDeclined rows between → OnlyAddedOrDeclined between after → OnlyAddedOrDeclined rows after
requests_on [] between after first second = tt
requests_on (row ∷ rows) [] after first second = absurd first
requests_on (row ∷ rows) (next ∷ others) [] first second = absurd second
requests_on (row ∷ rows) (next ∷ others) (last ∷ rest) first second =
    (same_request_on row next last first.0 second.0, requests_on rows others rest first.1 second.1)

-- a row is the same request if it is declined
declined_same : (id : ℕ) (row : RequestRow) → IsSameRequest row (declined_if id row)
declined_same id row = by_test (row.id == id)
  where
    by_test : (is : Bool) → IsSameRequest row (cond is (record row { declined = true }) row)
    by_test true = inr refl
    by_test false = inl refl

one_declined : (id : ℕ) (rows : List RequestRow) → OnlyAddedOrDeclined rows (map (declined_if id) rows)
one_declined id [] = tt
one_declined id (row ∷ rows) = (declined_same id row, one_declined id rows)

-- RECORDS

extends_none : (records : Records) → Extends records records
extends_none records = record {
  issuer = refl;
  policy = refl;
  last = omega arith;
  subscribers = none_added records.subscribers;
  orders = none_added records.orders;
  certificates = none_added records.certificates;
  requests = none_requested records.requests;
  revocations = none_added records.revocations;
  crls = none_added records.crls;
}

pub extends_on : (before between after : Records) → Extends before between → Extends between after → Extends before after
extends_on before between after first second = record {
  issuer = second.issuer ∙ first.issuer;
  policy = second.policy ∙ first.policy;
  last = omega (arith, first.last, second.last);
  subscribers = added_on _ _ _ first.subscribers second.subscribers;
  orders = added_on _ _ _ first.orders second.orders;
  certificates = added_on _ _ _ first.certificates second.certificates;
  requests = requests_on _ _ _ first.requests second.requests;
  revocations = added_on _ _ _ first.revocations second.revocations;
  crls = added_on _ _ _ first.crls second.crls;
}

-- the same issuer and policy, a later last moment, and each list with more rows
more_rows : (records after : Records) → after.issuer ≡ records.issuer → after.policy ≡ records.policy → records.last ≤ after.last
    → OnlyAdded records.subscribers after.subscribers → OnlyAdded records.orders after.orders → OnlyAdded records.certificates after.certificates
    → OnlyAddedOrDeclined records.requests after.requests → OnlyAdded records.revocations after.revocations → OnlyAdded records.crls after.crls
    → Extends records after
more_rows records after issuer policy last subscribers orders certificates requests revocations crls = record {
  issuer = issuer;
  policy = policy;
  last = last;
  subscribers = subscribers;
  orders = orders;
  certificates = certificates;
  requests = requests;
  revocations = revocations;
  crls = crls;
}

-- an accepted command extends the records
changed_extends : (records : Records) (now : ℕ) (command : Command) (bytes : List ℕ) → records.last ≤ now
    → Extends records (changed records now command bytes)
changed_extends records now (Subscriber name) bytes clock =
    more_rows records _ refl refl clock (_, refl) (none_added _) (none_added _) (none_requested _) (none_added _) (none_added _)
changed_extends records now (Order subscriber days) bytes clock =
    more_rows records _ refl refl clock (none_added _) (_, refl) (none_added _) (none_requested _) (none_added _) (none_added _)
changed_extends records now (Register order serial not_before not_after) bytes clock =
    by_repeat (is_repeat records (Register order serial not_before not_after))
  where
    by_repeat : (repeats : Bool) → Extends records (cond repeats (touched records now)
        (with_certificate records now (record { serial = serial; order = order; not_before = not_before; not_after = not_after })))
    by_repeat true = more_rows records _ refl refl clock (none_added _) (none_added _) (none_added _) (none_requested _) (none_added _) (none_added _)
    by_repeat false = more_rows records _ refl refl clock (none_added _) (none_added _) (_, refl) (none_requested _) (none_added _) (none_added _)
changed_extends records now (Request serial word) bytes clock =
    more_rows records _ refl refl clock (none_added _) (none_added _) (none_added _) (requests_stay _ _) (none_added _) (none_added _)
changed_extends records now (Decline id) bytes clock =
    more_rows records _ refl refl clock (none_added _) (none_added _) (none_added _) (one_declined id _) (none_added _) (none_added _)
changed_extends records now (Revoke id) bytes clock = by_request (request_in records.requests id) refl
  where
    by_request : (found : Option RequestRow) → request_in records.requests id ≡ found → Extends records (changed records now (Revoke id) bytes)
    by_request (Some request) is =
        rw is (more_rows records (with_revocation records now (revocation_row records now request)) refl refl clock
        (none_added _) (none_added _) (none_added _) (none_requested _) (_, refl) (none_added _))
    by_request None is =
        rw is (more_rows records (touched records now) refl refl clock (none_added _) (none_added _) (none_added _) (none_requested _) (none_added _) (none_added _))
changed_extends records now IssueCrl bytes clock =
    more_rows records _ refl refl clock (none_added _) (none_added _) (none_added _) (none_requested _) (none_added _) (_, refl)

-- each outcome of a command extends the records
pub step_extends : (signed : CertList → List ℕ → Type 0) (records : Records) (now : ℕ) (command : Command) (outcome : Result Reply Fault) (after : Records)
    → Happens signed records now command outcome after → Extends records after
step_extends signed records now command outcome after happens =
    by_outcome signed records now command (λ result next. Extends records next) (λ fault. extends_none records)
    (λ bytes none over. changed_extends records now command bytes (accepted_clock records now command none).not_back) outcome after happens

pub runs_extend : (signed : CertList → List ℕ → Type 0) → RunsExtend signed
runs_extend signed records after [] [] run = rw run (extends_none records)
runs_extend signed records after [] (outcome ∷ outcomes) run = absurd run
runs_extend signed records after (timed ∷ commands) [] run = absurd run
runs_extend signed records after (timed ∷ commands) (outcome ∷ outcomes) run =
    extends_on records run.0 after (step_extends signed records timed.0 timed.1 outcome run.0 run.1) (runs_extend signed run.0 after commands outcomes run.2)
