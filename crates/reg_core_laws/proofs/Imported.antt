-- An import that comes twice adds no certificate the second time.
use Rattle.std.specs.Prelude.{Result, Ok, Err}
use Rattle.std.specs.List.{AllByRecursion, AllZip}
use Rattle.std.proofs.Common.{◌≡◌, ℕ, ◌<◌, ◌≤◌, Bool, true, false, cond, List, [], ◌∷◌, ◌++◌, length, Option, Some, None, refl, sym, ap, ◌∙◌, append_assoc, append-nil, length-append, arith, inl, inr, ◌⊎◌}
use Rattle.std.proofs.lemmas.Bool.Decides.{nat_tests}
use Rattle.reg_core.specs.Checks.{clock_end}
use Rattle.reg_core.specs.Crls.{CertList}
use Rattle.reg_core.specs.Records.{Records}
use Rattle.reg_core.specs.Step.{refusal, reply, changed, is_repeat, same_certificate, IsSigned}
use Rattle.reg_core.specs.declared.rows.CertRow.{CertRow}
use Rattle.reg_core.specs.declared.command.Command.{Command}
use Rattle.reg_core.specs.declared.command.Reply.{Reply}
use Rattle.reg_core.specs.declared.command.Reply.TheVariants.{Registered, Same}
use Rattle.reg_core.specs.declared.refusal.Fault.{Fault}
use Rattle.reg_core.specs.declared.refusal.Fault.TheVariants.{Refused}
use Rattle.reg_core_laws.specs.Import.{register, Imports, IsFault, AnsweredAgain, ImportsTwice}
use Rattle.reg_core_laws.specs.Run.{Happens}
use Rattle.reg_core_laws.proofs.Accepted.{RegisterAccepted, accepted_clock, accepted_register}
use Rattle.reg_core_laws.proofs.CountFacts.{front_none}
use Rattle.reg_core_laws.proofs.Lists.{any_append}
use Rattle.reg_core_laws.proofs.Outcomes.{Outcome, Stays, Changes, outcome_of, by_outcome}

-- LATER RECORDS OF AN IMPORT

-- later records of an import at one moment: certificates are added, and the last accepted moment does not pass it
record Extends (now : ℕ) (earlier later : Records) : Type 0 where
  orders : later.orders ≡ earlier.orders
  policy : later.policy ≡ earlier.policy
  more : List CertRow
  certificates : later.certificates ≡ earlier.certificates ++ more
  not_down : earlier.last ≤ later.last
  within : earlier.last ≤ now → later.last ≤ now

extends_none : (now : ℕ) (records : Records) → Extends now records records
extends_none now records =
    record { orders = refl; policy = refl; more = []; certificates = sym (append-nil records.certificates); not_down = omega arith; within = λ h. h }

extends_on : (now : ℕ) (records between after : Records) → Extends now records between → Extends now between after → Extends now records after
extends_on now records between after first second = record {
  orders = second.orders ∙ first.orders;
  policy = second.policy ∙ first.policy;
  more = first.more ++ second.more;
  certificates = second.certificates ∙ ap (λ rows. rows ++ second.more) first.certificates ∙ append_assoc records.certificates first.more second.more;
  not_down = omega (arith, first.not_down, second.not_down);
  within = λ h. second.within (first.within h);
}

-- whatever comes of a registration leads to such
step_extends : (signed : CertList → List ℕ → Type 0) (records after : Records) (now : ℕ) (row : CertRow) (outcome : Result Reply Fault)
    → Happens signed records now (register row) outcome after → Extends now records after
step_extends signed records after now row outcome happens =
    by_outcome signed records now (register row) (λ result next. Extends now records next) (λ fault. extends_none now records) accepted outcome after happens
  where
    accepted : (bytes : List ℕ) → refusal records now (register row) ≡ None → IsSigned signed records now (register row) bytes
        → Extends now records (changed records now (register row) bytes)
    accepted bytes none over =
        let up : records.last ≤ now = (accepted_clock records now (register row) none).not_back in
        record {
          orders = grind arith;
          policy = grind arith;
          more = cond (is_repeat records (register row)) [] (row ∷ []);
          certificates = grind (arith, append-nil);
          not_down = grind arith;
          within = grind arith;
        }

-- and a whole import
imports_extend : (signed : CertList → List ℕ → Type 0) (records after : Records) (now : ℕ) (rows : List (Option CertRow)) (outcomes : List (Result Reply Fault))
    → Imports signed records now rows outcomes after → Extends now records after
imports_extend signed records after now [] [] imports = rw imports (extends_none now records)
imports_extend signed records after now (None ∷ rows) (outcome ∷ outcomes) imports = imports_extend signed records after now rows outcomes imports.1
imports_extend signed records after now (Some row ∷ rows) (outcome ∷ outcomes) imports =
    extends_on now records imports.0 after (step_extends signed records imports.0 now row outcome imports.1)
    (imports_extend signed imports.0 after now rows outcomes imports.2)
imports_extend signed records after now rows outcomes imports = absurd imports

-- ROWS THAT STAND REGISTERED

-- a certificate that stands registered stands so later
repeat_kept : (now : ℕ) (earlier later : Records) (row : CertRow) → Extends now earlier later → is_repeat earlier (register row) ≡ true
    → is_repeat later (register row) ≡ true
repeat_kept now earlier later row extends stands = rw (extends.certificates, any_append (same_certificate row), stands)

-- an accepted registration stands registered
accepted_stands : (records : Records) (now : ℕ) (row : CertRow) (bytes : List ℕ) → is_repeat (changed records now (register row) bytes) (register row) ≡ true
accepted_stands records now row bytes = grind (arith, nat_tests, any_append (same_certificate row) records.certificates (row ∷ []))

-- on the clock a repeat is accepted
repeat_accepted : (records : Records) (now : ℕ) (row : CertRow) → now < clock_end → records.last ≤ now → is_repeat records (register row) ≡ true
    → refusal records now (register row) ≡ None
repeat_accepted records now row below up stands = grind (arith, nat_tests)

-- a row that passes its checks is accepted
register_passes : (records : Records) (now : ℕ) (row : CertRow) → RegisterAccepted records now row → refusal records now (register row) ≡ None
register_passes records now row is = grind (arith, nat_tests)

-- a row that is registered later would have been accepted before
earlier_accepts : (now : ℕ) (earlier later : Records) (row : CertRow) → Extends now earlier later → refusal later now (register row) ≡ None
    → is_repeat later (register row) ≡ false → refusal earlier now (register row) ≡ None
earlier_accepts now earlier later row extends accepted new = passes (accepted_register later now row.order row.serial row.not_before row.not_after accepted new)
  where
    passes : RegisterAccepted later now row → refusal earlier now (register row) ≡ None
    passes is = register_passes earlier now row (record {
      clock = record { before_end = is.clock.before_end; not_back = omega (arith, extends.not_down, is.clock.not_back) };
      row = is.row;
      found = rw extends.orders at is.found;
      free_order = front_none _ earlier.certificates extends.more (rw extends.certificates at is.free_order);
      free_serial = front_none _ earlier.certificates extends.more (rw extends.certificates at is.free_serial);
      ordered = is.ordered;
      within_days = rw extends.policy at is.within_days;
      live = is.live;
      room = omega (arith, is.room, ap length extends.certificates, length-append earlier.certificates extends.more, ap (λ policy. policy.cap) extends.policy);
    })

-- THE SECOND TIME

-- an accepted command gives its reply and its change, or a fault comes
carried : (signed : CertList → List ℕ → Type 0) (records after : Records) (now : ℕ) (command : Command) (outcome : Result Reply Fault)
    → refusal records now command ≡ None → Happens signed records now command outcome after
    → ((bytes : List ℕ) × (outcome ≡ Ok (reply records now command)) × (after ≡ changed records now command bytes)) ⊎ IsFault outcome
carried signed records after now command (Ok result) accepted happens = let step = rw accepted at happens in inl (step.0, step.1, step.3)
carried signed records after now command (Err (Refused refused)) accepted happens = let step = rw accepted at happens in cc (step.1)
carried signed records after now command (Err fault) accepted happens = inr tt

module _ (signed : CertList → List ℕ → Type 0) (records next start after : Records) (now : ℕ) (row : CertRow) (first second : Result Reply Fault)
    (happens : Happens signed records now (register row) first next) (extends : Extends now next start)
    (again : Happens signed start now (register row) second after) where
  -- a row that was accepted without a fault stands registered
  stands : refusal records now (register row) ≡ None → (is_repeat start (register row) ≡ true) ⊎ IsFault first
  stands accepted =
      elim (carried signed records next now (register row) first accepted happens) [
        | inl done ↦ inl (repeat_kept now next start row extends (rw done.2 (accepted_stands records now row done.0)))
        | inr fault ↦ inr fault
      ]

  -- one row of the second import, after the first has dealt with it, adds no certificate
  second_keeps : (IsFault first → ⊥) → after.certificates ≡ start.certificates
  second_keeps no_fault =
      by_outcome signed start now (register row) (λ result later. later.certificates ≡ start.certificates) (λ fault. refl)
      (λ bytes accepted over. repeats accepted (is_repeat start (register row)) refl) second after again
    where
      repeats : refusal start now (register row) ≡ None → (repeat : Bool) → is_repeat start (register row) ≡ repeat
          → (changed start now (register row) []).certificates ≡ start.certificates
      repeats accepted true is = grind arith
      repeats accepted false is =
          let all : Extends now records start = extends_on now records next start (step_extends signed records next now row first happens) extends in
          elim (stands (earlier_accepts now records start row all accepted is)) [
            | inl repeat ↦ cc
            | inr fault ↦ absurd (no_fault fault)
          ]

  -- and it is answered as standing, where it was registered or stood the first time
  second_answers : AnsweredAgain first second
  second_answers answered = go (outcome_of signed records now (register row) first next happens)
    where
      go : Outcome signed records now (register row) first next → (second ≡ Ok Same) ⊎ IsFault second
      go (Stays fault is same) = absurd (elim answered [ inl new ↦ cc | inr old ↦ cc ])
      go (Changes bytes accepted is over made) =
          let clock = accepted_clock records now (register row) accepted in
          let repeat : is_repeat start (register row) ≡ true = repeat_kept now next start row extends (rw made (accepted_stands records now row bytes)) in
          let up : start.last ≤ now = extends.within ((step_extends signed records next now row first happens).within clock.not_back) in
          elim (carried signed start after now (register row) second (repeat_accepted start now row clock.before_end up repeat) again) [
            | inl done ↦ inl (done.1 ∙ ap (λ b. Ok (cond b Same Registered)) repeat)
            | inr fault ↦ inr fault
          ]

-- the second import, row by row beside the first
second_import : (signed : CertList → List ℕ → Type 0) (records between start after : Records) (now : ℕ) (rows : List (Option CertRow))
    (first second : List (Result Reply Fault))
    → Imports signed records now rows first between → AllByRecursion (λ outcome. IsFault outcome → ⊥) first
    → Extends now between start → Imports signed start now rows second after
    → (after.certificates ≡ start.certificates) × AllZip AnsweredAgain first second
second_import signed records between start after now [] [] [] imports no_fault extends again = (ap (λ r. r.certificates) again, tt)
second_import signed records between start after now (None ∷ rows) (p ∷ first) (q ∷ second) imports no_fault extends again =
    let rest = second_import signed records between start after now rows first second imports.1 no_fault.1 extends again.1 in
    (rest.0, (λ answered. absurd (elim answered [ inl new ↦ cc (imports.0, new) | inr old ↦ cc (imports.0, old) ]), rest.1))
second_import signed records between start after now (Some row ∷ rows) (p ∷ first) (q ∷ second) imports no_fault extends again =
    let reached = extends_on now imports.0 between start (imports_extend signed imports.0 between now rows first imports.2) extends in
    let extended = extends_on now between start again.0 extends (step_extends signed start again.0 now row q again.1) in
    let rest = second_import signed imports.0 between again.0 after now rows first second imports.2 no_fault.1 extended again.2 in (
      rest.0 ∙ second_keeps signed records imports.0 start again.0 now row p q imports.1 reached again.1 no_fault.0,
      (second_answers signed records imports.0 start again.0 now row p q imports.1 reached again.1, rest.1),
    )
second_import signed records between start after now rows first second imports no_fault extends again = absurd (assumption)

-- over two whole imports
pub imports_twice : (signed : CertList → List ℕ → Type 0) → ImportsTwice signed
imports_twice signed records between after now rows first second sound imports no_fault again =
    second_import signed records between between after now rows first second imports no_fault (extends_none now between) again
