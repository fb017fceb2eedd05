-- An import that comes twice, row after row, by the rules.
use Rattle.std.specs.Prelude.{Result, Ok, Err, codes, get_or, option_and_then}
use Rattle.std.specs.List.{AllByRecursion, AllZip}
use Rattle.std.proofs.Common.{◌≡◌, ◌==◌, ◌⊎◌, ◌<◌, ℕ, Bool, true, false, cond, List, [], ◌∷◌, map, Option, Some, None, refl, sym, ap, ◌∙◌, subst, inl, inr, arith, lit<}
use Rattle.csv.specs.Machine as machine
use Rattle.csv.specs.Reading.{AreRecords, Reached, default_config, strip_bom}
use Rattle.csv.specs.declared.parser.Config.{Config}
use Rattle.csv.specs.declared.parser.State.{State}
use Rattle.csv.specs.declared.parser.State.TheVariants as st
use Rattle.reg_core.specs.Crls.{CertList}
use Rattle.reg_core.specs.Records.{Records}
use Rattle.reg_core.specs.Sound.{Sound}
use Rattle.reg_core.specs.Step.{is_repeat}
use Rattle.reg_core.specs.declared.command.Command.{Command}
use Rattle.reg_core.specs.declared.command.Command.TheVariants.{Subscriber, Order, Register, Request, Decline, Revoke, Crl as IssueCrl}
use Rattle.reg_core.specs.declared.command.Reply.{Reply}
use Rattle.reg_core.specs.declared.command.Reply.TheVariants.{Registered, Same}
use Rattle.reg_core.specs.declared.refusal.Fault.{Fault}
use Rattle.reg_core.specs.declared.refusal.Fault.TheVariants.{Refused}
use Rattle.reg_core.specs.declared.refusal.Refusal.TheVariants as refused
use Rattle.reg_core.specs.declared.rows.CertRow.{CertRow}
use Rattle.reg_core_laws.specs.Import.{register, Imports, IsFault, AnsweredAgain}
use Rattle.reg_core_laws.specs.Run.{Happens}
use Rattle.reg_core_laws.proofs.PublicLaws.{same_number, imports_twice, Outcome, Stays, Changes, outcome_of}
use Rattle.reg_lines.proofs.Accepting.{fault_begins}
use Rattle.reg_lines.specs.ByCalls.{Call}
use Rattle.reg_lines.specs.ByCalls as calls
use Rattle.reg_lines.specs.Import.{AllRan, Row, RowMeans, RowReplies, data_rows}
use Rattle.reg_lines.specs.LineReading.{register_of}
use Rattle.reg_lines.specs.Replies.{outcome_line, reply_line, with_lf}
use Rattle.reg_lines.proofs.PublicLaws.{register_read, row_spelled}
use Rattle.reg_io.specs.RunsOfAnswers.{Answered}
use Rattle.reg_lines.specs.Laws.{IsFaultLine, RepliedAgain}

-- ---- the rows of a text

-- one text has one list of rows
rows_agree : (cfg : Config) (s : State) (text : List ℕ) (rows others : List Row)
    → AreRecords cfg s text rows → AreRecords cfg s text others → rows ≡ others
unfolding Reached
rows_agree cfg s text [] [] a b = refl
rows_agree cfg s text [] (row ∷ others) (t, left, (same, bytes), none) (u, rest, (p, found, is, more), end) =
    let both : None ≡ Some p = sym none ∙ rw (sym same, sym bytes) found in cc
rows_agree cfg s text (row ∷ rows) [] (u, rest, (p, found, is, more), end) (t, left, (same, bytes), none) =
    let both : None ≡ Some p = sym none ∙ rw (sym same, sym bytes) found in cc
rows_agree cfg s text (row ∷ rows) (other ∷ others) (t, left, (p, found, is, more), none) (u, rest, (q, found', is', more'), none') =
    let both : Some p ≡ Some q = sym found ∙ found' in
    let same : p ≡ q = cc in
    let P : machine.Read → Type 0 = λ r. AreRecords cfg r.1 r.2 others in
    let tail : rows ≡ others = rows_agree cfg p.1 p.2 rows others (t, left, more, none) (subst P (sym same) (u, rest, more', none')) in
    let head : row ≡ other = is ∙ ap (λ r. r.0) same ∙ sym is' in
    rw (head, tail) refl

-- ---- what a row registers

-- the row of the register that a command adds
certificate_of : Command → Option CertRow
certificate_of (Register order serial not_before not_after) =
    Some (record { serial = serial; order = order; not_before = not_before; not_after = not_after })
certificate_of (Subscriber name) = None
certificate_of (Order subscriber days) = None
certificate_of (Request serial ground) = None
certificate_of (Decline request) = None
certificate_of (Revoke request) = None
certificate_of IssueCrl = None

-- the certificate that a row of a text spells
spelled : Row → Option CertRow
spelled row = option_and_then certificate_of (register_of row)

-- a row that means a command spells a certificate, and the command registers it
record Spells (row : Row) (command : Command) : Type 0 where
  certificate : CertRow
  is : spelled row ≡ Some certificate
  command_is : command ≡ register certificate

means_spells : (row : Row) (command : Command) → RowMeans row command → Spells row command
unfolding spelled certificate_of
means_spells row (Register order serial not_before not_after) (rest, is, fields) =
    let same : row ≡ rest = cc in
    let read : register_of row ≡ Some (Register order serial not_before not_after) =
    ap register_of same ∙ register_read order serial not_before not_after rest fields in
    record {
      certificate = record { serial = serial; order = order; not_before = not_before; not_after = not_after };
      is = ap (λ o. option_and_then certificate_of o) read;
      command_is = refl;
    }
means_spells row (Subscriber name) (is, label) = absurd (cc)
means_spells row (Order subscriber days) (a, b, is, first, second) = absurd (cc)
means_spells row (Request serial ground) (a, is, first, second) = absurd (cc)
means_spells row (Decline request) (a, is, first) = absurd (cc)
means_spells row (Revoke request) (a, is, first) = absurd (cc)
means_spells row IssueCrl is = absurd (cc)

-- a row that means no command spells no certificate
unread_spells : (row : Row) → ((command : Command) → ¬ RowMeans row command) → spelled row ≡ None
unfolding spelled
unread_spells row unread = go (register_of row) refl
  where
    go : (o : Option Command) → register_of row ≡ o → option_and_then certificate_of o ≡ None
    go None e = refl
    go (Some command) e = absurd (unread command (row_spelled row command e))

-- ---- the lines of replies

-- what a row comes to: it is registered, or stands registered, or there is a refusal or a fault; no other reply
abbrev IsOfRow : Result Reply Fault → Type 0
IsOfRow outcome =
    (outcome ≡ Ok Registered) ⊎ ((outcome ≡ Ok Same) ⊎ ((fault : Fault) × (outcome ≡ Err fault)))

of_row
    : (signed : CertList → List ℕ → Type 0) (records : Records) (now : ℕ) (certificate : CertRow) (outcome : Result Reply Fault) (after : Records)
    → Happens signed records now (register certificate) outcome after
    → IsOfRow outcome
of_row signed records now certificate outcome after happens =
    go (outcome_of signed records now (register certificate) outcome after happens)
  where
    by_repeat : (repeat : Bool) → outcome ≡ Ok (cond repeat Same Registered) → IsOfRow outcome
    by_repeat true is = inr (inl is)
    by_repeat false is = inl is

    go : Outcome signed records now (register certificate) outcome after → IsOfRow outcome
    go (Stays fault is same) = inr (inr (fault, is))
    go (Changes bytes accepted is over made) = by_repeat (is_repeat records (register certificate)) is

-- so no text that begins with a later letter tells either
no_fault_line
    : (fault : Fault) (reply : List ℕ) → with_lf (outcome_line (Err fault)) ≡ reply → 70 < get_or reply 0 0 → ⊥
no_fault_line fault reply same later =
    let first : get_or (with_lf (outcome_line (Err fault))) 0 0 ≡ get_or reply 0 0 = ap (λ text. get_or text 0 0) same in
    elim (fault_begins fault) [ inl refusal ↦ omega (arith, first, refusal) | inr other ↦ omega (arith, first, other) ]

-- texts that differ at a place are not the same
apart : (place : ℕ) (text other : List ℕ) → text ≡ other → (get_or text place 0 == get_or other place 0) ≡ false → ⊥
apart place text other same differs =
    let both : true ≡ false =
    sym (same_number (get_or text place 0)) ∙ ap (λ t. get_or text place 0 == get_or t place 0) same ∙ differs
    in
    cc both

-- a row's line that tells `registered` is that of this reply, and so is one that tells `same`
outcome_of_line : (outcome : Result Reply Fault) → IsOfRow outcome
    → (with_lf (outcome_line outcome) ≡ with_lf (codes "registered") → outcome ≡ Ok Registered)
    × (with_lf (outcome_line outcome) ≡ with_lf (codes "same") → outcome ≡ Ok Same)
unfolding with_lf outcome_line reply_line
outcome_of_line outcome (inl is) =
    ((λ line_is. is), (λ line_is. absurd (apart 0 _ _ (ap (λ o. with_lf (outcome_line o)) (sym is) ∙ line_is) refl)))
outcome_of_line outcome (inr (inl is)) =
    ((λ line_is. absurd (apart 0 _ _ (ap (λ o. with_lf (outcome_line o)) (sym is) ∙ line_is) refl)), (λ line_is. is))
outcome_of_line outcome (inr (inr its)) = (
  (λ line_is. absurd (no_fault_line its.0 (with_lf (codes "registered")) (ap (λ o. with_lf (outcome_line o)) (sym its.1) ∙ line_is) (lit< tt))),
  (λ line_is. absurd (no_fault_line its.0 (with_lf (codes "same")) (ap (λ o. with_lf (outcome_line o)) (sym its.1) ∙ line_is) (lit< tt))),
)

same_line : with_lf (outcome_line (Ok Same)) ≡ with_lf (codes "same")
unfolding outcome_line reply_line
same_line = refl

-- the reply tells the outcome
abbrev IsStatusFor : Result Reply Fault → List ℕ → Type 0
IsStatusFor outcome reply = reply ≡ with_lf (outcome_line outcome)

-- outcomes that are answered again, by the replies that tell them
replied_again : (first second : Result Reply Fault) (reply other : List ℕ)
    → IsOfRow first → IsStatusFor first reply → IsStatusFor second other → AnsweredAgain first second → RepliedAgain reply other
replied_again first second reply other of is is' again said =
    let outcome : (first ≡ Ok Registered) ⊎ (first ≡ Ok Same) =
    elim said [
      | inl new ↦ inl ((outcome_of_line first of).0 (sym is ∙ new))
      | inr old ↦ inr ((outcome_of_line first of).1 (sym is ∙ old))
    ]
    in
    elim (again outcome) [
      | inl same ↦ inl (is' ∙ ap (λ o. with_lf (outcome_line o)) same ∙ same_line)
      | inr fault ↦ inr (second, is', fault)
    ]

all_again : (firsts : List (Result Reply Fault)) (replies : List (List ℕ)) (seconds : List (Result Reply Fault)) (others : List (List ℕ))
    → AllByRecursion IsOfRow firsts → AllZip IsStatusFor firsts replies → AllZip IsStatusFor seconds others → AllZip AnsweredAgain firsts seconds
    → AllZip RepliedAgain replies others
all_again [] [] [] [] of a b again = tt
all_again (first ∷ firsts) (reply ∷ replies) (second ∷ seconds) (other ∷ others) of a b again =
    (replied_again first second reply other of.0 a.0 b.0 again.0, all_again firsts replies seconds others of.1 a.1 b.1 again.1)
all_again firsts replies seconds others of a b again = absurd (assumption)

-- where no reply tells a fault, no outcome is one
no_faults : (outcomes : List (Result Reply Fault)) (replies : List (List ℕ))
    → AllZip IsStatusFor outcomes replies → AllByRecursion (λ reply. ¬ IsFaultLine reply) replies
    → AllByRecursion (λ outcome. IsFault outcome → ⊥) outcomes
no_faults [] [] is none = tt
no_faults (outcome ∷ outcomes) (reply ∷ replies) is none =
    ((λ fault. none.0 (outcome, is.0, fault)), no_faults outcomes replies is.1 none.1)
no_faults outcomes replies is none = absurd is

-- ---- a run of rows, as an import by the rules

-- what came of each row, and that the replies tell it
record RowsRan (signed : CertList → List ℕ → Type 0) (records : Records) (now : ℕ) (rows : List Row) (replies : List (List ℕ)) (after : Records) : Type 0 where
  outcomes : List (Result Reply Fault)
  imports : Imports signed records now (map spelled rows) outcomes after
  of_rows : AllByRecursion IsOfRow outcomes
  replies_are : AllZip IsStatusFor outcomes replies

module _ (signed : CertList → List ℕ → Type 0) (answers : Records → ℕ → Call → Records → Type 0)
    (by_rules : (s : Records) (now : ℕ) (command : Command) (outcome : Result Reply Fault) (t : Records)
    → answers s now (calls.ran command outcome) t → Happens signed s now command outcome t) where
  ran : (records after : Records) (now : ℕ) (rows : List Row) (replies : List (List ℕ))
      → Answered (RowReplies answers now) records rows replies after → RowsRan signed records now rows replies after
  ran records after now [] [] same = record { outcomes = []; imports = same; of_rows = tt; replies_are = tt }
  ran records after now (row ∷ rows) (reply ∷ replies) (next, inl (command, outcome, means, happened, is), answered) =
      let spells = means_spells row command means in
      let rest = ran next after now rows replies answered in
      let P : Command → Type 0 = λ c. Happens signed records now c outcome next in
      let Q : Option CertRow → Type 0 = λ o. Imports signed records now (o ∷ map spelled rows) (outcome ∷ rest.outcomes) after in
      let happens = subst P spells.command_is (by_rules records now command outcome next happened) in record {
        outcomes = outcome ∷ rest.outcomes;
        imports = subst Q (sym spells.is) (next, happens, rest.imports);
        of_rows = (of_row signed records now spells.certificate outcome next happens, rest.of_rows);
        replies_are = (is, rest.replies_are);
      }
  ran records after now (row ∷ rows) (reply ∷ replies) (next, inr (unread, is, same), answered) =
      let P : Records → Type 0 = λ r. Answered (RowReplies answers now) r rows replies after in
      let rest = ran records after now rows replies (subst P same answered) in
      let outcome : Result Reply Fault = Err (Refused refused.Syntax) in
      let Q : Option CertRow → Type 0 = λ o. Imports signed records now (o ∷ map spelled rows) (outcome ∷ rest.outcomes) after in record {
        outcomes = outcome ∷ rest.outcomes;
        imports = subst Q (sym (unread_spells row unread)) (refl, rest.imports);
        of_rows = (inr (inr (Refused refused.Syntax, refl)), rest.of_rows);
        replies_are = (is, rest.replies_are);
      }
  ran records after now rows replies answered = absurd answered

  -- two runs of one text
  pub comes_twice : (records between after : Records) (now : ℕ) (text : List ℕ) (out out' again again' : Option (List ℕ))
      → Sound signed records
      → (first : AllRan answers now records between out out' text)
      → AllByRecursion (λ reply. ¬ IsFaultLine reply) first.0.replies
      → (second : AllRan answers now between after again again' text)
      → (after.certificates ≡ between.certificates) × AllZip RepliedAgain first.0.replies second.0.replies
  comes_twice records between after now text out out' again again' sound first none second =
      let same : second.0.rows ≡ first.0.rows = rows_agree default_config st.StartRecord (strip_bom text) second.0.rows first.0.rows second.0.are first.0.are in
      let P : List Row → Type 0 = λ rows. Answered (RowReplies answers now) between (data_rows rows) second.0.replies after in
      let one = ran records between now (data_rows first.0.rows) first.0.replies first.1 in
      let two = ran between after now (data_rows first.0.rows) second.0.replies (subst P same second.1) in
      let both =
      imports_twice signed records between after now (map spelled (data_rows first.0.rows)) one.outcomes two.outcomes sound one.imports
      (no_faults one.outcomes first.0.replies one.replies_are none) two.imports in
      (both.0, all_again one.outcomes first.0.replies two.outcomes second.0.replies one.of_rows one.replies_are two.replies_are both.1)
