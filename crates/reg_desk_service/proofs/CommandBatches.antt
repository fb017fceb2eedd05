-- Lemmas about command lines that run together, in one transaction.
use Rattle.std.proofs.Common.{◌≡◌, ◌≢◌, ◌⊎◌, ℕ, ◌+◌, ◌≤◌, ◌-◌, List, [], ◌∷◌, ◌++◌, length, take, drop, Option, Some, None, Result, Bool, true, false, IsFalse, refl, sym, ap, ◌∙◌, subst, arith, inl, inr, append-nil, append_assoc, length-drop}
use Rattle.std.specs.List.{All, AllZip, concat}
use Rattle.std.proofs.Math.Seq.{take-add}
use Rattle.std.proofs.lemmas.Bool.{ne_eqb}
use Rattle.std.proofs.lemmas.Bool.Decides.{nat_tests}
use Rattle.std.proofs.lemmas.List.{take_all}
use Rattle.std.proofs.lemmas.List.Elements.{All-head, All-tail}
use Rattle.reg_core.specs.Crls.{CertList}
use Rattle.reg_core.specs.Records.{Records, request_in}
use Rattle.reg_core.specs.Step.{changed, is_repeat}
use Rattle.reg_core.specs.declared.command.Command.{Command}
use Rattle.reg_core.specs.declared.command.Command.TheVariants.{Subscriber, Order, Register, Request, Decline, Revoke, Crl as IssueCrl}
use Rattle.reg_core.specs.declared.command.Reply.{Reply}
use Rattle.reg_core.specs.declared.refusal.Fault.{Fault}
use Rattle.reg_core.specs.declared.rows.RequestRow.{RequestRow}
use Rattle.reg_core_laws.specs.Run.{Happens, Run}
use Rattle.reg_core_laws.proofs.PublicLaws.{Outcome, Stays, Changes, outcome_of}
use Rattle.reg_crl.specs.Signing.{signed_by}
use Rattle.reg_desk_metrics.specs.Ahead.{is_ahead}
use Rattle.reg_desk_server.specs.LineEnds.{EndsLine, FirstLineEnds}
use Rattle.reg_io.proofs.PublicLaws.{first_delimiter_of_byte}
use Rattle.reg_lines.proofs.PublicLaws.{concat_push}
use Rattle.reg_lines.specs.Meaning.{means_command}
use Rattle.reg_lines.specs.Script.{IsWholeLine, pieces}
use Rattle.reg_lines.specs.declared.answered.Answered.TheVariants.{Completed}
use Rattle.reg_lines.specs.declared.answered.LineKind.TheVariants.{Command as CommandLine}
use Rattle.reg_office_api.proofs.PublicLaws.{chains, follows}
use Rattle.reg_office_api.specs.CallSteps.{Signs}
use Rattle.reg_office_api.specs.Leads.{Leads, Looks}
use Rattle.reg_office_api.specs.Signers.{OfficeSigners}
use Rattle.reg_desk_service.specs.CommandBatches.{AreCommandLines, IsCommandLine, IsCommandLineAt, replies_to}
use Rattle.reg_desk_service.proofs.LookedAt.{Still, then_still}
use Rattle.reg_desk_service.specs.ControlWords.{AnswersLineAt, AnswersLinesAt, AnswersWord, IsAcceptedAfter, accepted_after, accepted_by}

-- ---- whole lines

cut_line : (front rest : List ℕ) → All (λ byte. byte ≢ 10) front → pieces ((front ++ 10 ∷ []) ++ rest) ≡ (front ++ 10 ∷ []) ∷ pieces rest
unfolding pieces
cut_line [] rest free = refl
cut_line (byte ∷ front) rest free =
    rw (ne_eqb byte 10 (All-head (λ byte. byte ≢ 10) byte front free), cut_line front rest (All-tail (λ byte. byte ≢ 10) byte front free)) refl

pub line_then : (line rest : List ℕ) → IsWholeLine line → pieces (line ++ rest) ≡ line ∷ pieces rest
line_then line rest (front, is, free) = rw is (cut_line front rest free)

pub no_pieces : pieces [] ≡ []
unfolding pieces
no_pieces = refl

-- a line is one piece
pub one_piece : (line : List ℕ) → IsWholeLine line → pieces line ≡ line ∷ []
one_piece line whole = ap pieces (sym (append-nil line)) ∙ line_then line [] whole ∙ ap (λ (l : List (List ℕ)). line ∷ l) no_pieces

-- command lines are pieces
lines_are_pieces : (now : ℕ) (lines : List (List ℕ)) (timed : List (ℕ × Command)) → AllZip (IsCommandLineAt now) lines timed → pieces (concat lines) ≡ lines
lines_are_pieces now [] [] all = no_pieces
lines_are_pieces now [] (one ∷ timed) all = absurd all
lines_are_pieces now (line ∷ lines) [] all = absurd all
lines_are_pieces now (line ∷ lines) (one ∷ timed) all =
    line_then line (concat lines) all.0.0 ∙ ap (λ (l : List (List ℕ)). line ∷ l) (lines_are_pieces now lines timed all.1)

-- the first line, taken alone, is whole
pub first_whole : (bytes : List ℕ) (end : ℕ) → FirstLineEnds bytes end → IsWholeLine (take end bytes)
first_whole bytes end ends = first_delimiter_of_byte 10 bytes end ends

-- the rest as a slice is the rest
rest_is : (bytes : List ℕ) (end : ℕ) → take (length bytes - end) (drop end bytes) ≡ drop end bytes
rest_is bytes end = take_all (length bytes - end) (drop end bytes) (omega (arith, length-drop {A = ℕ} end bytes))

-- one more command line
zip_push : {A B : Type 0} (R : A → B → Type 0) (xs : List A) (ys : List B) (x : A) (y : B) → AllZip R xs ys → R x y → AllZip R (xs ++ x ∷ []) (ys ++ y ∷ [])
zip_push R [] [] x y all more = (more, tt)
zip_push R [] (b ∷ ys) x y all more = absurd all
zip_push R (a ∷ xs) [] x y all more = absurd all
zip_push R (a ∷ xs) (b ∷ ys) x y all more = (all.0, zip_push R xs ys x y all.1 more)

pub one_more_line : (now : ℕ) (bytes : List ℕ) (end more : ℕ) (command : Command) (timed : List (ℕ × Command))
    → AreCommandLines now (take end bytes) timed → FirstLineEnds (take (length bytes - end) (drop end bytes)) more
    → IsCommandLine (take more (take (length bytes - end) (drop end bytes))) command
    → AreCommandLines now (take (end + more) bytes) (timed ++ (now, command) ∷ [])
one_more_line now bytes end more command timed (lines, joined, all) ends means =
    let rest = rest_is bytes end in
    let line = take more (drop end bytes) in
    let whole : IsWholeLine line = first_whole (drop end bytes) more (subst (λ (l : List ℕ). FirstLineEnds l more) rest ends) in
    let is : IsCommandLine line command = subst (λ (l : List ℕ). IsCommandLine (take more l) command) rest means in (
      lines ++ line ∷ [],
      take-add end more bytes ∙ ap (λ (l : List ℕ). l ++ line) joined ∙ sym (concat_push lines line),
      zip_push (IsCommandLineAt now) lines timed line (now, command) all (whole, is, refl),
    )

-- and they end there
pub one_more_end : (bytes : List ℕ) (end more : ℕ) → end ≤ length bytes → FirstLineEnds (take (length bytes - end) (drop end bytes)) more
    → EndsLine bytes (end + more)
one_more_end bytes end more within ends =
    let next : FirstLineEnds (drop end bytes) more = subst (λ (l : List ℕ). FirstLineEnds l more) (rest_is bytes end) ends in (
      omega (arith, within, next.within, length-drop {A = ℕ} end bytes),
      (
        take end bytes ++ next.here.0,
        take-add end more bytes ∙ ap (λ (l : List ℕ). take end bytes ++ l) next.here.1 ∙ sym (append_assoc (take end bytes) next.here.0 (10 ∷ [])),
      ),
    )

-- ---- one line alone

pub one_line_at : (accepted : Option ℕ) (signs : Signs) (now : ℕ) (identity : OfficeSigners) (before after : Records) (line text : List ℕ) → IsWholeLine line
    → AnswersLineAt accepted signs now identity before line text after → AnswersLinesAt accepted signs now identity before (pieces line) text after
one_line_at accepted signs now identity before after line text whole said =
    subst (λ (lines : List (List ℕ)). AnswersLinesAt accepted signs now identity before lines text after) (sym (one_piece line whole))
    (text, [], after, sym (append-nil text), said, (refl, refl))

pub one_line_accepted : (line : List ℕ) (accepted accepted' : Option ℕ) → IsWholeLine line → IsAcceptedAfter line accepted accepted'
    → (accepted' ≡ accepted_after (pieces line) accepted) ⊎ (accepted' ≡ accepted)
one_line_accepted line accepted accepted' whole (inl is) = inl (is ∙ ap (λ (l : List (List ℕ)). accepted_after l accepted) (sym (one_piece line whole)))
one_line_accepted line accepted accepted' whole (inr same) = inr same

-- ---- the clock

-- after an accepted command, its moment is the last
changed_last : (records : Records) (now : ℕ) (command : Command) (bytes : List ℕ) → (changed records now command bytes).last ≡ now
changed_last records now (Subscriber name) bytes = refl
changed_last records now (Order subscriber days) bytes = refl
changed_last records now (Register order serial not_before not_after) bytes =
    go (is_repeat records (Register order serial not_before not_after)) refl
  where
    go : (b : Bool) → is_repeat records (Register order serial not_before not_after) ≡ b
        → (changed records now (Register order serial not_before not_after) bytes).last ≡ now
    go true is = rw is refl
    go false is = rw is refl
changed_last records now (Request serial word) bytes = refl
changed_last records now (Decline id) bytes = refl
changed_last records now (Revoke id) bytes = go (request_in records.requests id) refl
  where
    go : (found : Option RequestRow) → request_in records.requests id ≡ found → (changed records now (Revoke id) bytes).last ≡ now
    go (Some request) is = rw is refl
    go None is = rw is refl
changed_last records now IssueCrl bytes = refl

-- the clock is not ahead of its own moment
not_ahead_now : (now : ℕ) (accepted : Option ℕ) → IsFalse (is_ahead now now accepted)
not_ahead_now now accepted = grind (arith, nat_tests)

-- a clock that is not too far ahead is not after a command at its moment
not_ahead_on : (now last last' : ℕ) (accepted : Option ℕ) → (last' ≡ last) ⊎ (last' ≡ now) → IsFalse (is_ahead now last accepted)
    → IsFalse (is_ahead now last' accepted)
not_ahead_on now last last' accepted (inl same) not_ahead = rw same not_ahead
not_ahead_on now last last' accepted (inr is) not_ahead = rw is (not_ahead_now now accepted)

last_on : (signed : CertList → List ℕ → Type 0) (records : Records) (now : ℕ) (command : Command) (outcome : Result Reply Fault) (after : Records)
    → Happens signed records now command outcome after → (after.last ≡ records.last) ⊎ (after.last ≡ now)
last_on signed records now command outcome after happens = go (outcome_of signed records now command outcome after happens)
  where
    go : Outcome signed records now command outcome after → (after.last ≡ records.last) ⊎ (after.last ≡ now)
    go (Stays fault is same) = inl (ap (λ (r : Records). r.last) same)
    go (Changes bytes none is over made) = inr (ap (λ (r : Records). r.last) made ∙ changed_last records now command bytes)

-- ---- a run

-- one command line that runs
runs_line : (accepted : Option ℕ) (signs : Signs) (now : ℕ) (identity : OfficeSigners) (before after : Records) (line : List ℕ) (command : Command) (outcome : Result Reply Fault)
    → IsCommandLine line command → IsFalse (is_ahead now before.last accepted) → Happens (signed_by signs identity.crls) before now command outcome after
    → AnswersLineAt accepted signs now identity before line (replies_to (outcome ∷ [])) after
runs_line accepted signs now identity before after line command outcome (word, short, means) not_ahead happens =
    inl (subst (λ w. AnswersWord accepted signs now identity before line w (replies_to (outcome ∷ [])) after) (sym word)
    (inl (short, inl ((command, means), inr (inl (not_ahead, inl (Completed (CommandLine command) outcome, inl (means_command command, means, (outcome, happens, refl)), append-nil _)))))))

-- as many outcomes as commands
pub run_length : (signed : CertList → List ℕ → Type 0) (before : Records) (timed : List (ℕ × Command)) (outcomes : List (Result Reply Fault)) (after : Records)
    → Run signed before timed outcomes after → length outcomes ≡ length timed
run_length signed before [] [] after run = refl
run_length signed before [] (outcome ∷ outcomes) after run = absurd run
run_length signed before (one ∷ timed) [] after run = absurd run
run_length signed before (one ∷ timed) (outcome ∷ outcomes) after (next, happens, run) = omega (arith, run_length signed next timed outcomes after run)

-- each command line of a run is answered as it is alone
runs_lines : (accepted : Option ℕ) (signs : Signs) (now : ℕ) (identity : OfficeSigners) (lines : List (List ℕ)) (timed : List (ℕ × Command)) (outcomes : List (Result Reply Fault))
    (before after : Records) → AllZip (IsCommandLineAt now) lines timed → IsFalse (is_ahead now before.last accepted)
    → Run (signed_by signs identity.crls) before timed outcomes after → AnswersLinesAt accepted signs now identity before lines (replies_to outcomes) after
runs_lines accepted signs now identity [] [] [] before after all not_ahead run = (refl, run)
runs_lines accepted signs now identity [] [] (outcome ∷ outcomes) before after all not_ahead run = absurd run
runs_lines accepted signs now identity [] (one ∷ timed) outcomes before after all not_ahead run = absurd all
runs_lines accepted signs now identity (line ∷ lines) [] outcomes before after all not_ahead run = absurd all
runs_lines accepted signs now identity (line ∷ lines) (one ∷ timed) [] before after all not_ahead run = absurd run
runs_lines accepted signs now identity (line ∷ lines) (one ∷ timed) (outcome ∷ outcomes) before after ((whole, means, at), all) not_ahead (next, happens, run) =
    let happens_now : Happens (signed_by signs identity.crls) before now one.1 outcome next =
    subst (λ (n : ℕ). Happens (signed_by signs identity.crls) before n one.1 outcome next) at happens in
    let rest : AnswersLinesAt accepted signs now identity next lines (replies_to outcomes) after =
    runs_lines accepted signs now identity lines timed outcomes next after all
    (not_ahead_on now before.last next.last accepted (last_on (signed_by signs identity.crls) before now one.1 outcome next happens_now) not_ahead) run in (
      replies_to (outcome ∷ []),
      replies_to outcomes,
      next,
      ap (λ (l : List ℕ). l ++ replies_to outcomes) (sym (append-nil _)),
      runs_line accepted signs now identity before next line one.1 outcome means not_ahead happens_now,
      subst (λ w. AnswersLinesAt (accepted_by w accepted) signs now identity next lines (replies_to outcomes) after) (sym means.0) rest,
    )

-- the same of the bytes of the lines
pub runs_bytes : (accepted : Option ℕ) (signs : Signs) (now : ℕ) (identity : OfficeSigners) (bytes : List ℕ) (timed : List (ℕ × Command)) (outcomes : List (Result Reply Fault))
    (before after : Records) → AreCommandLines now bytes timed → IsFalse (is_ahead now before.last accepted)
    → Run (signed_by signs identity.crls) before timed outcomes after → AnswersLinesAt accepted signs now identity before (pieces bytes) (replies_to outcomes) after
runs_bytes accepted signs now identity bytes timed outcomes before after (lines, joined, all) not_ahead run =
    subst (λ (l : List (List ℕ)). AnswersLinesAt accepted signs now identity before l (replies_to outcomes) after)
    (sym (ap pieces joined ∙ lines_are_pieces now lines timed all))
    (runs_lines accepted signs now identity lines timed outcomes before after all not_ahead run)

-- command lines that ran in one transaction: the clock was looked at before, and the lines were counted after
pub batch_replies : {S : Type 0} (is_clean : S → Type 0) (stands : OfficeSigners → S → Records → Type 0) (accepted : Option ℕ) (signs : Signs) (now : ℕ)
    (bytes text : List ℕ) (timed : List (ℕ × Command)) (outcomes : List (Result Reply Fault)) (may : Type 0) (s a b t : S)
    → AreCommandLines now bytes timed → may → (length outcomes ≡ length timed → text ≡ replies_to outcomes)
    → Looks is_clean stands (λ records. may → IsFalse (is_ahead now records.last accepted)) s a
    → Leads is_clean stands (λ signers before after. Run (signed_by signs signers.crls) before timed outcomes after) a b
    → Still is_clean stands b t
    → Leads is_clean stands (λ signers before after. AnswersLinesAt accepted signs now signers before (pieces bytes) text after) s t
batch_replies is_clean stands accepted signs now bytes text timed outcomes may s a b t lines can joined looked ran still =
    let Look : OfficeSigners → Records → Records → Type 0 = λ signers before after.
    (may → IsFalse (is_ahead now before.last accepted)) × (after ≡ before) in
    let Ran : OfficeSigners → Records → Records → Type 0 = λ signers before after. Run (signed_by signs signers.crls) before timed outcomes after in
    let Both : OfficeSigners → Records → Records → Type 0 = λ signers before after.
    (middle : Records) × Look signers before middle × Ran signers middle after in
    let Answers : OfficeSigners → Records → Records → Type 0 = λ signers before after.
    AnswersLinesAt accepted signs now signers before (pieces bytes) text after in
    let from : (signers : OfficeSigners) (before after : Records) → Both signers before after → Answers signers before after =
    (λ signers before after both.
    let (middle, look, run) = both in
    let run_before : Run (signed_by signs signers.crls) before timed outcomes after =
    subst (λ (r : Records). Run (signed_by signs signers.crls) r timed outcomes after) look.1 run in
    subst (λ (l : List ℕ). AnswersLinesAt accepted signs now signers before (pieces bytes) l after)
    (sym (joined (run_length (signed_by signs signers.crls) before timed outcomes after run_before)))
    (runs_bytes accepted signs now signers bytes timed outcomes before after lines (look.0 can) run_before)) in
    then_still is_clean stands Answers s b t
    (follows is_clean stands Both Answers from s b (chains is_clean stands Look Ran s a b looked ran))
    still
