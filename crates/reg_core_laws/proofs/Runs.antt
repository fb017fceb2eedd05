-- What holds over each command and over every run.
use Rattle.std.proofs.Common.{◌≡◌, ℕ, ◌+◌, cond, List, [], ◌∷◌, ◌++◌, length, Option, Some, None, Result, Err, refl, sym, ap, subst, arith, append-nil}
use Rattle.std.specs.List.{AllByRecursion}
use Rattle.reg_core.specs.Changes.{with_schedule}
use Rattle.reg_core.specs.Crls.{CertList, cert_list, next_number}
use Rattle.reg_core.specs.Issuer.{Issuer}
use Rattle.reg_core.specs.Policy.{Terms}
use Rattle.reg_core.specs.Records.{Records, Crl, no_records, request_in}
use Rattle.reg_core.specs.Sound.{Sound, SoundRows, CrlsSigned}
use Rattle.reg_core.specs.Step.{refusal, changed, is_repeat, revocation_row, IsSigned}
use Rattle.reg_core.specs.declared.rows.CertRow.{CertRow}
use Rattle.reg_core.specs.declared.rows.RequestRow.{RequestRow}
use Rattle.reg_core.specs.declared.rows.RevocationRow.{RevocationRow}
use Rattle.reg_core.specs.declared.command.Command.{Command}
use Rattle.reg_core.specs.declared.command.Command.TheVariants.{Register, Revoke, Crl as IssueCrl}
use Rattle.reg_core.specs.declared.command.Reply.{Reply}
use Rattle.reg_core.specs.declared.refusal.Fault.{Fault}
use Rattle.reg_core_laws.specs.Headline.{KeepsSound, RunsInParts, RefusalsChangeNothing}
use Rattle.reg_core_laws.specs.Run.{Happens, Run}
use Rattle.reg_core_laws.proofs.Accepted.{OnClock, accepted_clock}
use Rattle.reg_core_laws.proofs.Contents.{Grows, grows_none, grows_on, next_is, cert_list_kept, next_cert_list_kept}
use Rattle.reg_core_laws.proofs.Kept.{changed_rows, schedule_kept, no_records_sound}
use Rattle.reg_core_laws.proofs.Lists.{all_push, all_join, numbered_below}
use Rattle.reg_core_laws.proofs.Outcomes.{by_outcome}

-- ONE COMMAND

-- the certificates, revocations and CRLs that an accepted command adds
abbrev new_certificates : Records → Command → List CertRow
new_certificates records (Register order serial not_before not_after) =
    cond (is_repeat records (Register order serial not_before not_after)) []
    (record { serial = serial; order = order; not_before = not_before; not_after = not_after } ∷ [])
new_certificates records command = []

abbrev new_revocations : Records → ℕ → Command → List RevocationRow
new_revocations records now (Revoke id) = revoked (request_in records.requests id)
  where
    revoked : Option RequestRow → List RevocationRow
    revoked (Some request) = revocation_row records now request ∷ []
    revoked None = []
new_revocations records now command = []

abbrev new_crls : Records → ℕ → Command → List ℕ → List Crl
new_crls records now IssueCrl bytes = record { number = next_number records.crls; this_update = now; bytes = bytes } ∷ []
new_crls records now command bytes = []

-- an accepted command lets the records grow
pub changed_grows : (records : Records) (now : ℕ) (command : Command) (bytes : List ℕ) → SoundRows records → refusal records now command ≡ None
    → Grows records (changed records now command bytes)
changed_grows records now command bytes sound none = grown (accepted_clock records now command none) (next_is records.crls sound.crls.numbered)
  where
    grown : OnClock records now → next_number records.crls ≡ length records.crls + 1 → Grows records (changed records now command bytes)
    grown clock next = record {
      issuer = grind arith;
      policy = grind arith;
      last = grind (arith, clock.not_back);
      more_certificates = new_certificates records command;
      certificates = grind (arith, append-nil);
      more_revocations = new_revocations records now command;
      revocations = grind (arith, append-nil);
      more_crls = new_crls records now command bytes;
      crls = grind (arith, append-nil);
      new_firsts = grind (arith, next);
      new_numbers = grind (arith, next);
    }

-- the recorded CRLs stay signed
signatures_kept : (signed : CertList → List ℕ → Type 0) (before after : Records) → SoundRows before → Grows before after → CrlsSigned signed before
    → AllByRecursion (λ crl. signed (cert_list after crl.number crl.this_update) crl.bytes) before.crls
signatures_kept signed before after sound grows signatures =
    all_join _ _ _ (λ crl below holds. rw (cert_list_kept before after sound grows crl.number crl.this_update (omega arith)) holds)
    before.crls (numbered_below (λ crl. crl.number) 1 before.crls sound.crls.numbered) signatures

-- and all of them do, where none is added
signatures_still : (signed : CertList → List ℕ → Type 0) (before after : Records) → Sound signed before → Grows before after
    → after.crls ≡ before.crls → CrlsSigned signed after
signatures_still signed before after sound grows same =
    subst (AllByRecursion (λ crl. signed (cert_list after crl.number crl.this_update) crl.bytes)) (sym same)
    (signatures_kept signed before after sound.rows grows sound.signatures)

-- the signatures after an accepted command
pub changed_signatures : (signed : CertList → List ℕ → Type 0) (records : Records) (now : ℕ) (command : Command) (bytes : List ℕ) → Sound signed records
    → refusal records now command ≡ None → IsSigned signed records now command bytes → CrlsSigned signed (changed records now command bytes)
changed_signatures signed records now IssueCrl bytes sound none is =
    let grows = changed_grows records now IssueCrl bytes sound.rows none in
    let next : next_number records.crls ≡ length records.crls + 1 = next_is records.crls sound.rows.crls.numbered in
    all_push _ records.crls _ (signatures_kept signed records _ sound.rows grows sound.signatures)
    (rw (next_cert_list_kept records (changed records now IssueCrl bytes) sound.rows grows refl (next_number records.crls) now (omega arith)) is)
changed_signatures signed records now command bytes sound none is =
    signatures_still signed records _ sound (changed_grows records now command bytes sound.rows none) (grind arith)

-- one command keeps the records sound
pub step_keeps_sound : (signed : CertList → List ℕ → Type 0) (records : Records) (now : ℕ) (command : Command) (outcome : Result Reply Fault) (after : Records)
    → Sound signed records → Happens signed records now command outcome after → Sound signed after
step_keeps_sound signed records now command outcome after sound happens =
    by_outcome signed records now command (λ reply next. Sound signed next) (λ fault. sound)
    (λ bytes none over. record {
      rows = changed_rows records now command bytes sound.rows none;
      signatures = changed_signatures signed records now
          command bytes sound none over;
    })
    outcome after happens

-- one command lets the records grow
pub step_grows : (signed : CertList → List ℕ → Type 0) (records : Records) (now : ℕ) (command : Command) (outcome : Result Reply Fault) (after : Records)
    → Sound signed records → Happens signed records now command outcome after → Grows records after
step_grows signed records now command outcome after sound happens =
    by_outcome signed records now command (λ reply next. Grows records next) (λ fault. grows_none records)
    (λ bytes none over. changed_grows records now command bytes sound.rows none) outcome after happens

pub refusals_change_nothing : (signed : CertList → List ℕ → Type 0) → RefusalsChangeNothing signed
refusals_change_nothing signed records after now command fault happens =
    by_outcome signed records now command (λ reply next. reply ≡ Err fault → next ≡ records) (λ other is. refl) (λ bytes none over is. cc) (Err fault)
    after happens refl

-- EVERY RUN

pub keeps_sound : (signed : CertList → List ℕ → Type 0) → KeepsSound signed
keeps_sound signed records after [] [] sound run = rw run sound
keeps_sound signed records after [] (outcome ∷ outcomes) sound run = absurd run
keeps_sound signed records after (timed ∷ commands) [] sound run = absurd run
keeps_sound signed records after (timed ∷ commands) (outcome ∷ outcomes) sound run =
    keeps_sound signed run.0 after commands outcomes (step_keeps_sound signed records timed.0 timed.1 outcome run.0 sound run.1) run.2

-- a run lets the records grow
pub run_grows : (signed : CertList → List ℕ → Type 0) (records after : Records) (commands : List (ℕ × Command)) (outcomes : List (Result Reply Fault))
    → Sound signed records → Run signed records commands outcomes after → Grows records after
run_grows signed records after [] [] sound run = rw run (grows_none records)
run_grows signed records after [] (outcome ∷ outcomes) sound run = absurd run
run_grows signed records after (timed ∷ commands) [] sound run = absurd run
run_grows signed records after (timed ∷ commands) (outcome ∷ outcomes) sound run =
    grows_on records run.0 after (step_grows signed records timed.0 timed.1 outcome run.0 sound run.1)
    (run_grows signed run.0 after commands outcomes (step_keeps_sound signed records timed.0 timed.1 outcome run.0 sound run.1) run.2)

pub runs_in_parts : (signed : CertList → List ℕ → Type 0) → RunsInParts signed
runs_in_parts signed records after [] rest outcomes run = (records, [], outcomes, refl, refl, run)
runs_in_parts signed records after (timed ∷ front) rest [] run = absurd run
runs_in_parts signed records after (timed ∷ front) rest (outcome ∷ outcomes) run =
    let parts = runs_in_parts signed run.0 after front rest outcomes run.2 in
    (parts.0, outcome ∷ parts.1, parts.2, ap (◌∷◌ outcome) parts.3, (run.0, run.1, parts.4), parts.5)

-- a run and then a run is a run
pub runs_join : (signed : CertList → List ℕ → Type 0) (records between after : Records) (front rest : List (ℕ × Command))
    (early late : List (Result Reply Fault))
    → Run signed records front early between → Run signed between rest late after
    → Run signed records (front ++ rest) (early ++ late) after
runs_join signed records between after [] rest [] late first second = rw first at second
runs_join signed records between after [] rest (outcome ∷ early) late first second = absurd first
runs_join signed records between after (timed ∷ front) rest [] late first second = absurd first
runs_join signed records between after (timed ∷ front) rest (outcome ∷ early) late first second =
    (first.0, first.1, runs_join signed first.0 between after front rest early late first.2 second)

-- a run and then a command is a run
pub run_more : (signed : CertList → List ℕ → Type 0) (records between after : Records) (commands : List (ℕ × Command))
    (outcomes : List (Result Reply Fault)) (now : ℕ) (command : Command) (outcome : Result Reply Fault)
    → Run signed records commands outcomes between → Happens signed between now command outcome after
    → Run signed records (commands ++ (now, command) ∷ []) (outcomes ++ outcome ∷ []) after
run_more signed records between after commands outcomes now command outcome run happens =
    runs_join signed records between after commands ((now, command) ∷ []) outcomes (outcome ∷ []) run (after, happens, refl)

-- OF THE RECORDS AS SUCH

-- another schedule keeps the records sound
pub schedule_keeps_sound : (signed : CertList → List ℕ → Type 0) (records : Records) (schedule : List (ℕ × ℕ))
    → Sound signed records → Sound signed (with_schedule records schedule)
schedule_keeps_sound signed records schedule sound = record { rows = schedule_kept records schedule sound.rows; signatures = sound.signatures }

-- a register as it is created is sound
pub created_sound : (signed : CertList → List ℕ → Type 0) (issuer : Issuer) (policy : Terms) → Sound signed (no_records issuer policy)
created_sound signed issuer policy = record { rows = no_records_sound issuer policy; signatures = tt }
