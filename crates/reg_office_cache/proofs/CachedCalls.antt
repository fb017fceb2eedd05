-- The calls of an office that caches the undecided requests, by those of the office in it.
use Rattle.std.proofs.Common.{◌≡◌, ◌∙◌, ℕ, List, Option, Some, None, Result, Ok, Err, IsTrue, inl, inr, refl, sym, ap, subst}
use Rattle.std.specs.Prelude.{IfSome, IsFalse, Vec}
use Rattle.std.proofs.lemmas.Bool.{false_from_ne_true, true≢false}
use Rattle.sqlite.specs.Held.{Held, state}
use Rattle.sqlite.specs.State.{HasCleanDisk}
use Rattle.sqlite_trees.specs.declared.store.Store.{Ghosts}
use Rattle.reg_core.specs.Due.{overdue, overdue_report}
use Rattle.reg_core.specs.Queries.{query_reply}
use Rattle.reg_core.specs.Records.{Records}
use Rattle.reg_core.specs.Decisions.{refused_or}
use Rattle.reg_core.specs.declared.command.Command.{Command}
use Rattle.reg_core.specs.declared.command.Overdue.{Overdue}
use Rattle.reg_core.specs.declared.command.Query.TheVariants.{Overdue as AskOverdue}
use Rattle.reg_core.specs.declared.command.Reply.{Reply}
use Rattle.reg_core.specs.declared.command.Reply.TheVariants.{Overdue as OverdueAre}
use Rattle.reg_core.specs.declared.memory.Memory.{Memory as NoMemory}
use Rattle.reg_core.specs.declared.refusal.Fault.{Fault}
use Rattle.reg_core_laws.specs.Run.{Run}
use Rattle.reg_core_lists.specs.declared.feed_reader.ReceivedPage.{ReceivedPage}
use Rattle.reg_core_lists.specs.declared.positions.Positions.{Positions}
use Rattle.reg_crl.specs.Signing.{Identity, signed_by}
use Rattle.reg_crl.specs.declared.signer.Signer.{Ghosts as Signer}
use Rattle.reg_io.specs.declared.begun.ReadyOrUnsigned.{ReadyOrUnsigned}
use Rattle.reg_io.specs.declared.begun.ReadyOrUnsigned.TheVariants.{Ready, Unsigned}
use Rattle.reg_ocsp.specs.Drafts.{Drafted}
use Rattle.reg_office.specs.AfterStoppedCommand.{ChangingCall, LeavesReported}
use Rattle.reg_office.specs.Calls.{OfficeLeads, OfficeReports, StandsFor, seen}
use Rattle.reg_office.specs.declared.office.Office.{Office}
use Rattle.reg_office_api.specs.Answered.{IsAnswered}
use Rattle.reg_office_api.specs.CallSteps.{OcspStep, RunsBatch, Signs}
use Rattle.reg_office_api.specs.Drafts.{BeginStep}
use Rattle.reg_office_api.specs.Follows.{AddsRows, FollowStep}
use Rattle.reg_office_api.specs.Settings.{ReplacesSchedule, SetsKeyIdentifier}
use Rattle.reg_office_api.specs.Signers.{OfficeSigners}
use Rattle.reg_office_api.specs.declared.follow.FollowFault.{FollowFault}
use Rattle.reg_office_api.specs.declared.response.OcspResponse.{OcspResponse}
use Rattle.reg_office_cache.proofs.UndecidedRows.{same_rows}
use Rattle.reg_office_cache.specs.Caching.{CachingLeads, CachingLooks}
use Rattle.reg_office_cache.specs.Undecided.{AreUndecided}
use Rattle.reg_office_cache.specs.declared.undecided.UndecidedRequests.{UndecidedRequests}
use Rattle.reg_office_reads.specs.Looking.{clock_refusal}
use Rattle.reg_store_tables.proofs.PublicLaws.{after_looked, kept_until, was_clean}
use Rattle.reg_store_tables.specs.LookUps.{LooksUp}
use Rattle.reg_store_tables.specs.Stays.{IsRegister, Looked}

-- ---- what stands after a look-up

if_some : (interrupted : Option ChangingCall) (P Q : Type 0) → (P → Q) → IfSome interrupted (λ call. P) → IfSome interrupted (λ call. Q)
if_some None P Q follows holds = tt
if_some (Some call) P Q follows holds = follows holds

module _ {C : Type 0} (g : Ghosts C) (old new : Held C) (looked : Looked g old new) where
  -- a connection that is closed stays closed
  stays_closed : IsFalse (state g old).is_open → HasCleanDisk (state g new) → IsFalse (state g new).is_open
  stays_closed closed clean =
      let shut : IsTrue (state g old).is_open → ⊥ = λ up. true≢false (sym up ∙ closed) in
      let any : IsRegister (state g old) = record {
        now = λ was up. absurd (shut up);
        committed = λ was up. absurd (shut up);
      } in
      false_from_ne_true (state g new).is_open (λ up. shut ((looked.same any).was_open clean up))

  -- a stop leaves what it would have left before
  leaves_looked : (signs : Signs) (identity : Identity) (records : Records) (interrupted : Option ChangingCall)
      → LeavesReported g signs old identity records interrupted → LeavesReported g signs new identity records interrupted
  leaves_looked signs identity records interrupted left =
      let was : HasCleanDisk (state g new) → HasCleanDisk (state g old) = was_clean (state g old) (state g new) looked.survives.clean in
      record {
        closed = λ clean. if_some interrupted (IsFalse (state g old).is_open) (IsFalse (state g new).is_open) (λ closed. stays_closed closed clean) (left.closed (was clean));
        leaves = λ clean trees may register. elim (looked.survives.crash clean trees may) [
          | inl before ↦ left.leaves (was clean) trees before register
          | inr made ↦ absurd made
        ];
      }

looked_stands : {C : Type 0} (g : Ghosts C) (signs : Signs) (old new : Held C × OfficeSigners) (signers : OfficeSigners) (records : Records)
    → Looked g old.0 new.0 → new.1 ≡ old.1 → StandsFor g signs old signers records → StandsFor g signs new signers records
looked_stands g signs old new signers records looked same (interrupted, (is, stood, left)) = (
  interrupted,
  (
    same ∙ is,
    record { shown = after_looked looked records stood.shown; sound = stood.sound },
    leaves_looked g old.0 new.0 looked signs signers.crls records interrupted left,
  ),
)

-- ---- calls: of the office `a` and the cached requests `known` before the call, `b` and `later` after it

module _ {C S : Type 0} (g : Ghosts C) (signer : Signer S) (a b : Office C S) where
  -- a call that keeps what is cached
  pub caches : (known later : UndecidedRequests) (step : OfficeSigners → Records → Records → Type 0) → OfficeLeads g signer step a b
      → ((signers : OfficeSigners) (before after : Records) → step signers before after → AreUndecided before known → AreUndecided after later)
      → CachingLeads g signer step (record { office = a; undecided = known }) (record { office = b; undecided = later })
  caches known later step leads keeps = (
    leads.0,
    (λ signers before stood clean.
        let (after, made, stands) = leads.1 signers before stood.0 clean in
        (after, made, (stands, keeps signers before after made stood.1))),
  )

  -- one that changes no record
  pub leaves : (known : UndecidedRequests) (step : OfficeSigners → Records → Records → Type 0)
      → ((signers : OfficeSigners) (before after : Records) → step signers before after → after ≡ before)
      → OfficeLeads g signer step a b → CachingLeads g signer step (record { office = a; undecided = known }) (record { office = b; undecided = known })
  leaves known step stays leads =
      caches known known step leads
      (λ signers before after made are. subst (λ (records : Records). AreUndecided records known) (sym (stays signers before after made)) are)

  pub looks : (known : UndecidedRequests) (IsSo : Records → Type 0) → OfficeReports g signer IsSo a b
      → CachingLooks g signer IsSo (record { office = a; undecided = known }) (record { office = b; undecided = known })
  looks known IsSo reports = leaves known (λ signers before after. IsSo before × (after ≡ before)) (λ signers before after made. made.1) reports

  -- look-ups of the tables that bring the cached requests up to date
  pub updates : (known later : UndecidedRequests) (IsSo : Records → Type 0)
      → LooksUp g a.store b.store (λ records. AreUndecided records known → AreUndecided records later × IsSo records)
      → (seen signer b).1 ≡ (seen signer a).1
      → CachingLooks g signer IsSo (record { office = a; undecided = known }) (record { office = b; undecided = later })
  updates known later IsSo found same = (
    was_clean (state g a.store) (state g b.store) found.looked.survives.clean,
    (λ signers before stood clean.
        let (interrupted, standing) = stood.0 in
        let (are, so) = found.found before (kept_until _ standing.1.shown) standing.1.sound.rows clean stood.1 in
        (before, (so, refl), (looked_stands g signer.signs (seen signer a) (seen signer b) signers before found.looked same stood.0, are))),
  )

-- such look-ups, and then a call that changes no record
pub looks_then : {C S : Type 0} (g : Ghosts C) (signer : Signer S) (a b c : Office C S) (known later : UndecidedRequests) (IsSo : Records → Type 0)
    (step : OfficeSigners → Records → Records → Type 0)
    → CachingLooks g signer IsSo (record { office = a; undecided = known }) (record { office = b; undecided = later })
    → ((signers : OfficeSigners) (before after : Records) → step signers before after → after ≡ before)
    → OfficeLeads g signer step b c → CachingLeads g signer step (record { office = a; undecided = known }) (record { office = c; undecided = later })
looks_then g signer a b c known later IsSo step first stays leads = (
  (λ clean. first.0 (leads.0 clean)),
  (λ signers before stood clean.
      let (between, found, stands) = first.1 signers before stood (leads.0 clean) in
      let now = subst (λ (records : Records). StandsFor g signer.signs (seen signer b) signers records × AreUndecided records later) found.1 stands in
      (leaves g signer b c later step stays leads).1 signers before now clean),
)

-- ---- what the steps leave

-- the answer to `overdue`
pub overdue_answered : (records : Records) (now : ℕ) (report : Option Overdue) → clock_refusal records now ≡ None → report ≡ overdue_report (overdue records now)
    → IsAnswered records now AskOverdue (Ok (OverdueAre report))
overdue_answered records now report timely is =
    ap (λ why. refused_or why (query_reply records now AskOverdue)) timely ∙ ap (λ (it : Option Overdue). Ok (OverdueAre it)) (sym is)

pub ocsp_stays : (signs : Signs) (now : ℕ) (request : List ℕ) (result : Result (List ℕ) NoMemory) (signers : OfficeSigners) (before after : Records)
    → OcspStep signs now request result signers before after → after ≡ before
ocsp_stays signs now request (Ok bytes) signers before after made = made.1
ocsp_stays signs now request (Err memory) signers before after made = made

pub begin_stays : (signs : Signs) (now : ℕ) (request : List ℕ) (result : Result (ReadyOrUnsigned OcspResponse Drafted) NoMemory)
    (signers : OfficeSigners) (before after : Records) → BeginStep signs now request result signers before after → after ≡ before
begin_stays signs now request (Ok (Ready response)) signers before after made = made.1
begin_stays signs now request (Ok (Unsigned draft)) signers before after made = made.1
begin_stays signs now request (Err memory) signers before after made = made

-- a setting is no row
pub schedule_kept : (known : UndecidedRequests) (steps : List (ℕ × ℕ)) (result : Result (Unit {0}) Fault) (before after : Records)
    → ReplacesSchedule steps result before after → AreUndecided before known → AreUndecided after known
schedule_kept known steps (Ok done) before after made are = rw made (same_rows before _ known refl refl refl are)
schedule_kept known steps (Err fault) before after made are = rw made are

pub identifier_kept : (known : UndecidedRequests) (octets : List ℕ) (result : Result (Unit {0}) Fault) (before after : Records)
    → SetsKeyIdentifier octets result before after → AreUndecided before known → AreUndecided after known
identifier_kept known octets (Ok done) before after made are = rw made (same_rows before _ known refl refl refl are)
identifier_kept known octets (Err fault) before after made are = rw made are

-- what is kept of the cached requests before commands or pages
module _ (known later : UndecidedRequests) (stays : (before : Records) → AreUndecided before known → AreUndecided before later) where
  unchanged : (before after : Records) → after ≡ before → AreUndecided before known → AreUndecided after later
  unchanged before after same are = subst (λ (records : Records). AreUndecided records later) (sym same) (stays before are)

  pub batch_kept : {Z : Type 0} (signs : Signs) (commands : List (ℕ × Command)) (result : Result (Vec (Result Reply Fault) Z) Fault)
      → ((identity : Identity) (before after : Records) (outcomes : List (Result Reply Fault)) → Run (signed_by signs identity) before commands outcomes after
      → AreUndecided before known → AreUndecided after later)
      → (signers : OfficeSigners) (before after : Records) → RunsBatch signs signers before commands result after → AreUndecided before known → AreUndecided after later
  batch_kept signs commands (Ok outcomes) ran signers before after made are = ran signers.crls before after outcomes.items made are
  batch_kept signs commands (Err fault) ran signers before after made are = unchanged before after made are

  pub follow_kept : (from : Positions) (pages : List ReceivedPage) (result : Result Positions FollowFault)
      → ((before after : Records) → AddsRows pages before after → AreUndecided before known → AreUndecided after later)
      → (before after : Records) → FollowStep from pages result before after → AreUndecided before known → AreUndecided after later
  follow_kept from pages (Ok reached) added before after (inl follows) are = added before after follows.rows are
  follow_kept from pages (Err fault) added before after (inl same) are = unchanged before after same are
  follow_kept from pages result added before after (inr without) are = unchanged before after without.stays are
