-- A command that was run, of an office's records.
use Rattle.std.specs.Prelude.{IsErrAnd, IsErrOf}
use Rattle.std.proofs.Common.{◌≡◌, ◌≢◌, ◌≤◌, ◌<◌, ℕ, List, [], Result, Ok, Err, refl, sym, subst}
use Rattle.sqlite_trees.specs.Tree.{Trees}
use Rattle.sqlite_trees.specs.View.{doubt}
use Rattle.sqlite_trees.specs.declared.store.Store.{Ghosts}
use Rattle.sqlite.specs.Held.{Held, state}
use Rattle.sqlite.specs.State.{HasCleanDisk}
use Rattle.reg_core.specs.Changes.{Fits, changed_by}
use Rattle.reg_core.specs.Checks.{clock_end}
use Rattle.reg_core.specs.Crls.{CertList}
use Rattle.reg_core.specs.Records.{Records}
use Rattle.reg_core.specs.Sound.{SoundRows}
use Rattle.reg_core.specs.Step.{IsSigned, refusal}
use Rattle.reg_core.specs.declared.change.Change.{Change}
use Rattle.reg_core.specs.declared.command.Command.{Command}
use Rattle.reg_core.specs.declared.command.Command.TheVariants.{Crl as IssueCrl}
use Rattle.reg_core.specs.declared.command.Reply.{Reply}
use Rattle.reg_core.specs.declared.refusal.Fault.{Fault}
use Rattle.reg_core.specs.declared.refusal.Fault.TheVariants.{Refused, Memory, Store, Signer as SignerFailed, Read, Write}
use Rattle.reg_crl.specs.Signing.{Identity, signed_by}
use Rattle.reg_store_tables.specs.Faults.{fault_of}
use Rattle.reg_store_tables.specs.Kept.{ShowsKept}
use Rattle.reg_store_tables.specs.Stays.{Changed, Looked}
use Rattle.reg_store_tables.specs.declared.fault.DatabaseFault.{DatabaseFault}
use Rattle.reg_store_changes.specs.AfterStoppedChange.{IsChanged}
use Rattle.reg_store_changes.specs.WithinTransactions.{StaysIdle}
use Rattle.reg_core_laws.specs.Run.{Happens}
use Rattle.reg_core_laws.proofs.PublicLaws.{accepted_clock, step_accepted, step_refused}
use Rattle.reg_store_tables.proofs.PublicLaws.{after_look, after_looked, was_clean}
use Rattle.reg_office.specs.AfterStoppedCommand.{Does}
use Rattle.reg_office.specs.Commands.{IsCommandRun}
use Rattle.reg_office_reads.specs.Faults.{IsOfficeFault, IsTableFault}
use Rattle.reg_office_reads.specs.Looking.{IsAcceptance, IsDecidedOr}
use Rattle.reg_office.specs.Stands.{Stands, HasOutcome}
use Rattle.reg_office_reads.proofs.PublicLaws.{of_failure}
use Rattle.reg_office.proofs.Following.{step_keeps_sound_for}
use Rattle.reg_office.proofs.RegisterSummary.{changed_failed, changed_made, looked_failed, never_signer, office_fault, stands_looked}

-- a command is accepted with this reply and this change, which the records allow
pub record MayChange (signed : CertList → List ℕ → Type 0) (records : Records) (now : ℕ) (command : Command) (reply : Reply) (change : Change) : Type 0 where
  pub happens : Happens signed records now command (Ok reply) (changed_by records now change)
  pub not_back : records.last ≤ now
  pub fits : Fits records now change

-- one that issues no CRL has no bytes to sign
no_bytes : (signed : CertList → List ℕ → Type 0) (records : Records) (now : ℕ) (command : Command) → command ≢ IssueCrl → IsSigned signed records now command []
no_bytes signed records now IssueCrl other = absurd (other refl)
no_bytes signed records now command other = refl

pub may_change : {signed : CertList → List ℕ → Type 0} (records : Records) (now : ℕ) (command : Command) (decided : Reply × Change)
    → command ≢ IssueCrl → IsAcceptance now command records decided → MayChange signed records now command decided.0 decided.1
may_change {signed = signed} records now command decided other it = record {
  happens = step_accepted signed records now command decided.0 [] (changed_by records now decided.1) it.accepted (no_bytes signed records now command other) it.replies it.changes (changed_by records now decided.1) refl;
  not_back = (accepted_clock records now command it.accepted).not_back;
  fits = it.fits;
}

-- a refusal that applies, or a fault of the store
pub fault_happens : {T : Type 0} (IsDecision : T → Type 0) (signed : CertList → List ℕ → Type 0) (records : Records) (now : ℕ) (command : Command) (fault : Fault)
    → now < clock_end → IsTableFault fault → IsDecidedOr {T = T} (refusal records now command) IsDecision (Err fault) → Happens signed records now command (Err fault) records
fault_happens IsDecision signed records now command (Refused why) below is_fault refused = (step_refused signed records now command why refused).step records refl
fault_happens IsDecision signed records now command Memory below is_fault it = (below, refl)
fault_happens IsDecision signed records now command Store below is_fault it = (below, refl)
fault_happens IsDecision signed records now command SignerFailed below is_fault it = absurd is_fault
fault_happens IsDecision signed records now command Read below is_fault it = absurd is_fault
fault_happens IsDecision signed records now command Write below is_fault it = absurd is_fault

the_fault : (fault other : Fault) → IsErrOf {T = Reply} (Err fault) other → fault ≡ other
the_fault fault other same = cc

module _ {C S : Type 0} (g : Ghosts C) (signs : Identity → List ℕ → List ℕ → Type 0) (identity : S → Identity) (failures : S → ℕ)
    (old : Held C) (signer : S) (now : ℕ) (command : Command) where
  -- over any records that stood, what happened
  abbrev IsRunTo : Held C → S → Result Reply Fault → Type 0
  IsRunTo new left outcome = IsCommandRun g signs identity failures old new signer left now command outcome

  -- nothing has changed: the command was refused, or came to a fault
  pub not_run : {new : Held C} {left : S} (outcome : Result Reply Fault) (fault : Fault)
      → IsErrAnd outcome (λ error. error ≡ fault) → identity left ≡ identity signer → Looked g old new
      → ((records : Records) → ShowsKept g old records → SoundRows records → HasCleanDisk (state g new) → Happens (signed_by signs (identity signer)) records now command (Err fault) records)
      → IsOfficeFault fault → (fault ≡ SignerFailed → (command ≡ IssueCrl) × (failures signer < failures left))
      → IsRunTo new left outcome
  not_run (Ok reply) fault failed same looked happens is_fault device = absurd failed
  not_run {new = new} {left = left} (Err other) fault failed same looked happens is_fault device = subst (λ (f : Fault). IsRunTo new left (Err f)) (sym failed) (record {
    step = λ records stands clean. subst (λ (signers : Identity). HasOutcome g signs new signers records now command (Err fault)) (sym same) (record {
      after = records;
      happens = happens records stands.shown stands.sound.rows clean;
      stands = stands_looked looked stands;
    });
    changed = looked_failed (Err fault) refl looked;
    idle = λ clean. looked.idle;
    same_identity = same;
    device = λ by_signer. device (the_fault fault SignerFailed by_signer);
    faults = is_fault;
  })

  module _ (mid new : Held C) (left : S) (reply : Reply) (change : Change) (same : identity left ≡ identity signer) (looked : Looked g old mid)
      (may : (records : Records) → ShowsKept g old records → SoundRows records → HasCleanDisk (state g mid) → MayChange (signed_by signs (identity signer)) records now command reply change)
      (forgets : doubt (state g mid).is_clean ≤ doubt (state g new).is_clean) (idle : StaysIdle g mid new) where
    -- over records that stood
    may_of : (records : Records) → Stands g signs old (identity signer) records → HasCleanDisk (state g new) → MayChange (signed_by signs (identity signer)) records now command reply change
    may_of records stands clean = may records stands.shown stands.sound.rows (was_clean (state g mid) (state g new) forgets clean)

    -- what a stop finds of the change
    does : HasCleanDisk (state g new) → (trees : Trees) → IsChanged g mid now change trees → Does g signs old (identity signer) now command trees
    does clean trees makes records stands =
        let it = may_of records stands clean in
        let after = changed_by records now change in
        record {
          answer = reply;
          after = after;
          happens = it.happens;
          rests = makes records (after_looked looked records stands.shown) stands.sound.rows it.not_back it.fits;
          sound = step_keeps_sound_for signs (identity signer) records now command (Ok reply) after stands.sound it.happens;
        }

    -- the change is made
    pub carried_out :
        ((records : Records) → ShowsKept g mid records → SoundRows records → records.last ≤ now → Fits records now change → ShowsKept g new (changed_by records now change))
        → {u : Unit {0}} → Changed {T = Unit {0}} {E = DatabaseFault} g mid new (IsChanged g mid now change) (Ok u) → IsRunTo new left (Ok reply)
    carried_out shows changed = record {
      step = λ records stands clean.
          let it = may_of records stands clean in
          let after = changed_by records now change in
          subst (λ (signers : Identity). HasOutcome g signs new signers records now command (Ok reply)) (sym same) (record {
            after = after;
            happens = it.happens;
            stands = record {
              shown = shows records (after_looked looked records stands.shown) stands.sound.rows it.not_back it.fits;
              sound = step_keeps_sound_for signs (identity signer) records now command (Ok reply) after stands.sound it.happens;
            };
          });
      changed = changed_made looked changed does;
      idle = λ clean was. idle clean (looked.idle was);
      same_identity = same;
      device = λ by_signer. absurd (let bad : ⊥ = cc in bad);
      faults = tt;
    }

    -- or it fails
    pub not_carried_out : (outcome : Result Reply Fault) (failure : DatabaseFault) → IsErrAnd outcome (λ fault. fault ≡ fault_of failure) → now < clock_end
        → Changed {T = Unit {0}} {E = DatabaseFault} g mid new (IsChanged g mid now change) (Err failure) → IsRunTo new left outcome
    not_carried_out (Ok other) failure failed below changed = absurd failed
    not_carried_out (Err other) failure failed below changed =
        let fault = fault_of failure in
        subst (λ (f : Fault). IsRunTo new left (Err f)) (sym failed) (record {
          step = λ records stands clean. subst (λ (signers : Identity). HasOutcome g signs new signers records now command (Err fault)) (sym same) (record {
            after = records;
            happens = of_failure (λ (f : Fault). Happens (signed_by signs (identity signer)) records now command (Err f) records) (below, refl) (below, refl) failure;
            stands = record {
              shown = after_look g mid new records forgets changed.err (after_looked looked records stands.shown);
              sound = stands.sound;
            };
          });
          changed = changed_failed (Err fault) refl looked changed does;
          idle = λ clean was. idle clean (looked.idle was);
          same_identity = same;
          device = λ by_signer. never_signer fault (of_failure IsTableFault tt tt failure) (the_fault fault SignerFailed by_signer);
          faults = office_fault fault (of_failure IsTableFault tt tt failure);
        })
