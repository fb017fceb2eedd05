-- The calls of an office over a store, as steps of its records.
use Rattle.std.proofs.Common.{◌≡◌, ℕ, List, Option, refl, sym, ◌∙◌, subst}
use Rattle.std.specs.Prelude.{Result, Ok, Err, Vec, IfOk, IfErr, IsErrAnd, IsErrOf}
use Rattle.sqlite.specs.Held.{Held, state}
use Rattle.sqlite.specs.State.{HasCleanDisk}
use Rattle.sqlite_trees.specs.declared.store.Store.{Ghosts}
use Rattle.reg_office_api.specs.Items.{items_of}
use Rattle.reg_core.specs.Records.{Records}
use Rattle.reg_core.specs.Sound.{SoundRows}
use Rattle.reg_core.specs.declared.command.Command.{Command}
use Rattle.reg_core.specs.declared.command.Reply.{Reply}
use Rattle.reg_core.specs.declared.memory.Memory.{Memory as NoMemory}
use Rattle.reg_core.specs.declared.refusal.Fault.{Fault}
use Rattle.reg_core.specs.declared.refusal.Fault.TheVariants.{Signer as SignerFailed}
use Rattle.reg_crl.specs.Signing.{Identity}
use Rattle.reg_crl.specs.declared.signer.Signer.{Ghosts as Signer}
use Rattle.reg_office_api.specs.Signers.{OfficeSigners}
use Rattle.reg_office_api.specs.CallSteps.{CommandStep, Signs, Runs, AnswersOcsp}
use Rattle.reg_office_api.specs.Drafts.{Begins, Drafts, IsDraft}
use Rattle.reg_office_api.specs.Responses.{Replies}
use Rattle.reg_office_api.specs.declared.response.OcspResponse.{OcspResponse}
use Rattle.reg_ocsp.specs.Drafts.{Drafted}
use Rattle.reg_io.specs.declared.begun.ReadyOrUnsigned.{ReadyOrUnsigned}
use Rattle.reg_io.specs.declared.begun.ReadyOrUnsigned.TheVariants.{Ready, Unsigned}
use Rattle.reg_store_tables.specs.Stays.{Changed, Looked}
use Rattle.reg_store_tables.proofs.PublicLaws.{kept_until, was_clean, ok_then}
use Rattle.reg_office_reads.proofs.PublicLaws.{draft_replied}
use Rattle.reg_office.specs.AfterStoppedCommand.{ChangingCall, Does, command_call}
use Rattle.reg_office.specs.Calls.{LeadsOver, OfficeLeads, OfficeLooks, OfficeStops, RanIn, StandsWith, StopsOver, seen}
use Rattle.reg_office_reads.specs.Beginning.{IsBegun, IsSignedBy}
use Rattle.reg_office_reads.specs.Faults.{IsTableFault}
use Rattle.reg_store_tables.specs.LookUps.{LooksUp}
use Rattle.reg_office.specs.Stands.{Stands, HasOutcome}
use Rattle.reg_office_api.specs.Ocsp.{IsOcspReply}
use Rattle.reg_office.proofs.Leaving.{leaves_done, leaves_looked}
use Rattle.reg_office_reads.specs.Answering.{signers_of}
use Rattle.reg_office.specs.declared.office.Office.{Office}
use Rattle.reg_office_reads.specs.declared.responder.Responder.{Responder as Held_by}
use Rattle.reg_office.proofs.RegisterSummary.{stands_looked}
use Rattle.reg_office.proofs.Stopping.{Settles}

-- the same who signs CRLs and the same who answers are the same who sign
pub same_signers : {S : Type 0} (identity : S → Identity) (crls crls' : Identity) (responder responder' : Held_by S)
    → crls' ≡ crls → responder' ≡ responder → signers_of identity crls' responder' ≡ signers_of identity crls responder
same_signers identity crls crls' responder responder' same still = λ i. signers_of identity (same i) (still i)

-- The calls of an office: its store and who signs, before and after.
module _ {C : Type 0} (g : Ghosts C) (signs : Signs) (old new : Held C) (signers signatory' : OfficeSigners) (same : signatory' ≡ signers) where
  -- a command
  command_stops : (now : ℕ) (command : Command) (outcome : Result Reply Fault) → Settles g
      → Changed g old new (Does g signs old signers.crls now command) outcome
      → ((records : Records) → Stands g signs old signers.crls records → HasCleanDisk (state g new) → HasOutcome g signs new signatory'.crls records now command outcome)
      → StopsOver g signs (command_call now command) outcome (λ those before after. Runs signs those before now command outcome after) (old, signers) (new, signatory')
  command_stops now command outcome settles changed step = (
    was_clean (state g old) (state g new) changed.survives.clean,
    (λ those before first stood clean.
        let (is, stands, left) = stood in
        let are : signatory' ≡ those = same ∙ is in
        let Did : OfficeSigners → Type 0 = λ v. Changed g old new (Does g signs old v.crls now command) outcome in
        let Came : OfficeSigners → Records → Type 0 = λ v records. HasOutcome g signs new v.crls records now command outcome in
        let Steps : OfficeSigners → Type 0 = λ v. (records : Records) → Stands g signs old v.crls records → HasCleanDisk (state g new) → Came those records in
        let steps : Steps those = subst Steps is (λ records standing whole. subst (λ (v : OfficeSigners). Came v records) are (step records standing whole)) in
        let came = steps before stands clean in
        let (last, leaves, may) = leaves_done g signs those.crls old new before came.after now command settles stands came.stands clean first outcome (subst Did is changed) steps came.happens left in
        (came.after, last, came.happens, (are, came.stands, leaves), may)),
  )

-- a call that may change the records is a step of them
pub stops_lead : {C T : Type 0} (g : Ghosts C) (signs : Signs) (it : ChangingCall) (result : Result T Fault) (step : OfficeSigners → Records → Records → Type 0)
    (old new : Held C × OfficeSigners) → StopsOver g signs it result step old new → LeadsOver g signs step old new
stops_lead g signs it result step old new stops = (
  stops.0,
  (λ those before stood clean.
      let (first, stands) = stood in
      let (after, last, made, stands_now, may) = stops.1 those before first stands clean in
      (after, made, (last, stands_now))),
)

-- what stands after a look-up, and what a stop leaves then
pub looked_stands : {C : Type 0} (g : Ghosts C) (signs : Signs) (old new : Held C × OfficeSigners) (signers : OfficeSigners) (records : Records)
    (interrupted : Option ChangingCall) → Looked g old.0 new.0 → new.1 ≡ old.1
    → StandsWith g signs old signers records interrupted → StandsWith g signs new signers records interrupted
looked_stands g signs old new signers records interrupted looked same (is, stands, left) =
    (same ∙ is, stands_looked looked stands, leaves_looked g signs signers.crls old.0 new.0 records interrupted looked left)

-- a look-up: what holds of those who signed holds of those who sign
leads_on : {C : Type 0} (g : Ghosts C) (signs : Signs) (old new : Held C × OfficeSigners) → Looked g old.0 new.0 → new.1 ≡ old.1
    → (Did : OfficeSigners → Records → Records → Type 0)
    → ((records : Records) → Stands g signs old.0 old.1.crls records → HasCleanDisk (state g new.0) → Did old.1 records records)
    → LeadsOver g signs Did old new
leads_on g signs old new looked same Did did = (
  was_clean (state g old.0) (state g new.0) looked.survives.clean,
  (λ those before stood clean.
      let (interrupted, stands_with) = stood in
      let (is, stands, left) = stands_with in
      let P : OfficeSigners → Type 0 = λ v. Stands g signs old.0 v.crls before in
      let did_so = subst (λ (v : OfficeSigners). Did v before before) is (did before (subst P (sym is) stands) clean) in
      (before, did_so, (interrupted, looked_stands g signs old new those before interrupted looked same stands_with))),
)

-- An office before a look-up and after it.
module _ {C S : Type 0} (g : Ghosts C) (signer : Signer S) (old new : Office C S) where
  -- a command that was run
  pub ran_stops : (now : ℕ) (command : Command) (outcome : Result Reply Fault) → Settles g → RanIn g signer now command outcome old new
      → new.responder ≡ old.responder → OfficeStops g signer (command_call now command) outcome (CommandStep signer.signs now command outcome) old new
  ran_stops now command outcome settles ran same =
      command_stops g signer.signs _ _ _ _ (same_signers signer.identity _ _ _ _ ran.same_identity same) now command outcome settles ran.changed ran.step

  pub ran_leads : (now : ℕ) (command : Command) (outcome : Result Reply Fault) → Settles g → RanIn g signer now command outcome old new
      → new.responder ≡ old.responder → OfficeLeads g signer (CommandStep signer.signs now command outcome) old new
  ran_leads now command outcome settles ran same =
      stops_lead g signer.signs (command_call now command) outcome (CommandStep signer.signs now command outcome) (seen signer old) (seen signer new)
      (ran_stops now command outcome settles ran same)

  -- what holds of the records is a step of them that leaves them
  pub office_leads : (Holds : Records → Type 0) (Did : OfficeSigners → Records → Records → Type 0) → OfficeLooks g signer Holds old new
      → ((records : Records) → Holds records → Did (seen signer old).1 records records) → OfficeLeads g signer Did old new
  office_leads Holds Did looks did =
      leads_on g signer.signs (seen signer old) (seen signer new) looks.looked looks.same Did
      (λ records stands is_clean. did records (looks.found records stands is_clean))

  -- a look-up of the store is one of the office, where those who sign are the same
  pub office_looks : (IsSo Holds : Records → Type 0) → LooksUp g old.store new.store IsSo → (seen signer new).1 ≡ (seen signer old).1
      → ((records : Records) → SoundRows records → IsSo records → Holds records) → OfficeLooks g signer Holds old new
  office_looks IsSo Holds looks same holds = record {
    looked = looks.looked;
    same = same;
    found = λ records stands is_clean. holds records stands.sound.rows (looks.found records (kept_until _ stands.shown) stands.sound.rows is_clean);
  }

  -- an OCSP request that is answered
  pub response_leads : {Z : Type 0} (now : ℕ) (request : List ℕ) (result : Result (Vec ℕ Z) NoMemory)
      → OfficeLooks g signer (λ records. IfOk result (λ answer. IsOcspReply signer.signs (seen signer old).1.answers records now request answer.items)) old new
      → OfficeLeads g signer (λ signers before after. AnswersOcsp signer.signs signers before now request (items_of result) after) old new
  response_leads now request (Ok bytes) looks =
      office_leads _ (λ signers before after. AnswersOcsp signer.signs signers before now request (Ok bytes.items) after) looks (λ records replied. (replied, refl))
  response_leads now request (Err memory) looks =
      office_leads _ (λ signers before after. AnswersOcsp signer.signs signers before now request (Err memory) after) looks (λ records replied. refl)

  -- an OCSP request that is begun
  pub beginning_leads : (now : ℕ) (request : List ℕ) (result : Result (ReadyOrUnsigned OcspResponse Drafted) NoMemory)
      → OfficeLooks g signer (λ records. IfOk result (IsBegun signer.signs (seen signer old).1.answers records now request)) old new
      → OfficeLeads g signer (λ signers before after. Begins (Replies signer.signs signers) (Drafts signers) before now request result after) old new
  beginning_leads now request (Ok (Ready response)) looks =
      office_leads _ (λ signers before after. Replies signer.signs signers before now request (Ok (response.kind, response.bytes.items)) after) looks (λ records replied. (replied, refl))
  beginning_leads now request (Ok (Unsigned draft)) looks =
      office_leads _ (λ signers before after. Drafts signers before now request draft after) looks (λ records left. (left, refl))
  beginning_leads now request (Err memory) looks =
      office_leads _ (λ signers before after. Replies signer.signs signers before now request (Err memory) after) looks (λ records replied. refl)

  -- a look-up, after which those who sign are asked for a signature: what is made of what was told
  pub then_signed : {middle : Office C S} (IsSo Holds : Records → Type 0) → OfficeLooks g signer IsSo old middle → new.store ≡ middle.store
      → (seen signer new).1 ≡ (seen signer middle).1 → ((records : Records) → IsSo records → Holds records) → OfficeLooks g signer Holds old new
  then_signed {middle = middle} IsSo Holds looks stays same holds =
      let P : Held C → Type 0 = λ held. Looked g old.store held in
      let Q : Held C → Type 0 = λ held. HasCleanDisk (state g held) in
      record {
        looked = subst P (sym stays) looks.looked;
        same = same ∙ looks.same;
        found = λ records stands is_clean. holds records (looks.found records stands (subst Q stays is_clean));
      }

  -- what was left to be signed, once it is signed
  pub signed_looks : {Z : Type 0} {middle : Office C S} (now : ℕ) (request : List ℕ) (draft : Drafted) (result : Result (Vec ℕ Z) NoMemory)
      → OfficeLooks g signer (λ records. IsDraft (seen signer old).1.answers records now request draft) old middle → new.store ≡ middle.store
      → (seen signer new).1 ≡ (seen signer middle).1 → IfOk result (λ bytes. IsSignedBy signer.signs (seen signer middle).1.answers draft bytes.items)
      → OfficeLooks g signer (λ records. IfOk result (λ answer. IsOcspReply signer.signs (seen signer old).1.answers records now request answer.items)) old new
  signed_looks {middle = middle} now request draft result looks stays same signed =
      let signers = (seen signer old).1 in
      then_signed (λ records. IsDraft signers.answers records now request draft)
      (λ records. IfOk result (λ answer. IsOcspReply signer.signs signers.answers records now request answer.items)) looks stays same
      (λ records left. ok_then result signed (λ bytes by.
      let P : OfficeSigners → Type 0 = λ it. IsSignedBy signer.signs it.answers draft bytes.items in
      draft_replied signer.signs signers.answers records now request draft bytes.items left (subst P looks.same by)))

-- an error gives nothing
pub gives_nothing : {T E : Type 0} (IsReason : E → Type 0) (Holds : T → Type 0) (result : Result T E) → IsErrAnd result IsReason → IfOk result Holds
gives_nothing IsReason Holds (Ok x) failed = absurd failed
gives_nothing IsReason Holds (Err e) failed = tt

-- a fault of the tables is none of the signer
pub table_fault : (outcome : Result Reply Fault) → IfErr outcome IsTableFault → ¬ (IsErrOf outcome SignerFailed)
table_fault outcome faults is =
    let P : Result Reply Fault → Type 0 = λ o. IfErr o IsTableFault in
    subst P is faults
