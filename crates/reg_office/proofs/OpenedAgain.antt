-- What a stop may leave stands in a register that is opened again.
use Rattle.std.specs.Prelude.{IsSomeAnd}
use Rattle.std.proofs.Common.{◌≡◌, ◌⊎◌, ℕ, List, [], ◌∷◌, Option, Some, None, Result, inl, inr, subst}
use Rattle.std.proofs.Math.Logic.{∥∥₁_map}
use Rattle.sqlite_trees.specs.declared.store.Store.{Ghosts}
use Rattle.sqlite.specs.Held.{Held, state}
use Rattle.sqlite.specs.State.{IsLive, Opens}
use Rattle.reg_core.specs.Changes.{with_schedule}
use Rattle.reg_core.specs.Records.{Records}
use Rattle.reg_core.specs.declared.command.Command.{Command}
use Rattle.reg_core.specs.declared.command.Reply.{Reply}
use Rattle.reg_core.specs.declared.refusal.Fault.{Fault}
use Rattle.reg_crl.specs.Signing.{Identity}
use Rattle.reg_der.specs.Issuers.{with_key_identifier}
use Rattle.sqlite_catalog.specs.Listing.{IsSound}
use Rattle.sqlite_schema.specs.declared.schema.Schema.{Schema}
use Rattle.reg_store.proofs.PublicLaws.{shows_again}
use Rattle.reg_store_tables.specs.Schema.{register_schema}
use Rattle.reg_store_tables.specs.AfterStop.{HaveRegisterSchema, ShowsDerivedAfterStop}
use Rattle.reg_office.specs.AfterStoppedCommand.{ChangingCall, IsCallDone, IsDone, IsNext, ShowsPrefix, LeavesReported, batch_call, command_call, follow_call, schedule_call, identifier_call}
use Rattle.reg_office.specs.OpenedAgain.{OpensReported, ShowsAccepted, ShowsCallDone, StandsPartlyRun}
use Rattle.reg_office.specs.Stands.{SoundFor, Stands}

module _ {C : Type 0} (g : Ghosts C) (signs : Identity → List ℕ → List ℕ → Type 0) (again : Held C) (identity : Identity) (opens : Opens (state g again)) (live : IsLive (state g again)) where
  pub stands_done : (records : Records) (now : ℕ) (command : Command) → IsDone signs identity records now command (state g again).committed.trees → ShowsAccepted g signs again identity records now command
  stands_done records now command it = record {
    answer = it.answer;
    came = record {
      after = it.after;
      happens = it.happens;
      stands = record { shown = shows_again g again opens live it.after it.rests; sound = it.sound };
    };
  }

  stands_next : (records : Records) (left : List (ℕ × Command)) → IsNext (λ after now command. IsDone signs identity after now command (state g again).committed.trees) records left
      → IsNext (ShowsAccepted g signs again identity) records left
  stands_next records [] h = absurd h
  stands_next records (timed ∷ left) h = stands_done records timed.0 timed.1 h

  pub stands_partly_run :
      (records : Records) (commands : List (ℕ × Command)) (outcomes : List (Result Reply Fault)) → ShowsPrefix signs identity records commands outcomes (state g again).committed.trees
      → StandsPartlyRun g signs again identity records commands outcomes
  stands_partly_run records commands outcomes it = record {
    done = it.done;
    left = it.left;
    commands_are = it.commands_are;
    came = it.came;
    others = it.others;
    outcomes_are = it.outcomes_are;
    no_reply = it.no_reply;
    after = it.after;
    run = it.run;
    sound = it.sound;
    rests = elim (it.rests) [
      | inl rests ↦ inl (record { shown = shows_again g again opens live it.after rests; sound = it.sound })
      | inr next ↦ inr (stands_next it.after it.left next)
    ];
  }

  shows_call : (records : Records) (call : ChangingCall) → HaveRegisterSchema (state g again).committed.trees → IsCallDone signs identity records call (state g again).committed.trees → ShowsCallDone g signs again identity records call
  shows_call records (command_call now command) schema it = stands_done records now command it
  shows_call records (batch_call commands) schema it =
      (it.outcomes, record { after = it.after; run = it.run; stands = record { shown = shows_again g again opens live it.after (it.rests schema); sound = it.sound } })
  shows_call records (follow_call pages) schema it =
      (it.reached, it.after, it.follows, record { shown = shows_again g again opens live it.after (it.rests schema); sound = it.sound })
  shows_call records (schedule_call steps) schema rests = shows_again g again opens live (with_schedule records steps) rests
  shows_call records (identifier_call octets) schema rests = shows_again g again opens live (with_key_identifier records octets) rests

  pub stands_reported : (records : Records) (interrupted : Option ChangingCall) → SoundFor signs identity records → HaveRegisterSchema (state g again).committed.trees
      → ShowsDerivedAfterStop records (state g again).committed.trees
      ⊎ IsSomeAnd interrupted (λ call. IsCallDone signs identity records call (state g again).committed.trees)
      → Stands g signs again identity records ⊎ IsSomeAnd interrupted (λ call. ShowsCallDone g signs again identity records call)
  stands_reported records interrupted sound schema (inl rests) = inl (record { shown = shows_again g again opens live records rests; sound = sound })
  stands_reported records (Some call) sound schema (inr done) = inr (shows_call records call schema done)
  stands_reported records None sound schema (inr done) = absurd done

  -- a register's tables obey its schema
  pub registers_again : (state g again).committed.schema ≡ register_schema → HaveRegisterSchema (state g again).committed.trees
  registers_again same = subst (λ (schema : Schema). IsSound schema (state g again).committed.trees) same (live opens.is_open).1

-- what a stop leaves stands
pub opens_again : {C : Type 0} (g : Ghosts C) (signs : Identity → List ℕ → List ℕ → Type 0) (held : Held C) (identity : Identity) (records : Records)
    (interrupted : Option ChangingCall)
    → SoundFor signs identity records → LeavesReported g signs held identity records interrupted → OpensReported g signs held identity records interrupted
opens_again g signs held identity records interrupted sound left again opened same = ∥∥₁_map opened.found (λ may.
    let reported : Stands g signs again identity records ⊎ IsSomeAnd interrupted (λ call. ShowsCallDone g signs again identity records call) =
    let schema = registers_again g signs again identity opened.opens opened.live same in
    stands_reported g signs again identity opened.opens opened.live records interrupted sound schema
    (left.leaves opened.honest (state g again).committed.trees may schema) in
    reported)
