-- What commands come to that run one after another, and what a stop may find after them.
use Rattle.std.proofs.Common.{◌≡◌, ◌⊎◌, ◌≤◌, inl, inr, ℕ, suc, List, [], ◌∷◌, ◌++◌, length, Result, Ok, Err, IsTrue, refl, sym, ap, subst, arith}
use Rattle.sqlite_trees.specs.Tree.{Trees}
use Rattle.sqlite_trees.specs.View.{doubt}
use Rattle.sqlite_trees.specs.declared.store.Store.{Ghosts}
use Rattle.sqlite.specs.Held.{Held, state}
use Rattle.sqlite.specs.State.{HasCleanDisk, IsLive}
use Rattle.reg_core.specs.Records.{Records}
use Rattle.reg_core.specs.declared.command.Command.{Command}
use Rattle.reg_core.specs.declared.command.Reply.{Reply}
use Rattle.reg_core.specs.declared.refusal.Fault.{Fault}
use Rattle.reg_crl.specs.Signing.{Identity}
use Rattle.reg_store.proofs.PublicLaws.{at_rest, live_at_rest}
use Rattle.reg_store_tables.specs.AfterStop.{HaveRegisterSchema, ShowsDerivedAfterStop}
use Rattle.reg_store_tables.proofs.PublicLaws.{was_clean}
use Rattle.reg_office.specs.AfterStoppedCommand.{AreRunByOne, HaveNoReply, ShowsPrefix, IsRunOne}
use Rattle.reg_office.specs.Stands.{HasRun, Stands}

-- between calls a stop finds what was committed
abbrev pub Settles : {C : Type 0} → Ghosts C → Type 0
Settles {C = C} g = (held : Held C) (trees : Trees) → IsTrue (state g held).is_open → (state g held).may_leave trees → trees ≡ (state g held).committed.trees

module _ {C : Type 0} (g : Ghosts C) (signs : Identity → List ℕ → List ℕ → Type 0) (identity : Identity) where
  -- one command more
  pub one_more : (old mid new : Held C) (commands : List (ℕ × Command)) (came : List (Result Reply Fault)) (timed : ℕ × Command) (outcome : Result Reply Fault)
      → AreRunByOne g signs identity old commands came mid → IsRunOne g signs identity mid new timed.0 timed.1 outcome
      → AreRunByOne g signs identity old (commands ++ timed ∷ []) (came ++ outcome ∷ []) new
  one_more old mid new [] [] timed outcome same one = (new, subst (λ (held : Held C). IsRunOne g signs identity held new timed.0 timed.1 outcome) same one, refl)
  one_more old mid new [] (first ∷ came) timed outcome runs one = absurd runs
  one_more old mid new (first ∷ commands) [] timed outcome runs one = absurd runs
  one_more old mid new (first ∷ commands) (outcome_first ∷ came) timed outcome (next, here, rest) one = (next, here, one_more next mid new commands came timed outcome rest one)

  -- one outcome for each
  pub run_length : (old new : Held C) (commands : List (ℕ × Command)) (came : List (Result Reply Fault)) → AreRunByOne g signs identity old commands came new → length came ≡ length commands
  run_length old new [] [] same = refl
  run_length old new [] (first ∷ came) runs = absurd runs
  run_length old new (first ∷ commands) [] runs = absurd runs
  run_length old new (first ∷ commands) (outcome_first ∷ came) (next, here, rest) = ap suc (run_length next new commands came rest)

  -- no fault of the disk is forgotten
  pub run_clean : (old new : Held C) (commands : List (ℕ × Command)) (came : List (Result Reply Fault)) → AreRunByOne g signs identity old commands came new
      → doubt (state g old).is_clean ≤ doubt (state g new).is_clean
  run_clean old new [] [] same = subst (λ (held : Held C). doubt (state g old).is_clean ≤ doubt (state g held).is_clean) (sym same) (omega arith)
  run_clean old new [] (first ∷ came) runs = absurd runs
  run_clean old new (first ∷ commands) [] runs = absurd runs
  run_clean old new (first ∷ commands) (outcome_first ∷ came) (next, here, rest) = let later = run_clean next new commands came rest in omega (arith, here.survives.clean, later)

  -- they ran, over records that stood
  pub ran_all : (old new : Held C) (records : Records) (commands : List (ℕ × Command)) (came : List (Result Reply Fault))
      → AreRunByOne g signs identity old commands came new → Stands g signs old identity records → HasCleanDisk (state g new) → HasRun g signs new identity records commands came
  ran_all old new records [] [] same stands clean =
      record { after = records; run = refl; stands = subst (λ (held : Held C). Stands g signs held identity records) (sym same) stands }
  ran_all old new records [] (first ∷ came) runs stands clean = absurd runs
  ran_all old new records (first ∷ commands) [] runs stands clean = absurd runs
  ran_all old new records (first ∷ commands) (outcome_first ∷ came) (next, here, rest) stands clean =
      let step = here.step records stands (was_clean (state g next) (state g new) (run_clean next new commands came rest) clean) in
      let later = ran_all next new step.after commands came rest step.stands clean in
      record { after = later.after; run = (step.after, step.happens, later.run); stands = later.stands }

  -- what a stop finds was there before the first of them, of which none was replied to, or they ran in part
  abbrev Finds : Held C → Records → List (ℕ × Command) → List (Result Reply Fault) → Trees → Type 0
  Finds old records commands came trees = ((state g old).may_leave trees × HaveNoReply came) ⊎ ShowsPrefix signs identity records commands came trees

  -- what it finds of those behind the first, behind it
  behind : (records : Records) (timed : ℕ × Command) (outcome : Result Reply Fault) (commands : List (ℕ × Command)) (came : List (Result Reply Fault)) (trees : Trees) (old next : Held C)
      → Settles g → ((found : Trees) → (state g old).may_leave found → HaveRegisterSchema found)
      → Stands g signs old identity records → IsRunOne g signs identity old next timed.0 timed.1 outcome → HasCleanDisk (state g next)
      → HaveNoReply came → (state g next).may_leave trees → Finds old records (timed ∷ commands) (outcome ∷ came) trees
  behind records timed (Ok reply) commands came trees old next settles legal stands one clean none may =
      let step = one.step records stands clean in
      let up : IsTrue (state g next).is_open = one.live clean in
      let sound : HaveRegisterSchema trees = elim (one.survives.crash clean trees may) [
        | inl before ↦ legal trees before
        | inr does ↦ (does records stands).rests.3
      ] in
      inr (record {
        done = timed ∷ [];
        left = commands;
        commands_are = refl;
        came = Ok reply ∷ [];
        others = came;
        outcomes_are = refl;
        no_reply = none;
        after = step.after;
        run = (step.after, step.happens, refl);
        sound = step.stands.sound;
        rests = inl (at_rest g next step.after trees clean up step.stands.shown sound (settles next trees up may));
      })
  behind records timed (Err fault) commands came trees old next settles legal stands one clean none may = elim (one.survives.crash clean trees may) [
    | inl before ↦ inl (before, none)
    | inr does ↦ inr (record {
      done = [];
      left = timed ∷ commands;
      commands_are = refl;
      came = [];
      others = Err fault ∷ came;
      outcomes_are = refl;
      no_reply = none;
      after = records;
      run = refl;
      sound = stands.sound;
      rests = inr (does records stands);
    })
  ]

  found_all : (old new : Held C) (records : Records) (commands : List (ℕ × Command)) (came : List (Result Reply Fault)) (trees : Trees)
      → Settles g → ((found : Trees) → (state g old).may_leave found → HaveRegisterSchema found)
      → Stands g signs old identity records → AreRunByOne g signs identity old commands came new → HasCleanDisk (state g new) → (state g new).may_leave trees
      → Finds old records commands came trees
  found_all old new records [] [] trees settles legal stands same clean may = inl (subst (λ (held : Held C). (state g held).may_leave trees) same may, tt)
  found_all old new records [] (first ∷ came) trees settles legal stands runs clean may = absurd runs
  found_all old new records (first ∷ commands) [] trees settles legal stands runs clean may = absurd runs
  found_all old new records (first ∷ commands) (outcome_first ∷ came) trees settles legal stands (next, here, rest) clean may =
      let was = was_clean (state g next) (state g new) (run_clean next new commands came rest) clean in
      let step = here.step records stands was in
      let still : (found : Trees) → (state g next).may_leave found → HaveRegisterSchema found = λ found left. elim (here.survives.crash was found left) [
        | inl before ↦ legal found before
        | inr does ↦ (does records stands).rests.3
      ] in
      elim (found_all next new step.after commands came trees settles still step.stands rest clean may) [
        | inl before ↦ behind records first outcome_first commands came trees old next settles legal stands here was before.1 before.0
        | inr part ↦ inr (record {
          done = first ∷ part.done;
          left = part.left;
          commands_are = ap (◌∷◌ first) part.commands_are;
          came = outcome_first ∷ part.came;
          others = part.others;
          outcomes_are = ap (◌∷◌ outcome_first) part.outcomes_are;
          no_reply = part.no_reply;
          after = part.after;
          run = (step.after, step.happens, part.run);
          sound = part.sound;
          rests = part.rests;
        })
      ]

  -- so they ran in part, over a register that was open
  pub partly_run : (old new : Held C) (records : Records) (commands : List (ℕ × Command)) (came : List (Result Reply Fault)) (trees : Trees)
      → Settles g → Stands g signs old identity records → IsTrue (state g old).is_open → IsLive (state g old)
      → AreRunByOne g signs identity old commands came new → HasCleanDisk (state g new) → (state g new).may_leave trees
      → ShowsPrefix signs identity records commands came trees
  partly_run old new records commands came trees settles stands up live runs clean may =
      let was = was_clean (state g old) (state g new) (run_clean old new commands came runs) clean in
      let rest : (found : Trees) → (state g old).may_leave found → ShowsDerivedAfterStop records found = λ found left. live_at_rest g old records found was up stands.shown live (settles old found up left) in
      elim (found_all old new records commands came trees settles (λ found left. (rest found left).3) stands runs clean may) [
        | inl before ↦ record {
          done = [];
          left = commands;
          commands_are = refl;
          came = [];
          others = came;
          outcomes_are = refl;
          no_reply = before.1;
          after = records;
          run = refl;
          sound = stands.sound;
          rests = inl (rest trees before.0);
        }
        | inr part ↦ part
      ]
