-- A log that is replayed, one line after the other.
use Rattle.std.proofs.Common.{◌≡◌, ◌⊎◌, ℕ, ◌+◌, List, [], ◌∷◌, ◌++◌, length, length-append, append-nil, arith, Option, Some, None, Result, Ok, Err, refl, sym, subst, inl, inr}
use Rattle.std.specs.Io.KnownBytes.{Consumes}
use Rattle.std.specs.List.{concat}
use Rattle.std.proofs.KnownBytes.{Consumes-nil, Consumes-trans}
use Rattle.reg_desk_cli.specs.declared.failure.Failure.{Failure}
use Rattle.reg_desk_cli.specs.declared.failure.Failure.TheVariants as failure
use Rattle.reg_lines.proofs.PublicLaws.{concat_push}
use Rattle.reg_lines.specs.Script.{IsWholeLine}
use Rattle.reg_desk_jobs.specs.Conversations.{AreWhole, IsCutOff, IsInput}
use Rattle.reg_desk_jobs.specs.Replays.{LineEnds, LineReplayed, Replayed, ReplayState, Replays, ReplaysLog, ReplaysMost, state_of}
use Rattle.reg_desk_jobs.specs.declared.replay_job.Renumbered.{Renumbered}
use Rattle.reg_desk_jobs.proofs.ConversationLemmas.{fails_in, input_is, whole_push}

-- one line more is replayed
pub replayed_push : (s m t : ReplayState) (log : List (List ℕ)) (line : List ℕ) → Replayed s log m → LineReplayed m line t → Replayed s (log ++ line ∷ []) t
replayed_push s m t [] line same step = (t, subst (λ x. LineReplayed x line t) same step, refl)
replayed_push s m t (first ∷ log) line run step = (run.0, run.1, replayed_push run.0 m t log line run.2 step)

-- what is left of an input, where that is known
abbrev rest_of : Option (List ℕ) → List ℕ
rest_of None = []
rest_of (Some bytes) = bytes

rest_is : (input : Option (List ℕ)) → IsInput input (rest_of input)
rest_is None = tt
rest_is (Some bytes) = refl

-- What is left of the log, and how far the replay is, when it begins.
module _ (input : Option (List ℕ)) (s : ReplayState) where
  -- the lines so far, `count` of them
  abbrev pub LogSoFar : ℕ → Option (List ℕ) → ReplayState → Type 0
  LogSoFar count input' t =
      (log : List (List ℕ)) × AreWhole log × Consumes input input' (concat log) × Replayed s log t × (length log ≡ count)

  pub log_begins : LogSoFar 0 input s
  log_begins = ([], tt, Consumes-nil input, refl, refl)

  module _ (count : ℕ) (input' input'' : Option (List ℕ)) (m : ReplayState) (so : LogSoFar count input' m) where
    pub log_goes_on : (line : List ℕ) (t : ReplayState) → IsWholeLine line → Consumes input' input'' line → LineReplayed m line t
        → LogSoFar (count + 1) input'' t
    log_goes_on line t whole took step = (
      so.0 ++ line ∷ [],
      whole_push so.0 line so.1 whole,
      subst (Consumes input input'') (sym (concat_push so.0 line)) (Consumes-trans input input' input'' _ line so.2 took),
      replayed_push s m t so.0 line so.3 step,
      omega (arith, so.4, length-append so.0 (line ∷ [])),
    )

    -- at a line
    pub log_stops : (read write read' write' : Type 0) → (read → read') → (write → write') → (line : List ℕ) (t : ReplayState) (why : Failure)
        → IsWholeLine line → Consumes input' input'' line → LineEnds read write m line t (Err why) → ReplaysLog read' write' input s t (Err why)
    log_stops read write read' write' reads writes line t why whole took (inl fails) =
        inl (fails_in read write (read' ⊎ ReplaysMost s t) write' (λ failed. inl (reads failed)) writes why fails)
    log_stops read write read' write' reads writes line t why whole took (inr (is, stops)) =
        let rest = rest_of input'' in
        let left = input_is input' input'' line rest took (rest_is input'') in
        inr (so.0, m, line ++ rest, so.1, so.3, input_is input input' (concat so.0) (line ++ rest) so.2 left, inl (is, line, rest, refl, whole, stops))

  -- at a last line without its end, and at the end
  module _ (read_failed write_failed : Type 0) (count : ℕ) (input' : Option (List ℕ)) (m : ReplayState) (so : LogSoFar count input' m) where
    pub log_cut : (left : List ℕ) × IsCutOff left × IsInput input' left → ReplaysLog read_failed write_failed input s m (Err failure.NoLineEnd)
    log_cut (left, cut, all) = inr (so.0, m, left, so.1, so.3, input_is input input' (concat so.0) left so.2 all, inr (refl, cut, refl))

    pub log_ends : IsInput input' [] → ReplaysLog read_failed write_failed input s m (Ok tt)
    log_ends none = (so.0, so.1, subst (IsInput input) (append-nil (concat so.0)) (input_is input input' (concat so.0) [] so.2 none), so.3)

-- over a connection of which no failure can be stated
replays_weaker : (read write : Type 0) (input : Option (List ℕ)) (s t : ReplayState) (result : Result (Unit {0}) Failure) → ReplaysLog read write input s t result
    → ReplaysLog (Unit {0}) (Unit {0}) input s t result
replays_weaker read write input s t (Ok done) replays = replays
replays_weaker read write input s t (Err why) (inl fails) =
    inl (fails_in (read ⊎ ReplaysMost s t) write (Unit {0} ⊎ ReplaysMost s t) (Unit {0}) (λ failed. inl tt) (λ failed. tt) why fails)
replays_weaker read write input s t (Err why) (inr ended) = inr ended

-- a reader has what the one under it has, and no number was given before
pub replays_under : (read write : Type 0) (sent sent' incoming incoming' out out' input under : Option (List ℕ)) (none numbers : List Renumbered)
    (result : Result (Unit {0}) Failure)
    → none ≡ [] → input ≡ under → ReplaysLog read write input (state_of sent incoming out none) (state_of sent' incoming' out' numbers) result
    → Replays under sent sent' incoming incoming' out out' result
replays_under read write sent sent' incoming incoming' out out' input under none numbers result is same replays = (
  numbers,
  subst (λ n. ReplaysLog (Unit {0}) (Unit {0}) under (state_of sent incoming out n) (state_of sent' incoming' out' numbers) result) is
      (subst (λ i. ReplaysLog (Unit {0}) (Unit {0}) i (state_of sent incoming out none) (state_of sent' incoming' out' numbers) result) same
      (replays_weaker read write input (state_of sent incoming out none) (state_of sent' incoming' out' numbers) result replays)),
)
