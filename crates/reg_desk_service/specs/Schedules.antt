-- Setting a schedule.
use Rattle.std.specs.Prelude.{◌≡◌, ◌⊎◌, ℕ, List, [], ◌∷◌, ◌++◌, codes, Result, Ok, Err}
use Rattle.reg_core.specs.Records.{Records}
use Rattle.reg_core.specs.Schedule.{IsSchedule}
use Rattle.reg_desk_cli.specs.Checks.{IsNoSchedule}
use Rattle.reg_desk_cli.specs.ExitStatus.{failure_line}
use Rattle.reg_desk_cli.specs.declared.failure.Failure.{Failure}
use Rattle.reg_core.specs.declared.refusal.Fault.{Fault}
use Rattle.reg_office_api.specs.Settings.{ReplacesSchedule}
use Rattle.reg_desk_service.specs.RegisterUses.{exit_of}

-- the steps are no schedule, they are refused, and no record changes; or they are one, and the result is that of setting it
abbrev pub SetsSteps : List (ℕ × ℕ) → Result (Unit {0}) Failure → Records → Records → Type 0
SetsSteps steps result before after =
    ((why : Failure) × (result ≡ Err why) × IsNoSchedule steps why × (after ≡ before))
    ⊎ (IsSchedule steps × (set : Result (Unit {0}) Fault) × (result ≡ exit_of set)
    × ReplacesSchedule steps set before after)

-- the reply to a line that sets a schedule, without its LF
abbrev pub set_line : Result (Unit {0}) Failure → List ℕ
set_line (Ok done) = codes "schedule set"
set_line (Err why) = failure_line why

-- the reply has that line, or is empty if there was no memory for it
abbrev pub RepliesSetting : Result (Unit {0}) Failure → List ℕ → Type 0
RepliesSetting set text = (text ≡ set_line set ++ 10 ∷ []) ⊎ (text ≡ [])

-- the reply to a `schedule` line with these steps, and the records before it and after it
abbrev pub SetAt : List (ℕ × ℕ) → Records → List ℕ → Records → Type 0
SetAt steps before text after =
    (result : Result (Unit {0}) Failure) × SetsSteps steps result before after × RepliesSetting result text
